-- Worked examples, computed from the definitions.
use Rattle.desk_call.proofs.Common.{◌≡◌, ℕ, List, [], ◌∷◌, ◌++◌, map, Some, None, codes, refl, Headers, Lines}
use Rattle.dbc_words.specs.Name.{is_name}
use Rattle.office_types.specs.declared.command.Task.TheVariants as task
use Rattle.desk_types.specs.declared.problem.Problem.TheVariants.{BadRequest}
use Rattle.desk_head.specs.Fields.{named}
use Rattle.desk_head.specs.declared.demand.Demand.TheVariants as demand
use Rattle.desk_head.specs.declared.endpoint.Posting.TheVariants.{Import}
use Rattle.desk_head.specs.declared.endpoint.Showing.TheVariants as showing
use Rattle.desk_call.specs.Call.{arrives, arrival_of, call_by, fails, look_of}
use Rattle.office_types.specs.declared.look.Look.TheVariants as look
use Rattle.office_types.specs.declared.overview.Overview.TheVariants as overview
use Rattle.office_types.specs.declared.overview.TeamOverview.TheVariants as of_team
use Rattle.office_types.specs.declared.look.NetLook.TheVariants as of_net
use Rattle.office_types.specs.declared.sought.Sought.TheVariants as sought

abbrev headers : List ℕ → List ℕ → Headers
headers team key = (codes "Team", team) ∷ (codes "Request-Key", key) ∷ []

-- bytes after the request don't count
taken : call_by (demand.Does Import 4) (codes "/import/truck") (headers (codes "engine") (codes "i1")) (codes "BU_:GET")
    ≡ arrives (record {
      team = codes "engine";
      key = codes "i1";
      content = codes "/import/truck BU_:";
      command = record { net = codes "truck"; task = task.Import (codes "BU_:") };
    })
unfolding arrival_of named
taken = refl

-- a body that ends too early
cut_off : call_by (demand.Does Import 5) (codes "/import/truck") (headers (codes "engine") (codes "i1")) (codes "BU_:")
    ≡ fails BadRequest
cut_off = refl

-- ---- headers

not_imported : arrival_of Import (codes "/import/Truck") (headers (codes "engine") (codes "i1")) []
    ∷ arrival_of Import (codes "/import/truck") (headers (codes "Engine") (codes "i1")) []
    ∷ arrival_of Import (codes "/import/truck") (headers (codes "engine") (codes "-")) []
    ∷ arrival_of Import (codes "/import/truck") (headers (codes "engine") (codes "i 1")) []
    ∷ arrival_of Import (codes "/import/truck") ((codes "Team", codes "engine") ∷ []) []
    ∷ arrival_of Import (codes "/import/truck")
    (headers (codes "engine") (codes "i1") ++ headers (codes "engine") (codes "i1")) []
    ∷ []
    ≡ None ∷ None ∷ None ∷ None ∷ None ∷ None ∷ []
unfolding arrival_of named
not_imported = refl

-- ---- what is shown

looks : look_of showing.Nets (codes "/nets")
    ∷ look_of showing.Table (codes "/nets/truck")
    ∷ look_of showing.Live (codes "/nets/truck/live")
    ∷ look_of showing.Chart (codes "/nets/truck/messages/E1")
    ∷ look_of showing.Table (codes "/nets/Truck")
    ∷ look_of showing.Chart (codes "/nets/truck/messages/1E")
    ∷ []
    ≡ Some look.Nets ∷ Some (look.Table (codes "truck")) ∷ Some (look.Live (codes "truck"))
    ∷ Some (look.Chart (codes "truck") (codes "E1")) ∷ None ∷ None ∷ []
unfolding is_name
looks = refl

of_a_network : look_of (showing.Overview overview.State) (codes "/nets/truck/state")
    ∷ look_of (showing.OfTeam of_team.Blocks) (codes "/nets/truck/teams/engine/blocks")
    ∷ look_of (showing.OfTeam of_team.Blocks) (codes "/nets/truck/teams/Engine/blocks")
    ∷ look_of showing.Who (codes "/nets/truck/who/pgn=65300")
    ∷ look_of showing.Who (codes "/nets/truck/who/0x18ff0000")
    ∷ look_of showing.Who (codes "/nets/truck/who/65300")
    ∷ look_of showing.Who (codes "/nets/truck/who/pgn=")
    ∷ []
    ≡ Some (look.Net (codes "truck") (of_net.Overview overview.State) Lines)
    ∷ Some (look.Net (codes "truck") (of_net.OfTeam of_team.Blocks (codes "engine")) Lines) ∷ None
    ∷ Some (look.Net (codes "truck") (of_net.Who (sought.Group 65300)) Lines)
    ∷ Some (look.Net (codes "truck") (of_net.Who (sought.Hexadecimal 419364864)) Lines)
    ∷ Some (look.Net (codes "truck") (of_net.Who (sought.Decimal 65300)) Lines) ∷ None ∷ []
unfolding is_name
of_a_network = refl

of_a_team : look_of showing.Requests (codes "/requests/engine")
    ∷ look_of showing.Requests (codes "/requests/Engine")
    ∷ look_of (showing.OfTeam of_team.Messages) (codes "/nets/truck/teams/engine/messages")
    ∷ []
    ≡ Some (look.Requests (codes "engine") Lines) ∷ None
    ∷ Some (look.Net (codes "truck") (of_net.OfTeam of_team.Messages (codes "engine")) Lines) ∷ []
of_a_team = refl

compared : map (look_of showing.Compare) (codes "/nets/truck/compare/1/2" ∷ codes "/nets/truck/compare/0/65536"
    ∷ codes "/nets/truck/compare/01/2" ∷ codes "/nets/truck/compare/1/+2" ∷ codes "/nets/truck/compare/live/2"
    ∷ codes "/nets/truck/compare/1/4294967296" ∷ codes "/nets/Truck/compare/1/2" ∷ [])
    ≡ Some (look.Net (codes "truck") (of_net.Compare 1 2) Lines) ∷ Some (look.Net (codes "truck") (of_net.Compare 0 65536) Lines)
    ∷ Some (look.Net (codes "truck") (of_net.Compare 1 2) Lines) ∷ None ∷ None ∷ None ∷ None ∷ []
compared = refl

releases : map (look_of showing.Release) (codes "/nets/truck/releases/1" ∷ codes "/nets/truck/releases/0065535"
    ∷ codes "/nets/truck/releases/65536" ∷ codes "/nets/truck/releases/0" ∷ codes "/nets/truck/releases/+1"
    ∷ codes "/nets/truck/releases/1.0" ∷ [])
    ≡ Some (look.Release (codes "truck") 1) ∷ Some (look.Release (codes "truck") 65535) ∷ None ∷ None ∷ None ∷ None
    ∷ []
releases = refl
