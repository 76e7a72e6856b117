-- Worked examples, computed from the definitions.
use Rattle.std.proofs.Common.{◌≡◌, ℕ, List, [], ◌∷◌, ◌++◌, map, Some, None, Ok, Err, codes, refl, arith}
use Rattle.httparse.specs.Grammar.{RequestHead, Field, crlf, lf, print_request, trim_ows}
use Rattle.std.specs.Fmt.{digits}
use Rattle.matchit.proofs.OnLiterals.{matchit_on_literals}
use Rattle.dbc_words.specs.Name.{is_name}
use Rattle.office_types.specs.declared.look.Look.TheVariants as look
use Rattle.office_types.specs.declared.look.LookForm.TheVariants.{Lines}
use Rattle.office_types.specs.declared.overview.Overview.TheVariants as overview
use Rattle.office_types.specs.declared.overview.TeamOverview.TheVariants as of_team
use Rattle.office_types.specs.declared.look.NetLook.TheVariants as of_net
use Rattle.office_types.specs.declared.sought.Sought.TheVariants as sought
use Rattle.office_fields.specs.declared.kind.ActionKind.TheVariants as act
use Rattle.desk_types.specs.declared.problem.Problem.TheVariants.{BadRequest, NotFound, WrongMethod, NoLength, TooLarge}
use Rattle.desk_head.specs.Asked.{target_of}
use Rattle.desk_head.specs.Demand.{demand_of}
use Rattle.desk_head.specs.Fields.{Headers, body_length, named}
use Rattle.desk_head.specs.Target.{endpoint_of, first_parameter, second_parameter, the_routes, third_parameter}
use Rattle.desk_head.specs.Target.{with_route}
use Rattle.desk_head.specs.declared.demand.Demand.TheVariants as demand
use Rattle.desk_head.specs.declared.endpoint.Endpoint.TheVariants.{Shows, Does}
use Rattle.desk_head.specs.declared.endpoint.Posting.TheVariants.{Act, Import}
use Rattle.desk_head.specs.declared.endpoint.Showing.TheVariants as showing
use Rattle.desk_head.proofs.Leading.{targets_lead_there}

-- ---- targets

shown : map endpoint_of (codes "/nets" ∷ codes "/nets/truck" ∷ codes "/nets/truck/live"
    ∷ codes "/nets/truck/releases/1" ∷ codes "/nets/truck/messages/E1" ∷ [])
    ≡ Some (Shows showing.Nets) ∷ Some (Shows showing.Table) ∷ Some (Shows showing.Live)
    ∷ Some (Shows showing.Release) ∷ Some (Shows showing.Chart) ∷ []
unfolding endpoint_of the_routes with_route matchit_on_literals
shown = refl

-- the names of routes are names of networks too
awkward : map endpoint_of (codes "/nets/live" ∷ codes "/nets/releases" ∷ codes "/nets/live/live"
    ∷ codes "/import/nets" ∷ [])
    ≡ Some (Shows showing.Table) ∷ Some (Shows showing.Table) ∷ Some (Shows showing.Live) ∷ Some (Does Import) ∷ []
unfolding endpoint_of the_routes with_route matchit_on_literals
awkward = refl

commands : map endpoint_of (codes "/do/take_ident" ∷ codes "/do/release" ∷ codes "/do/import" ∷ codes "/do/fly"
    ∷ codes "/do/Release" ∷ [])
    ≡ Some (Does (Act act.TakeIdent)) ∷ Some (Does (Act act.Release)) ∷ None ∷ None ∷ None ∷ []
unfolding endpoint_of the_routes with_route matchit_on_literals
commands = refl

nothing : map endpoint_of (codes "/" ∷ codes "*" ∷ codes "nets" ∷ codes "/Nets" ∷ codes "/nets?a=1" ∷ codes "/do/"
    ∷ codes "/do/take_ident/" ∷ [])
    ≡ None ∷ None ∷ None ∷ None ∷ None ∷ None ∷ None ∷ []
unfolding endpoint_of the_routes with_route matchit_on_literals
nothing = refl

empty_parts : map endpoint_of (codes "/nets/" ∷ codes "/nets//live" ∷ codes "/nets/truck/"
    ∷ codes "/nets/truck/live/" ∷ [])
    ≡ None ∷ None ∷ None ∷ None ∷ []
unfolding endpoint_of the_routes with_route matchit_on_literals
empty_parts = refl

of_a_network : map endpoint_of (codes "/nets/truck/state" ∷ codes "/nets/truck/blocks" ∷ codes "/nets/truck/messages"
    ∷ codes "/nets/truck/held" ∷ codes "/nets/truck/releases" ∷ codes "/nets/truck/nodes"
    ∷ codes "/nets/truck/spns" ∷ [])
    ≡ Some (Shows (showing.Overview overview.State)) ∷ Some (Shows (showing.Overview overview.Blocks)) ∷ Some (Shows (showing.Overview overview.Messages))
    ∷ Some (Shows (showing.Overview overview.Held)) ∷ Some (Shows (showing.Overview overview.Releases)) ∷ Some (Shows (showing.Overview overview.Nodes))
    ∷ Some (Shows (showing.Overview overview.Spns)) ∷ []
unfolding endpoint_of the_routes with_route matchit_on_literals
of_a_network = refl

of_a_node : endpoint_of (codes "/nets/truck/nodes/Engine") ≡ Some (Shows showing.Node)
unfolding endpoint_of the_routes with_route matchit_on_literals
of_a_node = refl

who_has_it : endpoint_of (codes "/nets/truck/who/pgn=65300") ≡ Some (Shows showing.Who)
unfolding endpoint_of the_routes with_route matchit_on_literals
who_has_it = refl

who_alone : endpoint_of (codes "/nets/truck/who") ≡ None
unfolding endpoint_of the_routes with_route matchit_on_literals
who_alone = refl

of_a_team : map endpoint_of (codes "/requests/engine" ∷ codes "/requests" ∷ codes "/requests/" ∷ [])
    ≡ Some (Shows showing.Requests) ∷ None ∷ None ∷ []
unfolding endpoint_of the_routes with_route matchit_on_literals
of_a_team = refl

-- by the law, since their search takes too many steps to compute
of_a_message : endpoint_of (codes "/nets/truck/messages/E1/signals") ≡ Some (Shows showing.Message)
unfolding is_name
of_a_message = targets_lead_there (look.Net (codes "truck") (of_net.Message (codes "E1")) Lines) (refl, refl)

blocks_of_a_team : endpoint_of (codes "/nets/truck/teams/engine/blocks") ≡ Some (Shows (showing.OfTeam of_team.Blocks))
blocks_of_a_team = targets_lead_there (look.Net (codes "truck") (of_net.OfTeam of_team.Blocks (codes "engine")) Lines) (refl, refl)

messages_of_a_team : endpoint_of (codes "/nets/truck/teams/engine/messages") ≡ Some (Shows (showing.OfTeam of_team.Messages))
messages_of_a_team =
    targets_lead_there (look.Net (codes "truck") (of_net.OfTeam of_team.Messages (codes "engine")) Lines) (refl, refl)

compared : endpoint_of (codes "/nets/truck/compare/1/0") ≡ Some (Shows showing.Compare)
unfolding digits
compared = targets_lead_there (look.Net (codes "truck") (of_net.Compare 1 0) Lines) (refl, (omega arith, omega arith))

page_of_a_network : map endpoint_of (codes "/nets/truck/page" ∷ codes "/nets/page" ∷ codes "/nets/page/page" ∷ [])
    ≡ Some (Shows showing.Page) ∷ Some (Shows showing.Table) ∷ Some (Shows showing.Page) ∷ []
unfolding endpoint_of the_routes with_route matchit_on_literals
page_of_a_network = refl

page_of_a_release : endpoint_of (codes "/nets/truck/releases/1/page") ≡ Some (Shows showing.ReleasePage)
unfolding digits
page_of_a_release = targets_lead_there (look.ReleasePage (codes "truck") 1) (refl, omega arith)

-- no parameter has a slash
longer : map endpoint_of (codes "/import/a/b" ∷ codes "/nets/a/b" ∷ []) ≡ None ∷ None ∷ []
unfolding endpoint_of the_routes with_route matchit_on_literals
longer = refl

parameters : first_parameter (codes "/do/take_ident") ∷ first_parameter (codes "/nets/truck/releases/1")
    ∷ second_parameter (codes "/nets/truck/releases/1") ∷ first_parameter (codes "/nets")
    ∷ second_parameter (codes "/nets/truck/compare/1/20") ∷ third_parameter (codes "/nets/truck/compare/1/20")
    ∷ third_parameter (codes "/nets/truck/releases/1") ∷ []
    ≡ codes "take_ident" ∷ codes "truck" ∷ codes "1" ∷ [] ∷ codes "1" ∷ codes "20" ∷ [] ∷ []
parameters = refl

-- ---- the targets of looks

targets : map target_of (look.Nets ∷ look.Release (codes "truck") 12 ∷ look.Net (codes "truck") (of_net.Overview overview.State) Lines
    ∷ look.Net (codes "truck") (of_net.OfTeam of_team.Blocks (codes "engine")) Lines
    ∷ look.Net (codes "truck") (of_net.Message (codes "E1")) Lines
    ∷ look.Net (codes "truck") (of_net.Who (sought.Hexadecimal 419364864)) Lines
    ∷ look.Net (codes "truck") (of_net.Who (sought.Group 65300)) Lines
    ∷ look.Net (codes "truck") (of_net.Compare 12 0) Lines ∷ look.Page (codes "truck")
    ∷ look.ReleasePage (codes "truck") 12 ∷ look.Requests (codes "engine") Lines ∷ [])
    ≡ codes "/nets" ∷ codes "/nets/truck/releases/12" ∷ codes "/nets/truck/state"
    ∷ codes "/nets/truck/teams/engine/blocks" ∷ codes "/nets/truck/messages/E1/signals"
    ∷ codes "/nets/truck/who/0x18ff0000" ∷ codes "/nets/truck/who/pgn=65300"
    ∷ codes "/nets/truck/compare/12/0" ∷ codes "/nets/truck/page" ∷ codes "/nets/truck/releases/12/page"
    ∷ codes "/requests/engine" ∷ []
unfolding digits
targets = refl

-- ---- header fields

abbrev two : Headers
two = (codes "Team", codes "engine") ∷ (codes "content-LENGTH", codes "51") ∷ (codes "TEAM", codes "brake") ∷ []

under_a_name : map (λ name. named name two) (codes "team" ∷ codes "Content-Length" ∷ codes "Content" ∷ [])
    ≡ (codes "engine" ∷ codes "brake" ∷ []) ∷ (codes "51" ∷ []) ∷ [] ∷ []
unfolding named
under_a_name = refl

abbrev of_length : List ℕ → Headers
of_length text = (codes "Content-Length", text) ∷ []

lengths : map (λ text. body_length (of_length text)) (codes "51" ∷ codes "0" ∷ codes "4194304"
    ∷ codes "0000000000000000051" ∷ [])
    ≡ Ok 51 ∷ Ok 0 ∷ Ok 4194304 ∷ Ok 51 ∷ []
unfolding body_length named
lengths = refl

too_large : map (λ text. body_length (of_length text)) (codes "4194305" ∷ codes "4294967296"
    ∷ codes "9999999999999999999" ∷ [])
    ≡ Err TooLarge ∷ Err TooLarge ∷ Err TooLarge ∷ []
unfolding body_length named
too_large = refl

no_length : map (λ text. body_length (of_length text)) ([] ∷ codes "+51" ∷ codes "-1" ∷ codes "5 1" ∷ codes "0x33"
    ∷ codes "51,51" ∷ codes "00000000000000000051" ∷ [])
    ≡ Err BadRequest ∷ Err BadRequest ∷ Err BadRequest ∷ Err BadRequest ∷ Err BadRequest ∷ Err BadRequest
    ∷ Err BadRequest ∷ []
unfolding body_length named
no_length = refl

without_length : body_length two ∷ body_length [] ∷ body_length (of_length (codes "51") ++ of_length (codes "51"))
    ∷ body_length ((codes "Transfer-Encoding", codes "chunked") ∷ [])
    ∷ body_length ((codes "transfer-encoding", []) ∷ of_length (codes "51")) ∷ []
    ≡ Ok 51 ∷ Err NoLength ∷ Err BadRequest ∷ Err BadRequest ∷ Err BadRequest ∷ []
unfolding body_length named
without_length = refl

-- ---- heads

abbrev field : List ℕ → List ℕ → Field
field name raw = record { name = name; raw = raw; end = crlf }

abbrev taking : List ℕ → RequestHead
taking method = record {
  blank = [];
  method = method;
  target = codes "/do/take_ident";
  minor = 1;
  line_end = crlf;
  fields = field (codes "Team") (codes " engine") ∷ field (codes "Request-Key") (codes " a1")
      ∷ field (codes "Content-Length") (codes " 51\t") ∷ [];
  last = crlf;
}

text_of_taking : print_request (taking (codes "POST"))
    ≡ codes "POST /do/take_ident HTTP/1.1\r\nTeam: engine\r\nRequest-Key: a1\r\nContent-Length: 51\t\r\n\r\n"
unfolding print_request
text_of_taking = refl

methods : map (λ method. demand_of (taking method)) (codes "POST" ∷ codes "GET" ∷ codes "post" ∷ codes "HEAD" ∷ [])
    ≡ demand.Does (Act act.TakeIdent) 51 ∷ demand.Fails WrongMethod ∷ demand.Fails WrongMethod
    ∷ demand.Fails WrongMethod ∷ []
unfolding demand_of endpoint_of the_routes with_route matchit_on_literals body_length named trim_ows
methods = refl

-- on a `GET` no header of a body is looked at, and where there is nothing the method doesn't matter
abbrev coded_get : List ℕ → RequestHead
coded_get target = record {
  blank = crlf ∷ [];
  method = codes "GET";
  target = target;
  minor = 0;
  line_end = lf;
  fields = field (codes "Transfer-Encoding") (codes "chunked") ∷ [];
  last = lf;
}

gets : map (λ target. demand_of (coded_get target)) (codes "/nets" ∷ codes "/net" ∷ codes "/import/truck" ∷ [])
    ≡ demand.Shows showing.Nets ∷ demand.Fails NotFound ∷ demand.Fails WrongMethod ∷ []
unfolding demand_of endpoint_of the_routes with_route matchit_on_literals
gets = refl

not_posted : map (λ method. demand_of (record (coded_get (codes "/nets/truck/state")) { method = method }))
    (codes "POST" ∷ codes "HEAD" ∷ codes "get" ∷ [])
    ≡ demand.Fails WrongMethod ∷ demand.Fails WrongMethod ∷ demand.Fails WrongMethod ∷ []
unfolding demand_of endpoint_of the_routes with_route matchit_on_literals
not_posted = refl
