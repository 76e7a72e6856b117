-- Worked examples, computed from the definitions.
use Rattle.canoffice_jobs.proofs.Common.{◌≡◌, ℕ, List, [], ◌∷◌, Option, Some, None, true, false, codes, refl}
use Rattle.dbc_words.specs.Name.{is_name}
use Rattle.office_types.specs.declared.look.Look.TheVariants as look
use Rattle.office_types.specs.declared.look.LookForm.TheVariants.{Json, Lines}
use Rattle.office_types.specs.declared.look.NetLook.TheVariants as of_net
use Rattle.office_types.specs.declared.overview.Overview.TheVariants as overview
use Rattle.office_types.specs.declared.overview.TeamOverview.TheVariants as of_team
use Rattle.office_types.specs.declared.sought.Sought.TheVariants as sought
use Rattle.canoffice_jobs.specs.What.{shown_by}
use Rattle.canoffice_jobs.specs.Words.{page_look, requests_look, show_look}
use Rattle.canoffice_jobs.specs.declared.what.What.{What}
use Rattle.canoffice_jobs.specs.declared.what.What.TheVariants as what

-- ---- what is shown

state_is_left_out : shown_by (Some (codes "truck")) None None false ≡ Some (what.Overview overview.State)
state_is_left_out = refl

abbrev shown_of_truck : Option (List ℕ) → Option (List ℕ) → Option What
shown_of_truck word name = shown_by (Some (codes "truck")) word name false

of_words : shown_of_truck (Some (codes "held")) None ∷ shown_of_truck (Some (codes "blocks")) None
    ∷ shown_of_truck (Some (codes "blocks")) (Some (codes "brakes"))
    ∷ shown_of_truck (Some (codes "message")) (Some (codes "EEC1"))
    ∷ shown_of_truck (Some (codes "who")) (Some (codes "pgn=65300")) ∷ []
    ≡ Some (what.Overview overview.Held) ∷ Some (what.Overview overview.Blocks)
    ∷ Some (what.Overview overview.Blocks) ∷ Some what.Message ∷ Some what.Who ∷ []
of_words = refl

-- no such word, a name too many, and none where one is needed
of_wrong_words : shown_of_truck (Some (codes "block")) None ∷ shown_of_truck (Some (codes "")) None
    ∷ shown_of_truck (Some (codes "state")) (Some (codes "brakes"))
    ∷ shown_of_truck (Some (codes "held")) (Some (codes ""))
    ∷ shown_of_truck (Some (codes "message")) None ∷ shown_of_truck (Some (codes "who")) None ∷ []
    ≡ None ∷ None ∷ None ∷ None ∷ None ∷ None ∷ []
of_wrong_words = refl

-- of a network; the list of networks has none
as_json : shown_by (Some (codes "truck")) (Some (codes "held")) None true ∷ shown_by (Some (codes "truck")) None None true
    ∷ shown_by None None None true ∷ shown_by None None None false ∷ []
    ≡ Some (what.Overview overview.Held) ∷ Some (what.Overview overview.State) ∷ None
    ∷ Some (what.Overview overview.State) ∷ []
as_json = refl

-- ---- what is looked up

looks : show_look None (what.Overview overview.State) None false
    ∷ show_look (Some (codes "truck")) (what.Overview overview.State) None false
    ∷ show_look (Some (codes "truck")) (what.Overview overview.Messages) (Some (codes "brakes")) false
    ∷ show_look (Some (codes "truck")) (what.Overview overview.Nodes) (Some (codes "Engine")) true
    ∷ show_look (Some (codes "truck")) what.Who (Some (codes "0x18FF0000")) false ∷ []
    ≡ Some look.Nets ∷ Some (look.Net (codes "truck") (of_net.Overview overview.State) Lines)
    ∷ Some (look.Net (codes "truck") (of_net.OfTeam of_team.Messages (codes "brakes")) Lines)
    ∷ Some (look.Net (codes "truck") (of_net.Node (codes "Engine")) Json)
    ∷ Some (look.Net (codes "truck") (of_net.Who (sought.Hexadecimal 419364864)) Lines) ∷ []
unfolding is_name
looks = refl

pages : page_look (codes "truck") 0 ∷ page_look (codes "truck") 2 ∷ page_look (codes "Truck") 2 ∷ []
    ≡ Some (look.Page (codes "truck")) ∷ Some (look.ReleasePage (codes "truck") 2) ∷ None ∷ []
pages = refl

-- words that have no such form
no_looks : show_look (Some (codes "Truck")) (what.Overview overview.State) None false
    ∷ show_look (Some (codes "truck")) (what.Overview overview.Messages) (Some (codes "Brakes")) false
    ∷ show_look (Some (codes "truck")) (what.Overview overview.Nodes) (Some (codes "1Engine")) true
    ∷ show_look (Some (codes "truck")) what.Who (Some (codes "pgn=")) false ∷ requests_look (codes "") false ∷ []
    ≡ None ∷ None ∷ None ∷ None ∷ None ∷ []
unfolding is_name
no_looks = refl
