-- What the words of `show`, `page` and `requests` look up. A word that hasn't the form of what it names looks up
-- nothing.
use Rattle.std.specs.Prelude.{◌==◌, ℕ, Bool, List, Option, Some, None, if◌then◌else◌}
use Rattle.std.specs.Option.{option_map}
use Rattle.office_fields.specs.Value.{◌>>=◌, name_of, plain_name_of}
use Rattle.office_types.specs.Sought.{sought_of}
use Rattle.office_types.specs.declared.look.Look.{Look}
use Rattle.office_types.specs.declared.look.Look.TheVariants as look
use Rattle.office_types.specs.Look.{form_of, formed}
use Rattle.office_types.specs.declared.look.LookForm.TheVariants.{Lines}
use Rattle.office_types.specs.declared.look.NetLook.{NetLook}
use Rattle.office_types.specs.declared.look.NetLook.TheVariants as of_net
use Rattle.office_types.specs.declared.overview.Overview.{Overview}
use Rattle.office_types.specs.declared.overview.Overview.TheVariants as overview
use Rattle.office_types.specs.declared.overview.TeamOverview.{TeamOverview}
use Rattle.office_types.specs.declared.overview.TeamOverview.TheVariants as of_team
use Rattle.canoffice_jobs.specs.declared.what.What.{What}
use Rattle.canoffice_jobs.specs.declared.what.What.TheVariants as what

-- an overview of what is the team's of the name, or of the node of the name; all else has no names
abbrev pub of_team_look : TeamOverview → List ℕ → Option NetLook
of_team_look o word = option_map (λ team. of_net.OfTeam o team) (plain_name_of word)

abbrev pub node_look : List ℕ → Option NetLook
node_look word = option_map of_net.Node (name_of word)

abbrev pub named_look : Overview → List ℕ → Option NetLook
named_look overview.Blocks word = of_team_look of_team.Blocks word
named_look overview.Messages word = of_team_look of_team.Messages word
named_look overview.Nodes word = node_look word
named_look o word = Some (of_net.Overview o)

-- all, or those of the name
abbrev pub overview_look : Overview → Option (List ℕ) → Option NetLook
overview_look o None = Some (of_net.Overview o)
overview_look o (Some word) = named_look o word

abbrev pub message_look : Option (List ℕ) → Option NetLook
message_look name = option_map of_net.Message (name >>= name_of)

abbrev pub who_look : Option (List ℕ) → Option NetLook
who_look name = option_map of_net.Who (name >>= sought_of)

-- what is looked up of a network, by the name after it, if there is one
abbrev pub net_look : What → Option (List ℕ) → Option NetLook
net_look (what.Overview o) name = overview_look o name
net_look what.Message name = message_look name
net_look what.Who name = who_look name

-- the same of the network that a word names, where JSON is wanted or not; without one the list of networks
abbrev pub show_look : Option (List ℕ) → What → Option (List ℕ) → Bool → Option Look
show_look None what name json = Some look.Nets
show_look (Some word) what name json = plain_name_of word
    >>= λ net. option_map (λ l. formed json (look.Net net l Lines)) (net_look what name)

-- the page of release N of a network, or of the live network for 0
abbrev pub page_requested : List ℕ → ℕ → Look
page_requested net number = if number == 0 then look.Page net else look.ReleasePage net number

-- the same of the network that a word names
abbrev pub page_look : List ℕ → ℕ → Option Look
page_look word number = option_map (λ net. page_requested net number) (plain_name_of word)

-- the requests of the team that a word names, where JSON is wanted or not
abbrev pub requests_look : List ℕ → Bool → Option Look
requests_look word json = option_map (λ team. look.Requests team (form_of json)) (plain_name_of word)
