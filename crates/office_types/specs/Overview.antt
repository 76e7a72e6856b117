-- The words of overviews, and their paths.
use Rattle.std.specs.Prelude.{ℕ, List, ◌++◌, codes}
use Rattle.office_types.specs.declared.overview.Overview.{Overview}
use Rattle.office_types.specs.declared.overview.Overview.TheVariants as overview
use Rattle.office_types.specs.declared.overview.TeamOverview.{TeamOverview}
use Rattle.office_types.specs.declared.overview.TeamOverview.TheVariants as of_team

abbrev pub overview_word : Overview → List ℕ
overview_word overview.State = codes "state"
overview_word overview.Blocks = codes "blocks"
overview_word overview.Messages = codes "messages"
overview_word overview.Held = codes "held"
overview_word overview.Releases = codes "releases"
overview_word overview.Nodes = codes "nodes"
overview_word overview.Spns = codes "spns"

-- where a desk shows it of the network
abbrev pub overview_path : Overview → List ℕ
overview_path o = codes "/nets/{net}/" ++ overview_word o

abbrev pub of_all_teams : TeamOverview → Overview
of_all_teams of_team.Blocks = overview.Blocks
of_all_teams of_team.Messages = overview.Messages
