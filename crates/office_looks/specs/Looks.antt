-- What is shown of a network.
use Rattle.std.specs.Prelude.{ℕ, List, Option, Some, None, option_map}
use Rattle.office_types.specs.declared.book.SpnBook.{SpnBook}
use Rattle.office_types.specs.declared.look.LookForm.{LookForm}
use Rattle.office_types.specs.declared.look.LookForm.TheVariants.{Json, Lines}
use Rattle.office_types.specs.declared.look.NetLook.{NetLook}
use Rattle.office_types.specs.declared.look.NetLook.TheVariants as look
use Rattle.office_types.specs.declared.overview.Overview.{Overview}
use Rattle.office_types.specs.declared.overview.Overview.TheVariants as overview
use Rattle.office_types.specs.declared.overview.TeamOverview.{TeamOverview}
use Rattle.office_types.specs.declared.overview.TeamOverview.TheVariants as of_team
use Rattle.office_types.specs.declared.state.Net.{Net}
use Rattle.office_seen.specs.View.{view_of}
use Rattle.office_seen.specs.declared.view.View.{View}
use Rattle.office_blocks.specs.Blocks.{blocks_table}
use Rattle.office_spns.specs.Spns.{spns_table}
use Rattle.office_looks.specs.Compared.{compared_table}
use Rattle.office_looks.specs.Held.{held_table}
use Rattle.office_looks.specs.Message.{message_table, message_text}
use Rattle.office_looks.specs.Messages.{messages_table}
use Rattle.office_looks.specs.Nodes.{node_table, nodes_table}
use Rattle.office_looks.specs.Releases.{releases_table}
use Rattle.office_looks.specs.State.{state_table}
use Rattle.office_looks.specs.Who.{who_table}
use Rattle.rows.specs.Json.{table_json}
use Rattle.rows.specs.Lines.{table_text}
use Rattle.rows.specs.Table.{Listing}

abbrev pub overview_table : Overview → View → Listing
overview_table overview.State view = state_table view
overview_table overview.Blocks view = blocks_table None view
overview_table overview.Messages view = messages_table None view
overview_table overview.Held view = held_table view
overview_table overview.Releases view = releases_table view
overview_table overview.Nodes view = nodes_table view
overview_table overview.Spns view = spns_table view

-- of what is the team's
abbrev pub of_team_table : TeamOverview → List ℕ → View → Listing
of_team_table of_team.Blocks team view = blocks_table (Some team) view
of_team_table of_team.Messages team view = messages_table (Some team) view

-- the list that the look is; nothing where there is no such message, node, name, number or release
abbrev pub table_of : NetLook → View → Option Listing
table_of (look.Overview o) view = Some (overview_table o view)
table_of (look.OfTeam o team) view = Some (of_team_table o team view)
table_of (look.Message name) view = message_table name view
table_of (look.Node name) view = node_table name view
table_of (look.Who sought) view = who_table sought view
table_of (look.Compare old new) view = compared_table old new view

abbrev pub list_in : LookForm → Listing → List ℕ
list_in Lines t = table_text t
list_in Json t = table_json t

-- as lines: those of the list, and of a message its chart
abbrev pub text_of : NetLook → View → Option (List ℕ)
text_of (look.Message name) view = message_text name view
text_of look view = option_map (list_in Lines) (table_of look view)

-- in this form; nothing exactly where there is no such message, node, release, or name or number
abbrev pub shown_of : LookForm → NetLook → View → Option (List ℕ)
shown_of Lines look view = text_of look view
shown_of Json look view = option_map (list_in Json) (table_of look view)

-- of the network, where it is there
abbrev pub net_shown : LookForm → Option Net → SpnBook → NetLook → Option (List ℕ)
net_shown form None book look = None
net_shown form (Some net) book look = shown_of form look (view_of net book)
