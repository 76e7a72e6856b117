-- The nodes, and what one of them sends and receives.
use Rattle.std.specs.Prelude.{ℕ, List, [], ◌∷◌, ◌++◌, length, map, filter, count_by, codes}
use Rattle.std.specs.Prelude.{Option, Some, None, if◌then◌else◌}
use Rattle.dbc_sheet.specs.declared.message.Message.{Message}
use Rattle.dbc_sheet.specs.declared.node.Node.{Node}
use Rattle.office_rules.specs.Facts.{has_node}
use Rattle.office_views.specs.Sending.{received, receives_some, sends}
use Rattle.office_seen.specs.declared.view.View.{View}
use Rattle.office_looks.specs.declared.nodes.TheConstants.{NODES, NODE_TOTALS, USES, USE_TOTALS}
use Rattle.rows.specs.Fact.{Fact, of_ident, of_name, of_number, of_rest}
use Rattle.rows.specs.Table.{Listing, plain}

-- of a node that sends and receives so many messages
abbrev pub counts_row : ℕ → ℕ → Node → List Fact
counts_row sends receives node =
    of_number sends ∷ of_number receives ∷ of_name node.name ∷ of_rest node.comment ∷ []

abbrev pub node_row : List Message → Node → List Fact
node_row messages node =
    counts_row (count_by (sends node.name) messages) (count_by (receives_some node.name) messages) node

abbrev pub nodes_table : View → Listing
nodes_table view =
    plain NODES (map (node_row view.sheet.messages) view.sheet.nodes) NODE_TOTALS
    (of_number (length view.sheet.nodes) ∷ [])

-- ---- one node: the messages that it sends, then those that it receives, with how many signals

abbrev pub use_row : List ℕ → Message → ℕ → List Fact
use_row verb m signals = of_name verb ∷ of_ident (Some m.ident) ∷ of_number signals ∷ of_name m.name ∷ []

-- the messages that it sends, with all their signals
abbrev pub sent_rows : List ℕ → List Message → List (List Fact)
sent_rows node messages =
    map (λ (m : Message). use_row (codes "sends") m (length m.signals)) (filter (sends node) messages)

-- the messages of which it receives a signal, with those that it receives
abbrev pub received_rows : List ℕ → List Message → List (List Fact)
received_rows node messages =
    map (λ (m : Message). use_row (codes "receives") m (received node m)) (filter (receives_some node) messages)

abbrev pub uses_table : List ℕ → List Message → Listing
uses_table node messages =
    plain USES (sent_rows node messages ++ received_rows node messages) USE_TOTALS
    (of_number (count_by (sends node) messages) ∷ of_number (count_by (receives_some node) messages) ∷ [])

abbrev pub node_table : List ℕ → View → Option Listing
node_table node view =
    if has_node view.sheet.nodes node then Some (uses_table node view.sheet.messages) else None
