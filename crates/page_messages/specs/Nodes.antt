-- The nodes, and what they send and receive, as HTML.
use Rattle.std.specs.Prelude.{ℕ, ◌==◌, ◌||◌, nat_lt, Bool, List, [], ◌∷◌, ◌++◌, None, codes, count_by, length}
use Rattle.std.specs.Prelude.{if◌then◌else◌}
use Rattle.std.specs.List.{flat_map}
use Rattle.dbc_sheet.specs.declared.message.Message.{Message}
use Rattle.dbc_sheet.specs.declared.node.Node.{Node}
use Rattle.markup.specs.Html.{element_html, end_tag, start_tag}
use Rattle.markup.specs.Writing.{Writing, adding, beginning, ending}
use Rattle.markup.specs.declared.tag.Tag.TheVariants as tag
use Rattle.office_views.specs.Sending.{receives_some, sends}
use Rattle.page_parts.specs.Frames.{with_part, with_table, with_wide}
use Rattle.page_parts.specs.Words.{cell, isolated, number_cell}
use Rattle.page_messages.specs.Names.{message_head}
use Rattle.page_messages.specs.declared.nodes.TheConstants.{MOST_MESSAGES, MOST_NODES}

-- ---- the nodes

-- what somebody wrote of it, if anything
abbrev pub comment_html : List ℕ → List ℕ
comment_html comment = if length comment == 0 then [] else isolated comment

-- of a node that sends and receives so many messages
abbrev pub counts_cells : ℕ → ℕ → Node → List ℕ
counts_cells sent received node = element_html tag.HeadCell [] node.name
    ++ (number_cell sent ++ (number_cell received ++ cell (comment_html node.comment)))

abbrev pub counts_row : ℕ → ℕ → Node → List ℕ
counts_row sent received node = start_tag tag.Row [] ++ (counts_cells sent received node ++ end_tag tag.Row)

abbrev pub node_row : List Message → Node → List ℕ
node_row messages node =
    counts_row (count_by (sends node.name) messages) (count_by (receives_some node.name) messages) node

-- a row for each node, in their order
abbrev pub with_node_table : List Message → List Node → Writing → Writing
with_node_table messages nodes page =
    ending (ending (ending (adding (flat_map (node_row messages) nodes)
    (with_table (codes "nums") (codes "Node" ∷ codes "Sends" ∷ codes "Receives" ∷ codes "Comment" ∷ [])
    (with_wide (codes "Nodes") page)))))

-- ---- the matrix: a row for each message, a column for each node

abbrev pub sends_html : Message → Node → List ℕ
sends_html m node = if sends node.name m then element_html tag.Bold [] (codes "S") else []

abbrev pub receives_html : Message → Node → List ℕ
receives_html m node = if receives_some node.name m then codes "r" else []

-- S where the node sends the message, r where it receives a signal of it
abbrev pub meeting : Message → Node → List ℕ
meeting m node = cell (sends_html m node ++ receives_html m node)

abbrev pub matrix_row : List Node → Message → List ℕ
matrix_row nodes m =
    start_tag tag.Row [] ++ ((message_head m ++ flat_map (meeting m) nodes) ++ end_tag tag.Row)

abbrev pub node_head : Node → List ℕ
node_head node = start_tag tag.HeadCell [] ++ (element_html tag.Span [] node.name ++ end_tag tag.HeadCell)

-- the heads: a head for each node
abbrev pub matrix_heads : List Node → List ℕ
matrix_heads nodes =
    start_tag tag.TableHead [] ++ (start_tag tag.Row [] ++ (element_html tag.HeadCell [] (codes "S sends, r receives")
    ++ (flat_map node_head nodes ++ (end_tag tag.Row ++ end_tag tag.TableHead))))

-- the matrix up to its rows
abbrev pub with_matrix_heads : List Node → Writing → Writing
with_matrix_heads nodes page =
    beginning tag.TableBody [] (adding (matrix_heads nodes) (beginning tag.Table (codes " class=\"matrix\"")
    (with_wide (codes "Which node sends and receives which message") page)))

abbrev pub with_matrix_in : List Message → List Node → Writing → Writing
with_matrix_in messages nodes page =
    ending (ending (ending (adding (flat_map (matrix_row nodes) messages) (with_matrix_heads nodes page))))

-- it is too large to be shown
abbrev pub is_large : List Message → List Node → Bool
is_large messages nodes = nat_lt MOST_NODES (length nodes) || nat_lt MOST_MESSAGES (length messages)

abbrev pub with_matrix : List Message → List Node → Writing → Writing
with_matrix messages nodes page = if is_large messages nodes then page else with_matrix_in messages nodes page

-- ---- the part

abbrev pub with_nodes_in : List Message → List Node → Writing → Writing
with_nodes_in messages nodes page =
    ending (ending (with_matrix messages nodes (with_node_table messages nodes
    (beginning tag.Division (codes " class=\"pair\"") (with_part (codes "nodes") (codes "Nodes") None page)))))

-- nothing where there is no node
abbrev pub with_nodes : List Message → List Node → Writing → Writing
with_nodes messages nodes page = if length nodes == 0 then page else with_nodes_in messages nodes page
