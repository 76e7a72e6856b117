-- Names in a sheet.
use Rattle.std.specs.Prelude.{ℕ, ◌||◌, ◌++◌, Bool, List, [], codes, length, nat_lt, unwrap_or}
use Rattle.std.specs.List.{list_any}
use Rattle.dbc_sheet.specs.declared.message.Message.{Message}
use Rattle.dbc_sheet.specs.declared.node.Node.{Node}
use Rattle.dbc_sheet.specs.declared.sheet.Sheet.{Sheet}
use Rattle.dbc_sheet.specs.declared.signal.Signal.{Signal}
use Rattle.markup.specs.Html.{element_html, end_tag, escaped, start_tag, valued}
use Rattle.markup.specs.declared.tag.Tag.TheVariants as tag
use Rattle.page_messages.specs.declared.names.TheConstants.{SHORT_NAME}

-- the node that sends the message; no bytes where none is named
abbrev pub sender_of : Message → List ℕ
sender_of m = unwrap_or m.transmitter []

abbrev pub is_long_name : List ℕ → Bool
is_long_name name = nat_lt SHORT_NAME (length name)

-- the name of the signal or of a node that receives it is long
abbrev pub is_long_signal : Signal → Bool
is_long_signal s = is_long_name s.name || list_any is_long_name s.receivers

-- the name of the message, of the node that sends it, or a name in one of its signals is long
abbrev pub is_long_message : Message → Bool
is_long_message m =
    is_long_name m.name || is_long_name (sender_of m) || list_any is_long_signal m.signals

abbrev pub is_long_node : Node → Bool
is_long_node n = is_long_name n.name

-- some name in the sheet is long
abbrev pub is_long : Sheet → Bool
is_long s = list_any is_long_node s.nodes || list_any is_long_message s.messages

-- a link to where all of the message is
abbrev pub message_link : Message → List ℕ
message_link m = element_html tag.Link (valued (codes " href=\"#m-") (escaped m.name)) m.name

-- the head of its row
abbrev pub message_head : Message → List ℕ
message_head m = start_tag tag.HeadCell [] ++ (message_link m ++ end_tag tag.HeadCell)
