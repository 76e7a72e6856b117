-- What the statements of a DBC file say together (Vector's DBC File Format Documentation, in this project's dialect): a
-- sheet, and which of them are skipped. They may come in any order, so a comment may come before its message. Of
-- several about one thing the last one counts, and if there is none, the value is the empty one: no bytes, no texts,
-- the number 0, or the type of whole numbers.
use Rattle.std.specs.Prelude.{
  ◌≡◌,
  ℕ,
  ◌==◌,
  nat_eq,
  Bool,
  true,
  false,
  not,
  ◌&&◌,
  if◌then◌else◌,
  List,
  [],
  ◌∷◌,
  map,
  filter,
  Option,
  Some,
  None,
  unwrap_or,
  IsPermutation,
}
use Rattle.std.specs.List.{filter_map, flat_map, last_or, list_any}
use Rattle.std.specs.Option.{option_map}
use Rattle.std.specs.Str.{bytes_eq}
use Rattle.can_id.specs.Ident.{dbc_number}
use Rattle.dbc_sheet.specs.Form.{IsSheet}
use Rattle.dbc_grammar.specs.Statement.{
  Cited,
  Content,
  VersionIs,
  NodesAre,
  TableIs,
  MessageIs,
  CommentIs,
  NodeCommentIs,
  MessageCommentIs,
  SignalCommentIs,
  ValueTextsAre,
  ValueTypeIs,
  SpnIs,
  PassedOver,
  MessageLine,
  SignalLine,
  Statement,
}
use Rattle.dbc_words.specs.declared.keyword.Keyword.{Keyword}
use Rattle.dbc_words.specs.declared.value_type.ValueType.{ValueType}
use Rattle.dbc_words.specs.declared.value_type.ValueType.TheVariants.{Integer}
use Rattle.dbc_sheet.specs.declared.message.Message.{Message}
use Rattle.dbc_sheet.specs.declared.node.Node.{Node}
use Rattle.dbc_sheet.specs.declared.sheet.Sheet.{Sheet}
use Rattle.dbc_sheet.specs.declared.signal.Signal.{Signal}
use Rattle.dbc_sheet.specs.declared.value_table.ValueTable.{ValueTable}
use Rattle.dbc_sheet.specs.declared.value_texts.ValueText.{ValueText}

-- The value of the last pair with the key k, or else o.
abbrev pub last_at : {K V : Type 0} → (K → K → Bool) → K → Option V → List (K × V) → Option V
last_at same k o [] = o
last_at same k o (p ∷ ps) = last_at same k (if same p.0 k then Some p.1 else o) ps

-- A signal of a file is identified by the number of its message and its own name.
abbrev pub SignalKey : Type 0
SignalKey = ℕ × List ℕ

abbrev pub same_signal : SignalKey → SignalKey → Bool
same_signal a b = a.0 == b.0 && bytes_eq a.1 b.1

-- v for the signal that is cited; nothing if no message is cited
abbrev pub with_signal_key : {V : Type 0} → Cited → List ℕ → V → Option (SignalKey × V)
with_signal_key cited name v = option_map (λ number. ((number, name), v)) cited

-- What one statement says, by kind: about the file, or with the name, number or key of what it is about.

abbrev pub version_in : Content → Option (List ℕ)
version_in (VersionIs text) = Some text
version_in content = None

abbrev pub comment_in : Content → Option (List ℕ)
comment_in (CommentIs text) = Some text
comment_in content = None

abbrev pub nodes_in : Content → Option (List (List ℕ))
nodes_in (NodesAre names) = Some names
nodes_in content = None

abbrev pub table_in : Content → Option ValueTable
table_in (TableIs name entries) = Some (record { name = name; entries = entries })
table_in content = None

abbrev pub message_in : Content → Option MessageLine
message_in (MessageIs line) = Some line
message_in content = None

abbrev pub node_comment_in : Content → Option (List ℕ × List ℕ)
node_comment_in (NodeCommentIs name text) = Some (name, text)
node_comment_in content = None

abbrev pub message_comment_in : Content → Option (ℕ × List ℕ)
message_comment_in (MessageCommentIs cited text) = option_map (λ number. (number, text)) cited
message_comment_in content = None

abbrev pub signal_comment_in : Content → Option (SignalKey × List ℕ)
signal_comment_in (SignalCommentIs cited name text) = with_signal_key cited name text
signal_comment_in content = None

abbrev pub value_texts_in : Content → Option (SignalKey × List ValueText)
value_texts_in (ValueTextsAre cited name texts) = with_signal_key cited name texts
value_texts_in content = None

abbrev pub value_type_in : Content → Option (SignalKey × ValueType)
value_type_in (ValueTypeIs cited name value_type) = with_signal_key cited name value_type
value_type_in content = None

abbrev pub spn_in : Content → Option (SignalKey × ℕ)
spn_in (SpnIs cited name spn) = with_signal_key cited name spn
spn_in content = None

-- What all statements say.

-- all that they say of one kind, in their order
abbrev pub each_in : {X : Type 0} → (Content → Option X) → List Statement → List X
each_in kind statements = filter_map (λ (s : Statement). kind s.content) statements

-- what the last one of a kind says, or else v
abbrev pub last_in : {V : Type 0} → V → (Content → Option V) → List Statement → V
last_in v kind statements = unwrap_or (last_or None (each_in kind statements)) v

-- what the last one of a kind that is about k says of it, or else v
abbrev pub last_value_of : {K V : Type 0} → (K → K → Bool) → K → V → (Content → Option (K × V)) → List Statement → V
last_value_of same k v kind statements = unwrap_or (last_at same k None (each_in kind statements)) v

-- the names of the nodes: several statements add up
abbrev pub node_names_of : List Statement → List (List ℕ)
node_names_of statements = flat_map (λ (names : List (List ℕ)). names) (each_in nodes_in statements)

abbrev pub messages_of : List Statement → List MessageLine
messages_of statements = each_in message_in statements

abbrev pub numbers_of : List Statement → List ℕ
numbers_of statements = map (λ (m : MessageLine). dbc_number m.ident) (messages_of statements)

-- the keys of one message's signals, and of all signals
abbrev pub keys_of : MessageLine → List SignalKey
keys_of m = map (λ (s : SignalLine). (dbc_number m.ident, s.name)) m.signals

abbrev pub signal_keys_of : List Statement → List SignalKey
signal_keys_of statements = flat_map keys_of (messages_of statements)

-- Nodes, signals and messages with what the statements say of them.

abbrev pub whole_node : List Statement → List ℕ → Node
whole_node statements name = record { name = name; comment = last_value_of bytes_eq name [] node_comment_in statements }

abbrev pub whole_signal : List Statement → ℕ → SignalLine → Signal
whole_signal statements number line =
    let key : SignalKey = (number, line.name) in
    record {
      name = line.name;
      layout = line.layout;
      signed = line.signed;
      mux = line.mux;
      factor = line.factor;
      offset = line.offset;
      minimum = line.minimum;
      maximum = line.maximum;
      unit = line.unit;
      receivers = line.receivers;
      comment = last_value_of same_signal key [] signal_comment_in statements;
      spn = last_value_of same_signal key 0 spn_in statements;
      values = last_value_of same_signal key [] value_texts_in statements;
      value_type = last_value_of same_signal key Integer value_type_in statements;
    }

abbrev pub whole_message : List Statement → MessageLine → Message
whole_message statements line = record {
  ident = line.ident;
  name = line.name;
  length = line.length;
  transmitter = line.transmitter;
  comment = last_value_of nat_eq (dbc_number line.ident) [] message_comment_in statements;
  signals = map (whole_signal statements (dbc_number line.ident)) line.signals;
}

-- Whether what a statement cites is in the file.

abbrev pub has_node : List Statement → List ℕ → Bool
has_node statements name = list_any (λ n. bytes_eq n name) (node_names_of statements)

abbrev pub has_message : List Statement → Cited → Bool
has_message statements None = false
has_message statements (Some number) = list_any (λ n. n == number) (numbers_of statements)

abbrev pub has_signal : List Statement → Cited → List ℕ → Bool
has_signal statements None name = false
has_signal statements (Some number) name = list_any (λ key. same_signal key (number, name)) (signal_keys_of statements)

-- A statement is skipped by its form, or if what it cites isn't in the file.
abbrev pub is_passed : List Statement → Content → Bool
is_passed statements PassedOver = true
is_passed statements (NodeCommentIs name text) = not (has_node statements name)
is_passed statements (MessageCommentIs cited text) = not (has_message statements cited)
is_passed statements (SignalCommentIs cited name text) = not (has_signal statements cited name)
is_passed statements (ValueTextsAre cited name texts) = not (has_signal statements cited name)
is_passed statements (ValueTypeIs cited name value_type) = not (has_signal statements cited name)
is_passed statements (SpnIs cited name spn) = not (has_signal statements cited name)
is_passed statements content = false

-- where each skipped statement begins, and its first keyword, in their order
abbrev pub passed_by : List Statement → List (ℕ × Keyword)
passed_by statements = map (λ (s : Statement). (s.start, s.keyword))
    (filter (λ (s : Statement). is_passed statements s.content) statements)

-- The statements say the sheet: it is well formed, with each part in its form; its version and comment are the last
-- ones; its nodes and tables are theirs, in their order; and its messages are theirs, each once, in any order.
pub record Says (statements : List Statement) (s : Sheet) : Type 0 where
  pub is_sheet : IsSheet s
  pub version : s.version ≡ last_in [] version_in statements
  pub comment : s.comment ≡ last_in [] comment_in statements
  pub nodes : s.nodes ≡ map (whole_node statements) (node_names_of statements)
  pub tables : s.tables ≡ each_in table_in statements
  pub messages : IsPermutation (map (whole_message statements) (messages_of statements)) s.messages

-- statements say one sheet at most
abbrev pub SaysOneAtMost : Type 0
SaysOneAtMost = (statements : List Statement) (s t : Sheet) → Says statements s → Says statements t → s ≡ t
