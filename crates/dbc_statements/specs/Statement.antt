-- The statements of the code as statements of the grammar: without the offsets of names and entries.
use Rattle.std.specs.Prelude.{◌≡◌, ⊤, ℕ, List, [], map}
use Rattle.std.specs.List.{AllByRecursion}
use Rattle.dbc_words.specs.declared.value_type.ValueType.TheVariants.{Integer}
use Rattle.dbc_grammar.specs.Statement as dbc
use Rattle.dbc_sheet.specs.declared.signal.Signal.{Signal}
use Rattle.dbc_statements.specs.declared.statement.Content.{Content}
use Rattle.dbc_statements.specs.declared.statement.Content.TheVariants as content
use Rattle.dbc_statements.specs.declared.ended_content.EndedContent.{EndedContent}
use Rattle.dbc_statements.specs.declared.statement.MessageLine.{MessageLine}
use Rattle.dbc_statements.specs.declared.statement.NodeName.{NodeName}
use Rattle.dbc_statements.specs.declared.statement.Statement.{Statement}

abbrev pub names_of : List NodeName → List (List ℕ)
names_of nodes = map (λ (n : NodeName). n.name) nodes

abbrev pub signal_of : Signal → dbc.SignalLine
signal_of s = record {
  name = s.name;
  layout = s.layout;
  signed = s.signed;
  mux = s.mux;
  factor = s.factor;
  offset = s.offset;
  minimum = s.minimum;
  maximum = s.maximum;
  unit = s.unit;
  receivers = s.receivers;
}

abbrev pub signals_of : List Signal → List dbc.SignalLine
signals_of signals = map signal_of signals

abbrev pub message_of : MessageLine → dbc.MessageLine
message_of m = record {
  ident = m.ident;
  name = m.name;
  length = m.length;
  transmitter = m.transmitter;
  signals = signals_of m.signals.items;
}

abbrev pub content_of : Content → dbc.Content
content_of (content.Version text) = dbc.VersionIs text
content_of (content.Nodes nodes) = dbc.NodesAre (names_of nodes.items)
content_of (content.Table t) = dbc.TableIs t.value.name t.value.entries
content_of (content.Message m) = dbc.MessageIs (message_of m.value)
content_of (content.Comment text) = dbc.CommentIs text
content_of (content.NodeComment name text) = dbc.NodeCommentIs name.now text
content_of (content.MessageComment number text) = dbc.MessageCommentIs number text
content_of (content.SignalComment cited text) = dbc.SignalCommentIs cited.number cited.name.now text
content_of (content.ValueTexts cited entries) = dbc.ValueTextsAre cited.number cited.name.now entries
content_of (content.ValueType cited value_type) = dbc.ValueTypeIs cited.number cited.name.now value_type
content_of (content.Spn cited spn) = dbc.SpnIs cited.number cited.name.now spn
content_of content.Dropped = dbc.Dropped
content_of content.PassedOver = dbc.PassedOver

abbrev pub content_in : EndedContent → dbc.Content
content_in l = content_of l.content

abbrev pub statement_of : Statement → dbc.Statement
statement_of s = record { start = s.start; keyword = s.keyword; content = content_of s.content }

abbrev pub statements_of : List Statement → List dbc.Statement
statements_of statements = map statement_of statements

-- no other statement attaches anything to the signal
pub record HasNothingAttached (s : Signal) : Type 0 where
  pub comment : s.comment ≡ []
  pub spn : s.spn ≡ 0
  pub values : s.values ≡ []
  pub value_type : s.value_type ≡ Integer

abbrev pub HaveNothingAttached : List Signal → Type 0
HaveNothingAttached signals = AllByRecursion HasNothingAttached signals

-- the signals of a message's statement have nothing attached
abbrev pub NothingIsAttached : Content → Type 0
NothingIsAttached (content.Message m) = HaveNothingAttached m.value.signals.items
NothingIsAttached c = ⊤

-- the offsets of the signals of a message's statement aren't kept
abbrev pub HasNoOffsets : Content → Type 0
HasNoOffsets (content.Message m) = m.value.offsets.items ≡ []
HasNoOffsets c = ⊤
