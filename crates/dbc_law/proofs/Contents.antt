-- What the statements of a canonical text say, one after the other: as `Canon` of `dbc_grammar` lists its lines, where
-- the lines of a message and of its signals are one statement.
use Rattle.dbc_law.proofs.Common.{◌==◌, ℕ, List, [], ◌∷◌, ◌++◌, map, Some, if◌then◌else◌, flat_map, number_of}
use Rattle.dbc_law.proofs.Common.{value_type_number, Message, Node, Sheet, Signal, ValueTable, ValueText}
use Rattle.dbc_grammar.specs.Statement.{
  Content,
  VersionIs,
  NodesAre,
  TableIs,
  MessageIs,
  CommentIs,
  NodeCommentIs,
  MessageCommentIs,
  SignalCommentIs,
  ValueTextsAre,
  ValueTypeIs,
  SpnIs,
  Dropped,
  PassedOver,
  MessageLine,
  SignalLine,
  Statement,
}

abbrev pub contents_of : List Statement → List Content
contents_of statements = map (λ (s : Statement). s.content) statements

-- a signal and a message as their statement says them
abbrev pub signal_line : Signal → SignalLine
signal_line s = record {
  name = s.name;
  layout = s.layout;
  signed = s.signed;
  mux = s.mux;
  factor = s.factor;
  offset = s.offset;
  minimum = s.minimum;
  maximum = s.maximum;
  unit = s.unit;
  receivers = s.receivers;
}

abbrev pub message_line : Message → MessageLine
message_line m = record {
  ident = m.ident;
  name = m.name;
  length = m.length;
  transmitter = m.transmitter;
  signals =
      map signal_line m.signals;
}

abbrev pub node_names : Sheet → List (List ℕ)
node_names s = map (λ (n : Node). n.name) s.nodes

abbrev pub table : ValueTable → Content
table t = TableIs t.name t.entries

abbrev pub message : Message → Content
message m = MessageIs (message_line m)

-- a comment, where it is not empty
abbrev pub comments : (List ℕ → Content) → List ℕ → List Content
comments says [] = []
comments says (b ∷ bs) = says (b ∷ bs) ∷ []

abbrev pub node_comments : Node → List Content
node_comments n = comments (NodeCommentIs n.name) n.comment

abbrev pub signal_comments : Message → Signal → List Content
signal_comments m s = comments (SignalCommentIs (Some (number_of m)) s.name) s.comment

abbrev pub message_comments : Message → List Content
message_comments m = comments (MessageCommentIs (Some (number_of m))) m.comment ++ flat_map (signal_comments m)
    m.signals

-- the contents for each signal of each message
abbrev pub each_signal : (Message → Signal → List Content) → Sheet → List Content
each_signal says s = flat_map (λ (m : Message). flat_map (says m) m.signals) s.messages

abbrev pub spns : Message → Signal → List Content
spns m s = if s.spn == 0 then [] else (SpnIs (Some (number_of m)) s.name s.spn ∷ [])

-- the definitions of the attribute before the first of them, which are skipped
abbrev pub with_spn_definitions : List Content → List Content
with_spn_definitions [] = []
with_spn_definitions (c ∷ cs) = PassedOver ∷ PassedOver ∷ c ∷ cs

abbrev pub texts : ℕ → List ℕ → List ValueText → List Content
texts number name [] = []
texts number name (v ∷ vs) = ValueTextsAre (Some number) name (v ∷ vs) ∷ []

abbrev pub value_texts : Message → Signal → List Content
value_texts m s = texts (number_of m) s.name s.values

abbrev pub value_types : Message → Signal → List Content
value_types m s = if value_type_number s.value_type == 0 then []
    else (ValueTypeIs (Some (number_of m)) s.name s.value_type ∷ [])

-- all but the lines before the first table, section after section
abbrev pub sections : Sheet → List Content
sections s = map table s.tables ++ map message s.messages
    ++ comments CommentIs s.comment ++ flat_map node_comments s.nodes ++ flat_map message_comments s.messages
    ++ with_spn_definitions (each_signal spns s) ++ each_signal value_texts s ++ each_signal value_types s

abbrev pub contents : Sheet → List Content
contents s = VersionIs s.version ∷ Dropped ∷ Dropped ∷ NodesAre (node_names s) ∷ sections s
