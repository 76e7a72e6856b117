-- Signals with what statements attach to them, in the lines of their messages.
use Rattle.std.specs.Prelude.{◌≡◌, ◌<◌, ⊤, ℕ, zero, suc, Bool, true, false, List, [], ◌∷◌, drop, length, map, Option}
use Rattle.std.specs.Prelude.{Some, None}
use Rattle.std.specs.List.{flat_map}
use Rattle.dbc_grammar.specs.Statement as dbc
use Rattle.dbc_grammar.specs.Statement.{Cited}
use Rattle.dbc_sheet.specs.declared.message.Message.{Message}
use Rattle.dbc_sheet.specs.declared.signal.Signal.{Signal}
use Rattle.dbc_read.specs.Built.{feeds_after, first_or, signals_from}
use Rattle.dbc_read.specs.Gathered.{passed_after}
use Rattle.dbc_read.specs.Lookups.{IsSignalIn}
use Rattle.dbc_read.specs.declared.attaching.Attachment.{Attachment}
use Rattle.dbc_read.specs.declared.attaching.Attachment.TheVariants as what
use Rattle.dbc_read.specs.declared.attaching.SignalIndices.{SignalIndices}
use Rattle.dbc_read.specs.declared.feed.Feeds.{Feeds}
use Rattle.dbc_read.specs.declared.gathered.Gathered.{Gathered}
use Rattle.dbc_read.specs.declared.passed.Passed.{Passed}
use Rattle.dbc_statements.specs.Parts.{message_with}
use Rattle.dbc_statements.specs.Statement.{message_of}
use Rattle.dbc_statements.specs.declared.statement.CitedSignal.{CitedSignal}
use Rattle.dbc_statements.specs.declared.statement.Content.{Content}
use Rattle.dbc_statements.specs.declared.statement.Content.TheVariants as content
use Rattle.dbc_statements.specs.declared.statement.MessageLine.{MessageLine}

abbrev pub with_attachment : Attachment → Signal → Signal
with_attachment (what.Comment text) s = record s { comment = text }
with_attachment (what.Values texts) s = record s { values = texts }
with_attachment (what.Type value_type) s = record s { value_type = value_type }
with_attachment (what.Spn spn) s = record s { spn = spn }

-- the content of a statement that attaches this to a signal
abbrev pub attaching : CitedSignal → Attachment → Content
attaching cited (what.Comment text) = content.SignalComment cited text
attaching cited (what.Values texts) = content.ValueTexts cited texts
attaching cited (what.Type value_type) = content.ValueType cited value_type
attaching cited (what.Spn spn) = content.Spn cited spn

abbrev pub cites_signal : Content → Bool
cites_signal (content.SignalComment cited text) = true
cites_signal (content.ValueTexts cited texts) = true
cites_signal (content.ValueType cited value_type) = true
cites_signal (content.Spn cited spn) = true
cites_signal c = false

-- the list with one item changed, if there is an index
abbrev pub at_index : {A : Type 0} → (A → A) → List A → ℕ → List A
at_index f [] i = []
at_index f (x ∷ xs) zero = f x ∷ xs
at_index f (x ∷ xs) (suc i) = x ∷ at_index f xs i

abbrev pub changed_at : {A : Type 0} → (A → A) → Option ℕ → List A → List A
changed_at f None xs = xs
changed_at f (Some i) xs = at_index f xs i

-- the signals of all messages
abbrev pub all_signals : List MessageLine → List Signal
all_signals lines = flat_map (λ (m : MessageLine). m.signals.items) lines

-- there is a signal at these indices
abbrev pub HasSignal : List MessageLine → ℕ → ℕ → Type 0
HasSignal [] i j = ⊥
HasSignal (line ∷ lines) zero j = j < length line.signals.items
HasSignal (line ∷ lines) (suc i) j = HasSignal lines i j

-- the index of an item that comes after these
abbrev pub index_after : {A : Type 0} → List A → ℕ → ℕ
index_after [] k = k
index_after (x ∷ xs) k = suc (index_after xs k)

-- the index of the signal at these indices among those of all messages
abbrev pub flat_index : List MessageLine → ℕ → ℕ → ℕ
flat_index [] i j = j
flat_index (line ∷ lines) zero j = j
flat_index (line ∷ lines) (suc i) j = index_after line.signals.items (flat_index lines i j)

abbrev pub flat_index_of : List MessageLine → Option SignalIndices → Option ℕ
flat_index_of lines None = None
flat_index_of lines (Some p) = Some (flat_index lines p.message p.signal)

abbrev pub HasSignalIfAny : List MessageLine → Option SignalIndices → Type 0
HasSignalIfAny lines None = ⊤
HasSignalIfAny lines (Some p) = HasSignal lines p.message p.signal

-- the indices of the signal that is cited, or none if there is no such signal
pub record AreIndicesOf (lines : List MessageLine) (number : Cited) (name : List ℕ)
    (indices : Option SignalIndices) : Type 0 where
  pub within : HasSignalIfAny lines indices
  pub index : IsSignalIn (map message_of lines) number name (flat_index_of lines indices)

-- the same of the signal that the content cites, if it cites one
abbrev pub CitesSignalAt : List MessageLine → Content → Option SignalIndices → Type 0
CitesSignalAt lines (content.SignalComment cited text) indices = AreIndicesOf lines cited.number cited.name.now indices
CitesSignalAt lines (content.ValueTexts cited texts) indices = AreIndicesOf lines cited.number cited.name.now indices
CitesSignalAt lines (content.ValueType cited value_type) indices =
    AreIndicesOf lines cited.number cited.name.now indices
CitesSignalAt lines (content.Spn cited spn) indices = AreIndicesOf lines cited.number cited.name.now indices
CitesSignalAt lines c indices = ⊤

-- this is attached to the signal that is cited, or the statement is skipped if there is no such signal
pub record IsAttached (number : Cited) (name : List ℕ) (a : Attachment) (p : Passed) (old new : List MessageLine)
    (before after : List Passed) : Type 0 where
  pub index : Option ℕ
  pub is : IsSignalIn (map message_of old) number name index
  pub signals : all_signals new ≡ changed_at (with_attachment a) index (all_signals old)
  pub passed : after ≡ passed_after index p before

-- What is attached to signals, by kind.
abbrev pub feeds_of : List Signal → Feeds
feeds_of signals = record {
  comments = map (λ (s : Signal). s.comment) signals;
  values = map (λ (s : Signal). s.values) signals;
  types = map (λ (s : Signal). s.value_type) signals;
  spns = map (λ (s : Signal). s.spn) signals;
}

-- what is gathered, where what is attached to signals is in these lines
abbrev pub with_attached : List MessageLine → Gathered → Gathered
with_attached lines g = record g {
  signal_comments = (feeds_of (all_signals lines)).comments;
  signal_values = (feeds_of (all_signals lines)).values;
  signal_types = (feeds_of (all_signals lines)).types;
  signal_spns = (feeds_of (all_signals lines)).spns;
}

-- where it is in the messages that are gathered
abbrev pub in_signals : Gathered → Gathered
in_signals g = with_attached g.messages g

-- The signals of each message, with what is attached to them.
abbrev pub line_signals : MessageLine → List Signal
line_signals line = line.signals.items

abbrev pub each_fed : List dbc.MessageLine → Feeds → List (List Signal)
each_fed [] f = []
each_fed (m ∷ ms) f = signals_from m.signals f ∷ each_fed ms (feeds_after m.signals f)

abbrev pub messages_with : List dbc.MessageLine → List (List ℕ) → List (List Signal) → List Message
messages_with [] comments lists = []
messages_with (m ∷ ms) comments lists = message_with m (first_or [] comments) (first_or [] lists)
    ∷ messages_with ms (drop 1 comments) (drop 1 lists)

-- the messages of the lines, with what is attached to their signals there
abbrev pub messages_of_lines : List MessageLine → List (List ℕ) → List Message
messages_of_lines lines comments = messages_with (map message_of lines) comments (map line_signals lines)

-- the lines, each with the comment on it
abbrev pub commented : List MessageLine → List (List ℕ) → List (MessageLine × List ℕ)
commented [] comments = []
commented (line ∷ lines) comments = (line, first_or [] comments) ∷ commented lines (drop 1 comments)
