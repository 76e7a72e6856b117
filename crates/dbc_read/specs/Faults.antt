-- The faults of what is gathered: the items that can't be in one sheet with those before them, with the codes and the
-- offsets of their faults.
use Rattle.std.specs.Prelude.{◌≡◌, ◌==◌, ◌&&◌, ◌<◌, ◌≤◌, ℕ, true, List, ◌∷◌, ◌++◌, length, map}
use Rattle.std.specs.List.{AllByRecursion, IsDistinct, list_any}
use Rattle.bitlayout.specs.Mux.{is_multiplexor}
use Rattle.can_id.specs.Ident.{dbc_number}
use Rattle.dbc_words.specs.Limits.{message_limit, node_limit, signal_limit, table_limit}
use Rattle.dbc_words.specs.Named.{AreNamedApart, has_name}
use Rattle.dbc_sheet.specs.WellFormed.{AreFewTexts}
use Rattle.dbc_sheet.specs.declared.value_texts.ValueText.{ValueText}
use Rattle.dbc_lex.specs.declared.fault.ReadCode.{ReadCode}
use Rattle.dbc_lex.specs.declared.fault.ReadCode.TheVariants.{DoubleName, DoubleNumber, TooMany, TwoMultiplexors}
use Rattle.dbc_lex.specs.declared.fault.ReadFault.{ReadFault}
use Rattle.dbc_read.specs.Described.{Described, described}
use Rattle.dbc_read.specs.declared.gathered.Gathered.{Gathered}
use Rattle.dbc_statements.specs.declared.statement.MessageLine.{MessageLine}
use Rattle.dbc_statements.specs.declared.statement.NodeName.{NodeName}
use Rattle.dbc_statements.specs.declared.statement.TableLine.{TableLine}

-- What holds if no item has a fault.

pub record AreNamedWithin {A : Type 0} (name : A → List ℕ) (limit : ℕ) (items : List A) : Type 0 where
  pub apart : AreNamedApart name items
  pub few : length items ≤ limit

abbrev pub line_number : MessageLine → ℕ
line_number line = dbc_number line.ident

abbrev pub AreNumberedApart : List MessageLine → Type 0
AreNumberedApart messages = IsDistinct (λ a b. line_number a == line_number b) messages

pub record AreNumbered (messages : List MessageLine) : Type 0 where
  pub apart : AreNumberedApart messages
  pub few : length messages ≤ message_limit

-- no two of the signals are the multiplexor
abbrev pub HaveOneMultiplexor : List Described → Type 0
HaveOneMultiplexor signals =
    IsDistinct (λ (a b : Described). is_multiplexor a.signal.mux && is_multiplexor b.signal.mux) signals

pub record AreSignalLines (signals : List Described) : Type 0 where
  pub names : AreNamedWithin (λ (s : Described). s.signal.name) signal_limit signals
  pub one_multiplexor : HaveOneMultiplexor signals

-- the signals of each message
abbrev pub HaveSignalLines : List MessageLine → Type 0
HaveSignalLines messages = AllByRecursion (λ (m : MessageLine). AreSignalLines (described m)) messages

pub record AreMessageLines (messages : List MessageLine) : Type 0 where
  pub numbers : AreNumbered messages
  pub names : AreNamedWithin (λ (m : MessageLine). m.name) message_limit messages
  pub signals : HaveSignalLines messages

abbrev pub entries_of : List TableLine → List (List ValueText)
entries_of tables = map (λ (t : TableLine). t.entries) tables

-- the nodes, value tables and messages
pub record AreDefined (g : Gathered) : Type 0 where
  pub nodes : AreNamedWithin (λ (n : NodeName). n.name) node_limit g.nodes
  pub tables : AreNamedWithin (λ (t : TableLine). t.name) table_limit g.tables
  pub messages : AreMessageLines g.messages
  pub entries : AllByRecursion AreFewTexts (entries_of g.tables)

-- Why an item is the first of its kind that can't come after those before it: the code of the fault.

abbrev pub IsNameRefused : {A : Type 0} → (A → List ℕ) → ℕ → List A → A → ReadCode → Type 0
IsNameRefused name limit before item TooMany = AreNamedApart name before × (length before ≡ limit)
IsNameRefused name limit before item DoubleName = AreNamedApart name before × (length before < limit)
    × (has_name name before (name item) ≡ true)
IsNameRefused name limit before item code = ⊥

abbrev pub IsNumberRefused : List MessageLine → MessageLine → ReadCode → Type 0
IsNumberRefused before line TooMany = AreNumberedApart before × (length before ≡ message_limit)
IsNumberRefused before line DoubleNumber = AreNumberedApart before × (length before < message_limit)
    × (list_any (λ l. line_number l == line_number line) before ≡ true)
IsNumberRefused before line code = ⊥

abbrev pub IsMultiplexorRefused : List Described → Described → ReadCode → Type 0
IsMultiplexorRefused before s TwoMultiplexors = HaveOneMultiplexor before × (is_multiplexor s.signal.mux ≡ true)
    × (list_any (λ t. is_multiplexor t.signal.mux) before ≡ true)
IsMultiplexorRefused before s code = ⊥

-- the fault is that of an item, at its offset, which is refused after those before it
pub record IsFaultAt {A : Type 0} (offset : A → ℕ) (IsRefused : List A → A → ReadCode → Type 0) (items : List A)
    (fault : ReadFault) : Type 0 where
  pub before : List A
  pub item : A
  pub after : List A
  pub parts : items ≡ before ++ item ∷ after
  pub at : fault.at ≡ offset item
  pub refused : IsRefused before item fault.code

-- the fault is that of one of these lists of entries, which are too many
pub record IsEntriesFault (lists : List (List ValueText)) (fault : ReadFault) : Type 0 where
  pub before : List (List ValueText)
  pub entries : List ValueText
  pub after : List (List ValueText)
  pub parts : lists ≡ before ++ entries ∷ after
  pub many : ¬ AreFewTexts entries
  pub code : fault.code ≡ TooMany

-- The faults of each kind.

abbrev pub IsNodeFault : List NodeName → ReadFault → Type 0
IsNodeFault nodes fault = IsFaultAt (λ (n : NodeName). n.at) (IsNameRefused (λ (n : NodeName). n.name) node_limit) nodes
    fault

abbrev pub IsTableFault : List TableLine → ReadFault → Type 0
IsTableFault tables fault = IsFaultAt (λ (t : TableLine). t.at) (IsNameRefused (λ (t : TableLine). t.name) table_limit)
    tables fault

abbrev pub IsNumberFault : List MessageLine → ReadFault → Type 0
IsNumberFault messages fault = IsFaultAt (λ (m : MessageLine). m.at) IsNumberRefused messages fault

abbrev pub IsMessageFault : List MessageLine → ReadFault → Type 0
IsMessageFault messages fault =
    IsFaultAt (λ (m : MessageLine). m.name_at) (IsNameRefused (λ (m : MessageLine). m.name) message_limit) messages
    fault

abbrev pub IsSignalFault : List Described → ReadFault → Type 0
IsSignalFault signals fault =
    IsFaultAt (λ (s : Described). s.offsets.at) (IsNameRefused (λ (s : Described). s.signal.name) signal_limit) signals
    fault

abbrev pub IsMultiplexorFault : List Described → ReadFault → Type 0
IsMultiplexorFault signals fault = IsFaultAt (λ (s : Described). s.offsets.mux_at) IsMultiplexorRefused signals fault

pub data IsFaultOfSignals (signals : List Described) (fault : ReadFault) : Type 0 where
  signal : IsSignalFault signals fault → IsFaultOfSignals signals fault
  multiplexor : IsMultiplexorFault signals fault → IsFaultOfSignals signals fault

-- the fault is that of the signals of a message, the first that has one
pub record IsSignalsFault (messages : List MessageLine) (fault : ReadFault) : Type 0 where
  pub before : List MessageLine
  pub line : MessageLine
  pub after : List MessageLine
  pub parts : messages ≡ before ++ line ∷ after
  pub first : HaveSignalLines before
  pub is : IsFaultOfSignals (described line) fault

pub data IsFaultOfMessages (messages : List MessageLine) (fault : ReadFault) : Type 0 where
  number : IsNumberFault messages fault → IsFaultOfMessages messages fault
  name : IsMessageFault messages fault → IsFaultOfMessages messages fault
  signals : IsSignalsFault messages fault → IsFaultOfMessages messages fault

-- all that can be wrong with the nodes, value tables and messages
pub data IsFaultOfDefinitions (g : Gathered) (fault : ReadFault) : Type 0 where
  node : IsNodeFault g.nodes fault → IsFaultOfDefinitions g fault
  table : IsTableFault g.tables fault → IsFaultOfDefinitions g fault
  messages : IsFaultOfMessages g.messages fault → IsFaultOfDefinitions g fault
  table_entries : IsEntriesFault (entries_of g.tables) fault → IsFaultOfDefinitions g fault

-- and with all that is gathered
pub data IsFault (g : Gathered) (fault : ReadFault) : Type 0 where
  definition : IsFaultOfDefinitions g fault → IsFault g fault
  value_texts : IsEntriesFault g.signal_values fault → IsFault g fault
