-- What rows of `msg`, `sig`, `receiver` and `sigvalue` stand for: the live messages of a network.
use Rattle.std.specs.Prelude.{◌≡◌, ◌≢◌, IfSome, ℕ, ◌==◌, Bool, true, false, List, [], ◌∷◌, ◌++◌, map, filter, find}
use Rattle.std.specs.Prelude.{Option, Some, None, unwrap_or, pos}
use Rattle.std.specs.List.{AllByRecursion}
use Rattle.sqlite.specs.declared.types.Value.TheVariants.{Int, Text, Blob}
use Rattle.sqlite.specs.Order.{Row, column}
use Rattle.can_id.specs.Ident.{IsIdentifier, dbc_number}
use Rattle.bitlayout.specs.declared.layout.Order.{Order}
use Rattle.bitlayout.specs.declared.layout.Order.TheVariants.{Intel, Motorola}
use Rattle.bitlayout.specs.declared.place.Mux.{Mux}
use Rattle.bitlayout.specs.declared.place.Mux.TheVariants as mux
use Rattle.dbc_words.specs.ValueType.{value_type_number}
use Rattle.dbc_sheet.specs.declared.signal.Signal.{Signal}
use Rattle.dbc_sheet.specs.declared.value_texts.ValueText.{ValueText}
use Rattle.decimal.specs.Number.{IsDecimal}
use Rattle.decimal.specs.Printing.{text_of}
use Rattle.office_types.specs.declared.state.LiveMessage.{LiveMessage}
use Rattle.store_tables.specs.Selected.{has_number}
use Rattle.store_tables.specs.Tables.{Tables}
use Rattle.store_statements.specs.Mux.{mux_number}
use Rattle.store_statements.specs.Rows.{is_of_net}
use Rattle.store_statements.specs.Shown.{msgs_order, sigs_order, receivers_order, sigvalues_order}
use Rattle.store_statements.specs.declared.row.MuxColumn.{MuxColumn}
use Rattle.store_statements.specs.declared.row.MuxColumn.TheVariants as column
use Rattle.store_rows.specs.Listed.{AreListed}

-- ---- columns

abbrev pub motorola_number : Order → ℕ
motorola_number Intel = 0
motorola_number Motorola = 1

abbrev pub flag_number : Bool → ℕ
flag_number false = 0
flag_number true = 1

abbrev pub mux_column : Mux → MuxColumn
mux_column mux.Always = column.Always
mux_column mux.Multiplexor = column.Multiplexor
mux_column (mux.Under value) = column.Under value

-- the node that sends it, empty if there is none
abbrev pub sender_text : Option (List ℕ) → List ℕ
sender_text sender = unwrap_or sender []

-- ---- one row

-- all of a live message but its signals
abbrev pub msg_values : List ℕ → LiveMessage → Row
msg_values name m =
    Text name ∷ Int (pos (dbc_number m.message.ident)) ∷ Text m.message.name ∷ Text m.owner ∷ Int (pos m.message.length)
    ∷ Text (sender_text m.message.transmitter)
    ∷ Blob m.message.comment ∷ []

-- a row of `msg`; the message is as those of its type are
pub record IsMsgRow (name : List ℕ) (m : LiveMessage) (row : Row) : Type 0 where
  pub row_is : row ≡ msg_values name m
  pub identifier : IsIdentifier m.message.ident
  pub sent : IfSome m.message.transmitter (λ n. n ≢ [])

-- the numbers of a signal are decimals, as those of its type are
pub record HasDecimals (s : Signal) : Type 0 where
  pub factor : IsDecimal s.factor
  pub offset : IsDecimal s.offset
  pub minimum : IsDecimal s.minimum
  pub maximum : IsDecimal s.maximum

-- all of a signal but its receivers and value texts, at its place
abbrev pub sig_values : List ℕ → ℕ → ℕ → Signal → Row
sig_values name number place s =
    Text name ∷ Int (pos number) ∷ Int (pos place) ∷ Text s.name ∷ Int (pos s.layout.start) ∷ Int (pos s.layout.size)
    ∷ Int (pos (motorola_number s.layout.order))
    ∷ Int (pos (flag_number s.signed)) ∷ Int (mux_number (mux_column s.mux)) ∷ Text (text_of s.factor)
    ∷ Text (text_of s.offset) ∷ Text (text_of s.minimum)
    ∷ Text (text_of s.maximum) ∷ Blob s.unit ∷ Blob s.comment ∷ Int (pos s.spn)
    ∷ Int (pos (value_type_number s.value_type)) ∷ []

-- a row of `sig`
pub record IsSigRow (name : List ℕ) (message : ℕ) (p : ℕ × Signal) (row : Row) : Type 0 where
  pub row_is : row ≡ sig_values name message p.0 p.1
  pub decimals : HasDecimals p.1

abbrev pub receiver_values : List ℕ → ℕ → ℕ → ℕ → List ℕ → Row
receiver_values name number place seat node = Text name ∷ Int (pos number) ∷ Int (pos place) ∷ Int (pos seat)
    ∷ Text node ∷ []

-- a row of `receiver`, with the place of the signal; of its own seat only the order counts
pub record IsReceiverRow (name : List ℕ) (message : ℕ) (p : ℕ × List ℕ) (row : Row) : Type 0 where
  pub seat : ℕ
  pub row_is : row ≡ receiver_values name message p.0 seat p.1

abbrev pub sigvalue_values : List ℕ → ℕ → ℕ → ℕ → ValueText → Row
sigvalue_values name number place seat v = Text name ∷ Int (pos number) ∷ Int (pos place) ∷ Int (pos seat)
    ∷ Text (text_of v.value) ∷ Blob v.text ∷ []

-- a row of `sigvalue`, with the place of the signal
pub record IsSigValueRow (name : List ℕ) (message : ℕ) (p : ℕ × ValueText) (row : Row) : Type 0 where
  pub seat : ℕ
  pub row_is : row ≡ sigvalue_values name message p.0 seat p.1
  pub decimal : IsDecimal p.1.value

-- ---- the rows of a network

-- what the signals have of a kind, each with the place of its signal
abbrev pub parts_of : {A : Type 0} → (Signal → List A) → List (ℕ × Signal) → List (ℕ × A)
parts_of part [] = []
parts_of part (p ∷ placed) = map (λ x. (p.0, x)) (part p.1) ++ parts_of part placed

-- the rows that are the network's
pub record LiveRows : Type 0 where
  pub msg : List Row
  pub sig : List Row
  pub receiver : List Row
  pub sigvalue : List Row

abbrev pub live_rows : List ℕ → Tables → LiveRows
live_rows name t = record {
  msg = filter (is_of_net name) t.msg;
  sig = filter (is_of_net name) t.sig;
  receiver = filter (is_of_net name) t.receiver;
  sigvalue = filter (is_of_net name) t.sigvalue;
}

-- those of the message with the number
abbrev pub numbered_rows : ℕ → List Row → List Row
numbered_rows number rows = filter (has_number 1 number) rows

-- the rows of the number stand for these signals; places ascend, and there may be gaps between them
pub record AreSignalsOf (name : List ℕ) (number : ℕ) (rows : LiveRows) (signals : List Signal) : Type 0 where
  pub placed : List (ℕ × Signal)
  pub are : map (λ p. p.1) placed ≡ signals
  pub sigs : AreListed sigs_order (IsSigRow name number) (numbered_rows number rows.sig) placed
  pub receivers : AreListed receivers_order (IsReceiverRow name number) (numbered_rows number rows.receiver)
      (parts_of (λ s. s.receivers) placed)
  pub values : AreListed sigvalues_order (IsSigValueRow name number) (numbered_rows number rows.sigvalue)
      (parts_of (λ s. s.values) placed)

-- the signals of the live message with the number, none if there is none
abbrev pub signals_numbered : List LiveMessage → ℕ → List Signal
signals_numbered live number = elim (find (λ m. dbc_number m.message.ident == number) live) [
  | None ↦ []
  | Some m ↦ m.message.signals
]

-- the row has a number, 0 or more, as messages have
pub record HasNumber (row : Row) : Type 0 where
  pub number : ℕ
  pub is : column row 1 ≡ Int (pos number)

-- each row of a signal, of a receiver and of a value text has one
pub record HaveNumbers (rows : LiveRows) : Type 0 where
  pub sigs : AllByRecursion HasNumber rows.sig
  pub receivers : AllByRecursion HasNumber rows.receiver
  pub values : AllByRecursion HasNumber rows.sigvalue

-- The rows stand for the live messages, and there are no other rows: each has a number, and those of a number are the
-- signals of its message, none if there is no such message.
pub record AreLiveRows (name : List ℕ) (rows : LiveRows) (live : List LiveMessage) : Type 0 where
  pub messages : AreListed msgs_order (IsMsgRow name) rows.msg live
  pub numbered : HaveNumbers rows
  pub signals : (number : ℕ) → AreSignalsOf name number rows (signals_numbered live number)

-- ---- what is read of them

-- a signal without its receivers and value texts, which have rows of their own
abbrev pub bare_signal : Signal → Signal
bare_signal s = record s { receivers = []; values = [] }

-- whatever live messages the network's rows stand for, this holds of them and of what is read
abbrev pub OnLive : {X : Type 0} → List ℕ → (List LiveMessage → X → Type 0) → X → Tables → Type 0
OnLive name Holds found t = (live : List LiveMessage) → AreLiveRows name (live_rows name t) live → Holds live found
