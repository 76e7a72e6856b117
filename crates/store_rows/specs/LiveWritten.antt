-- Rows of a message as they are written: seats and places are counted from 0.
use Rattle.std.specs.Prelude.{◌≡◌, ◌≢◌, ◌==◌, IfSome, ℕ, ◌+◌, ◌<◌, Bool, ◌&&◌, List, [], ◌∷◌, ◌++◌, Some, None, filter}
use Rattle.std.specs.Prelude.{not}
use Rattle.std.specs.List.{AllByRecursion, flat_map, list_any}
use Rattle.std.specs.Str.{bytes_eq}
use Rattle.sqlite.specs.Order.{Row}
use Rattle.can_id.specs.Ident.{IsIdentifier, dbc_number}
use Rattle.dbc_sheet.specs.declared.signal.Signal.{Signal}
use Rattle.dbc_sheet.specs.declared.value_texts.ValueText.{ValueText}
use Rattle.decimal.specs.Number.{IsDecimal}
use Rattle.office_types.specs.declared.command.SignalPath.{SignalPath}
use Rattle.office_types.specs.declared.state.LiveMessage.{LiveMessage}
use Rattle.office_rules.specs.Facts.{live_named}
use Rattle.store_tables.specs.Selected.{has_number, has_text}
use Rattle.store_tables.specs.Tables.{Tables}
use Rattle.store_statements.specs.Rows.{has_net_and_number, has_place_of}
use Rattle.store_rows.specs.Live.{AreSignalsOf, HasDecimals, live_rows, msg_values, receiver_values, sig_values}
use Rattle.store_rows.specs.Live.{sigvalue_values}

-- the rows of a signal's receivers, from this seat on
abbrev pub receiver_rows : List ℕ → ℕ → ℕ → ℕ → List (List ℕ) → List Row
receiver_rows net number place seat [] = []
receiver_rows net number place seat (name ∷ names) =
    receiver_values net number place seat name ∷ receiver_rows net number place (seat + 1) names

-- those of its value texts
abbrev pub value_rows : List ℕ → ℕ → ℕ → ℕ → List ValueText → List Row
value_rows net number place seat [] = []
value_rows net number place seat (v ∷ values) =
    sigvalue_values net number place seat v ∷ value_rows net number place (seat + 1) values

-- the signals with their places, counted from this one
abbrev pub placed_from : ℕ → List Signal → List (ℕ × Signal)
placed_from place [] = []
placed_from place (s ∷ signals) = (place, s) ∷ placed_from (place + 1) signals

-- the rows of a signal added
abbrev pub with_signal : List ℕ → ℕ → ℕ → Signal → Tables → Tables
with_signal net number place s t = record t {
  sig = t.sig ++ sig_values net number place s ∷ [];
  receiver = t.receiver ++ receiver_rows net number place 0 s.receivers;
  sigvalue = t.sigvalue ++ value_rows net number place 0 s.values;
}

-- those of signals, one after the other
abbrev pub with_signals : List ℕ → ℕ → List (ℕ × Signal) → Tables → Tables
with_signals net number [] t = t
with_signals net number (p ∷ placed) t = with_signals net number placed (with_signal net number p.0 p.1 t)

-- the head's row added
abbrev pub with_msg : List ℕ → LiveMessage → Tables → Tables
with_msg net m t = record t { msg = t.msg ++ msg_values net m ∷ [] }

-- all rows of the number removed
abbrev pub without_live : List ℕ → ℕ → Tables → Tables
without_live net number t = record t {
  msg = filter (λ row. not (has_net_and_number net number row)) t.msg;
  sig = filter (λ row. not (has_net_and_number net number row)) t.sig;
  receiver = filter (λ row. not (has_net_and_number net number row)) t.receiver;
  sigvalue = filter (λ row. not (has_net_and_number net number row)) t.sigvalue;
}

-- all rows of the message in place of those of its number
abbrev pub with_live : List ℕ → LiveMessage → Tables → Tables
with_live net m t =
    with_signals net (dbc_number m.message.ident) (placed_from 0 m.message.signals)
    (with_msg net m (without_live net (dbc_number m.message.ident) t))

-- what the types keep of a signal and of a message, and what their rows need

pub record IsSignal (s : Signal) : Type 0 where
  pub decimals : HasDecimals s
  pub values : AllByRecursion (λ (v : ValueText). IsDecimal v.value) s.values

pub record IsLive (m : LiveMessage) : Type 0 where
  pub identifier : IsIdentifier m.message.ident
  pub sent : IfSome m.message.transmitter (λ n. n ≢ [])
  pub signals : AllByRecursion IsSignal m.message.signals

-- ---- one signal

-- the place is above those of the signals of the message with the number
abbrev pub IsAfter : List ℕ → ℕ → Tables → ℕ → Type 0
IsAfter name number t place = (signals : List Signal) (h : AreSignalsOf name number (live_rows name t) signals)
    → AllByRecursion (λ (q : ℕ × Signal). q.0 < place) h.placed

-- the signal was added to the live message of the name, at a place after those of its other signals
pub record IsSignalAdded (name message : List ℕ) (s : Signal) (live : List LiveMessage) (t t2 : Tables) : Type 0 where
  pub known : IsSignal s
  pub m : LiveMessage
  pub there : live_named live message ≡ Some m
  pub place : ℕ
  pub after : IsAfter name (dbc_number m.message.ident) t place
  pub tables_are : t2 ≡ with_signal name (dbc_number m.message.ident) place s t

-- the rows of the place removed, from the tables of signals
abbrev pub without_place : List ℕ → ℕ → ℕ → Tables → Tables
without_place net number place t = record t {
  sig = filter (λ row. not (has_place_of net number place row)) t.sig;
  receiver = filter (λ row. not (has_place_of net number place row)) t.receiver;
  sigvalue = filter (λ row. not (has_place_of net number place row)) t.sigvalue;
}

-- those of places, one after the other
abbrev pub without_places : List ℕ → ℕ → List ℕ → Tables → Tables
without_places net number [] t = t
without_places net number (place ∷ places) t = without_places net number places (without_place net number place t)

-- the places are those of the signals of the name
abbrev pub AreItsPlaces : List ℕ → List ℕ → List (ℕ × Signal) → Type 0
AreItsPlaces signal places placed =
    AllByRecursion (λ (q : ℕ × Signal). list_any (λ p. p == q.0) places ≡ bytes_eq q.1.name signal) placed

-- the rows of the signal of the name were removed from those of the message with the number
pub record IsGone (name : List ℕ) (number : ℕ) (signal : List ℕ) (t t2 : Tables) : Type 0 where
  pub places : List ℕ
  pub own : (signals : List Signal) (h : AreSignalsOf name number (live_rows name t) signals)
      → AreItsPlaces signal places h.placed
  pub tables_are : t2 ≡ without_places name number places t

-- from those of the live message of the path, if it is there
abbrev pub IsTakenOut : List ℕ → SignalPath → List LiveMessage → Tables → Tables → Type 0
IsTakenOut name path live t t2 = elim (live_named live path.message) [
  | None ↦ t2 ≡ t
  | Some m ↦ IsGone name (dbc_number m.message.ident) path.signal t t2
]

-- ---- the signals of a name

-- those of the name, with their places
abbrev pub placed_named : List ℕ → List (ℕ × Signal) → List (ℕ × Signal)
placed_named signal placed = filter (λ q. bytes_eq q.1.name signal) placed

-- a row of one of these signals, by its message and its place
abbrev pub is_of_placed : List ℕ → ℕ → List (ℕ × Signal) → Row → Bool
is_of_placed net number placed row =
    has_text 0 net row && (has_number 1 number row && list_any (λ q. has_number 2 q.0 row) placed)

-- new rows of these signals, in place of those that they had
abbrev pub with_rows_of : List ℕ → ℕ → (ℕ × Signal → List Row) → List (ℕ × Signal) → List Row → List Row
with_rows_of net number new placed rows = filter (λ row. not (is_of_placed net number placed row)) rows
    ++ flat_map new placed

-- their rows of `sig`, with the suspect parameter number
abbrev pub with_spns : List ℕ → ℕ → ℕ → List (ℕ × Signal) → Tables → Tables
with_spns net number n placed t =
    record t {
      sig = with_rows_of net number (λ q. sig_values net number q.0 (record q.1 { spn = n }) ∷ []) placed
          t.sig;
    }

-- their rows of `sigvalue`, which are those of the value texts
abbrev pub with_texts : List ℕ → ℕ → List ValueText → List (ℕ × Signal) → Tables → Tables
with_texts net number values placed t =
    record t { sigvalue = with_rows_of net number (λ q. value_rows net number q.0 0 values) placed t.sigvalue }

-- the rows of the live message's signals of the name got the suspect parameter number, and no other row changed
pub record HasSpn (name : List ℕ) (m : LiveMessage) (signal : List ℕ) (n : ℕ) (t t2 : Tables) : Type 0 where
  pub before : AreSignalsOf name (dbc_number m.message.ident) (live_rows name t) m.message.signals
  pub tables_are : t2 ≡ with_spns name (dbc_number m.message.ident) n (placed_named signal before.placed) t

-- they got the value texts, whose values are decimals, and no other row changed
pub record HasTexts (name : List ℕ) (m : LiveMessage) (signal : List ℕ) (values : List ValueText) (t t2 : Tables) : Type
    0 where
  pub before : AreSignalsOf name (dbc_number m.message.ident) (live_rows name t) m.message.signals
  pub decimals : AllByRecursion (λ (q : ℕ × Signal). AllByRecursion (λ (v : ValueText). IsDecimal v.value) values)
      (placed_named signal before.placed)
  pub tables_are : t2 ≡ with_texts name (dbc_number m.message.ident) values (placed_named signal before.placed) t

-- those of the live message of the path, if it is there

abbrev pub IsSpnSet : List ℕ → SignalPath → ℕ → List LiveMessage → Tables → Tables → Type 0
IsSpnSet name path n live t t2 = elim (live_named live path.message) [
  | None ↦ t2 ≡ t
  | Some m ↦ HasSpn name m path.signal n t t2
]

abbrev pub AreTextsSet : List ℕ → SignalPath → List ValueText → List LiveMessage → Tables → Tables → Type 0
AreTextsSet name path values live t t2 = elim (live_named live path.message) [
  | None ↦ t2 ≡ t
  | Some m ↦ HasTexts name m path.signal values t t2
]
