-- What the rows of queries on a message's signals show.
use Rattle.std.specs.Prelude.{◌≡◌, ◌≢◌, IfSome, ℕ, ◌<◌, ◌==◌, Bool, true, false, if◌then◌else◌, List, [], ◌∷◌, pos}
use Rattle.std.specs.List.{AllByRecursion}
use Rattle.sqlite.specs.declared.types.Value.{Value}
use Rattle.sqlite.specs.declared.types.Value.TheVariants.{Int, Text, Blob}
use Rattle.sqlite.specs.Order.{Row, column}
use Rattle.dbc_words.specs.ValueType.{value_type_number}
use Rattle.dbc_sheet.specs.declared.signal.Signal.{Signal}
use Rattle.dbc_sheet.specs.declared.value_texts.ValueText.{ValueText}
use Rattle.decimal.specs.Number.{IsDecimal}
use Rattle.decimal.specs.Printing.{text_of}
use Rattle.store_statements.specs.Mux.{mux_number}
use Rattle.can_id.specs.Ident.{IsIdentifier, dbc_number}
use Rattle.office_types.specs.declared.state.LiveMessage.{LiveMessage}
use Rattle.store_rows.specs.Live.{HasDecimals, flag_number, motorola_number, mux_column, sender_text}

-- start, size, motorola
pub record ShowsLayout (s : Signal) (row : Row) : Type 0 where
  pub start : column row 2 ≡ Int (pos s.layout.start)
  pub size : column row 3 ≡ Int (pos s.layout.size)
  pub motorola : column row 4 ≡ Int (pos (motorola_number s.layout.order))

-- the columns of `sig`, but its keys' network and number
pub record ShowsSignal (s : Signal) (row : Row) : Type 0 where
  pub named : column row 1 ≡ Text s.name
  pub layout : ShowsLayout s row
  pub signed : column row 5 ≡ Int (pos (flag_number s.signed))
  pub mux : column row 6 ≡ Int (mux_number (mux_column s.mux))
  pub factor : column row 7 ≡ Text (text_of s.factor)
  pub shift : column row 8 ≡ Text (text_of s.offset)
  pub least : column row 9 ≡ Text (text_of s.minimum)
  pub most : column row 10 ≡ Text (text_of s.maximum)
  pub unit : column row 11 ≡ Blob s.unit
  pub comment : column row 12 ≡ Blob s.comment
  pub spn : column row 13 ≡ Int (pos s.spn)
  pub label : column row 14 ≡ Int (pos (value_type_number s.value_type))
  pub decimals : HasDecimals s

pub record ShowsPlaced (p : ℕ × Signal) (row : Row) : Type 0 where
  pub place : column row 0 ≡ Int (pos p.0)
  pub signal : ShowsSignal p.1 row

-- place, and what the rest of the row shows
pub record ShowsPart {A : Type 0} (Shows : A → Row → Type 0) (p : ℕ × A) (row : Row) : Type 0 where
  pub place : column row 0 ≡ Int (pos p.0)
  pub part : Shows p.1 row

abbrev pub ShowsReceiver : List ℕ → Row → Type 0
ShowsReceiver name row = column row 1 ≡ Text name

pub record ShowsValueText (v : ValueText) (row : Row) : Type 0 where
  pub value : column row 1 ≡ Text (text_of v.value)
  pub words : column row 2 ≡ Blob v.text
  pub decimal : IsDecimal v.value

-- each place is above the one before
abbrev pub PlacesAscend : List (ℕ × Signal) → Type 0
PlacesAscend [] = Unit {0}
PlacesAscend (p ∷ placed) = AllByRecursion (λ q. p.0 < q.0) placed × PlacesAscend placed

-- the value is this number
abbrev pub is_place : ℕ → Value → Bool
is_place place (Int (pos n)) = n == place
is_place place v = false

-- the row has the number in its first column
abbrev pub has_place : ℕ → Row → Bool
has_place place row = is_place place (column row 0)

-- whether a text begins with a minus, and what comes after it
abbrev pub without_sign : List ℕ → Bool × List ℕ
without_sign [] = (false, [])
without_sign (b ∷ bs) = if b == 45 then (true, bs) else (false, b ∷ bs)

-- number, name, owner, length, sender, comment: all of a live message but its signals
pub record ShowsLive (m : LiveMessage) (row : Row) : Type 0 where
  pub number : column row 0 ≡ Int (pos (dbc_number m.message.ident))
  pub named : column row 1 ≡ Text m.message.name
  pub owner : column row 2 ≡ Text m.owner
  pub length : column row 3 ≡ Int (pos m.message.length)
  pub sender : column row 4 ≡ Text (sender_text m.message.transmitter)
  pub comment : column row 5 ≡ Blob m.message.comment
  pub identifier : IsIdentifier m.message.ident
  pub sent : IfSome m.message.transmitter (λ n. n ≢ [])
