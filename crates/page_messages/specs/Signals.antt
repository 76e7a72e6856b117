-- The table of a message's signals.
use Rattle.std.specs.Prelude.{ℕ, ◌+◌, ◌-◌, ◌^◌, ◌==◌, min, nat_lt, not, Bool, true, false, List, [], ◌∷◌, ◌++◌}
use Rattle.std.specs.Prelude.{codes, decimal, length, map, if◌then◌else◌}
use Rattle.std.specs.Cmp.Lexicographic.{pointwise}
use Rattle.std.specs.List.{enumerate_from, flat_map, join_by, list_all}
use Rattle.std.specs.Str.{bytes_eq}
use Rattle.bitlayout.specs.Bits.{is_inside}
use Rattle.bitlayout.specs.Mux.{indicator_of}
use Rattle.bitlayout.specs.declared.layout.Order.{Order}
use Rattle.bitlayout.specs.declared.layout.Order.TheVariants.{Intel, Motorola}
use Rattle.bitlayout.specs.declared.place.Mux.{Mux}
use Rattle.dbc_sheet.specs.declared.message.Message.{Message}
use Rattle.dbc_sheet.specs.declared.signal.Signal.{Signal}
use Rattle.dbc_words.specs.declared.value_type.ValueType.{ValueType}
use Rattle.dbc_words.specs.declared.value_type.ValueType.TheVariants.{Double, Float, Integer}
use Rattle.decimal.specs.Number.{Number}
use Rattle.markup.specs.Html.{element_html, end_tag, escaped, start_tag, valued}
use Rattle.markup.specs.declared.tag.Tag.TheVariants as tag
use Rattle.page_parts.specs.Decimals.{decimal_words}
use Rattle.page_parts.specs.Frames.{heads_html}
use Rattle.page_parts.specs.Marks.{has_changed}
use Rattle.page_parts.specs.Words.{cell, isolated, number_cell}
use Rattle.page_parts.specs.declared.marks.Marks.{Marks}
use Rattle.page_messages.specs.Tables.{texts_html}
use Rattle.page_messages.specs.declared.shown.Shown.{Shown}
use Rattle.page_messages.specs.declared.signals.Columns.{Columns}
use Rattle.page_messages.specs.declared.signals.TheConstants.{SHOWN_TEXTS}

-- ---- signals as they are shown

-- a signal, its index among those of its message, and whether it has changed since the last release
pub record Listed : Type 0 where
  pub index : ℕ
  pub signal : Signal
  pub is_changed : Bool

abbrev pub listed_of : Shown → Listed
listed_of shown = record { index = shown.index; signal = shown.signal.now; is_changed = shown.has_changed }

abbrev pub listed_by : Marks → ℕ → ℕ × Signal → Listed
listed_by marks message p = record { index = p.0; signal = p.1; is_changed = has_changed marks message p.1.name }

-- each of the signals of the message at the index, in order
abbrev pub listed : Marks → ℕ → List Signal → List Listed
listed marks message signals = map (listed_by marks message) (enumerate_from 0 signals)

-- its number in the table, from 1
abbrev pub number_of : Listed → ℕ
number_of l = min (l.index + 1) (2 ^ 64 - 1)

-- a star, if it has changed
abbrev pub star : Listed → List ℕ
star l = if l.is_changed then element_html tag.Bold [] (codes "*") else []

-- ---- how signals are coded

abbrev pub order_word : Order → List ℕ
order_word Intel = codes "Intel "
order_word Motorola = codes "Motorola "

abbrev pub type_word : ValueType → Bool → List ℕ
type_word Float is_signed = codes "float"
type_word Double is_signed = codes "double"
type_word Integer true = codes "signed"
type_word Integer false = codes "unsigned"

-- `Intel unsigned`
abbrev pub coding_of : Signal → List ℕ
coding_of s = order_word s.layout.order ++ type_word s.value_type s.signed

abbrev pub first_coding : List Signal → List ℕ
first_coding [] = []
first_coding (s ∷ signals) = coding_of s

-- all are coded alike; if there are none, they aren't
abbrev pub has_common_coding : List Signal → Bool
has_common_coding [] = false
has_common_coding (s ∷ signals) = list_all (λ (other : Signal). bytes_eq (coding_of other) (coding_of s)) signals

-- all have the same receivers
abbrev pub has_common_receivers : List Signal → Bool
has_common_receivers [] = true
has_common_receivers (s ∷ signals) =
    list_all (λ (other : Signal). pointwise bytes_eq other.receivers s.receivers) signals

-- there is a column of what isn't common to all
abbrev pub columns_of : List Signal → Columns
columns_of signals =
    record { codings = not (has_common_coding signals); receivers = not (has_common_receivers signals) }

-- ---- a row

-- a space and the multiplexer indicator in grey, if there is one
abbrev pub mux_mark : Mux → List ℕ
mux_mark mux = if length (indicator_of mux) == 0 then []
    else start_tag tag.Span (codes " class=\"q\"")
    ++ (codes " " ++ (escaped (indicator_of mux) ++ end_tag tag.Span))

-- a signal of which a bit is past the payload
abbrev pub outside_mark : ℕ → Signal → List ℕ
outside_mark bytes s = if is_inside s.layout bytes then []
    else codes " " ++ element_html tag.Emphasis [] (codes "outside")

abbrev pub name_cell : Listed → List ℕ
name_cell l =
    start_tag tag.HeadCell [] ++ (star l ++ (escaped l.signal.name ++ (mux_mark l.signal.mux ++ end_tag tag.HeadCell)))

-- start and size
abbrev pub start_words : Signal → List ℕ
start_words s = decimal s.layout.start ++ (codes "|" ++ decimal s.layout.size)

abbrev pub start_cell : ℕ → Signal → List ℕ
start_cell bytes s = cell (start_words s ++ outside_mark bytes s)

-- number, name, start and size
abbrev pub place_cells : ℕ → Listed → List ℕ
place_cells bytes l = number_cell (number_of l) ++ (name_cell l ++ start_cell bytes l.signal)

abbrev pub decimal_cell : Number → List ℕ
decimal_cell d = cell (decimal_words d)

abbrev pub range_cell : Signal → List ℕ
range_cell s = cell (decimal_words s.minimum ++ (codes " to " ++ decimal_words s.maximum))

abbrev pub unit_cell : Signal → List ℕ
unit_cell s = cell (if length s.unit == 0 then [] else isolated s.unit)

abbrev pub spn_cell : Signal → List ℕ
spn_cell s = cell (if nat_lt 0 s.spn then decimal s.spn else [])

-- factor, offset, range, unit, suspect parameter number
abbrev pub value_cells : Signal → List ℕ
value_cells s = decimal_cell s.factor ++ (decimal_cell s.offset ++ (range_cell s ++ (unit_cell s ++ spn_cell s)))

abbrev pub coding_cell : Bool → Signal → List ℕ
coding_cell is_there s = if is_there then element_html tag.Cell [] (coding_of s) else []

-- the names of the receivers, with commas between
abbrev pub receivers_cell : Bool → Signal → List ℕ
receivers_cell is_there s = if is_there then cell (join_by escaped (codes ", ") s.receivers) else []

abbrev pub column_cells : Columns → Signal → List ℕ
column_cells columns s = coding_cell columns.codings s ++ receivers_cell columns.receivers s

-- comment and texts for values
abbrev pub comment_words : Signal → List ℕ
comment_words s = if length s.comment == 0 then []
    else isolated s.comment ++ (if length s.values == 0 then [] else codes "; ")

abbrev pub note_cell : Signal → List ℕ
note_cell s = cell (comment_words s ++ texts_html SHOWN_TEXTS s.values)

abbrev pub signal_cells : Columns → ℕ → Listed → List ℕ
signal_cells columns bytes l =
    place_cells bytes l ++ (value_cells l.signal
    ++ (column_cells columns l.signal ++ note_cell l.signal))

abbrev pub signal_row : Columns → ℕ → Listed → List ℕ
signal_row columns bytes l = start_tag tag.Row [] ++ (signal_cells columns bytes l ++ end_tag tag.Row)

-- ---- the table

abbrev pub head_if : Bool → List ℕ → List (List ℕ)
head_if is_there head = if is_there then head ∷ [] else []

abbrev pub signal_heads : Columns → List (List ℕ)
signal_heads columns =
    codes "#" ∷ codes "Signal" ∷ codes "Start|bits" ∷ codes "Factor" ∷ codes "Offset" ∷ codes "Range" ∷ codes "Unit"
    ∷ codes "SPN" ∷ (head_if columns.codings (codes "Coding") ++ (head_if columns.receivers (codes "Receivers")
    ++ codes "Values, comment" ∷ []))

-- a table of this class with these heads and rows
abbrev pub table_html : List ℕ → List (List ℕ) → List ℕ → List ℕ
table_html class heads rows =
    start_tag tag.Table (valued (codes " class=\"") (escaped class)) ++ (start_tag tag.TableHead []
    ++ (start_tag tag.Row [] ++ (heads_html heads ++ (end_tag tag.Row ++ (end_tag tag.TableHead
    ++ (start_tag tag.TableBody [] ++ (rows ++ (end_tag tag.TableBody ++ end_tag tag.Table))))))))

abbrev pub signal_table : Columns → ℕ → List Listed → List ℕ
signal_table columns bytes rows =
    table_html (codes "sig") (signal_heads columns) (flat_map (signal_row columns bytes) rows)

-- a row for each signal, in order
abbrev pub signals_html : Message → List Listed → List ℕ
signals_html m rows = if length m.signals == 0 then element_html tag.Paragraph [] (codes "No signal.")
    else signal_table (columns_of m.signals) m.length rows
