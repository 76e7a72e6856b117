-- The drawing of a layout: a row for each byte in which a signal has a bit, and one for all neighbours in which none has.
-- In the row of a byte the neighbouring bits that the same signals hold are one cell.
use Rattle.std.specs.Prelude.{◌≡◌, ℕ, zero, suc, ◌+◌, ◌-◌, ◌*◌, ◌/◌, ◌<◌, ◌==◌, ◌&&◌, nat_lt, Bool, true, false}
use Rattle.std.specs.Prelude.{List, [], ◌∷◌, ◌++◌, All, Option, Some, None, codes, decimal, filter, find, length, map}
use Rattle.std.specs.Prelude.{if◌then◌else◌}
use Rattle.std.specs.Bool.{MatchBool}
use Rattle.std.specs.Borrow.{Bor}
use Rattle.std.specs.List.{flat_map, join_by, list_all, list_any, range_with_len, zip}
use Rattle.std.specs.List.Sorted.{IsNonDecreasingBy, IsStrictlyIncreasing}
use Rattle.std.specs.Option.{option_map}
use Rattle.bitlayout.specs.Mux as muxes
use Rattle.bitlayout.specs.declared.place.Mux.{Mux}
use Rattle.bitlayout.specs.declared.place.Mux.TheVariants.{Under}
use Rattle.columns.specs.declared.run.Run.{Run}
use Rattle.dbc_sheet.specs.declared.message.Message.{Message}
use Rattle.dbc_sheet.specs.declared.signal.Signal.{Signal}
use Rattle.markup.specs.Html.{element_html, end_tag, escaped, start_tag, valued}
use Rattle.markup.specs.Writing.{Becomes, Writing, adding}
use Rattle.markup.specs.declared.tag.Tag.TheVariants as tag
use Rattle.page_parts.specs.Words.{isolated, quiet, run_html}
use Rattle.page_messages.specs.Bits.{bit_at, is_held}
use Rattle.page_messages.specs.Signals.{listed_of, number_of, star}
use Rattle.page_messages.specs.declared.bits.Held.{Held}
use Rattle.page_messages.specs.declared.layouts.MuxValue.{MuxValue}
use Rattle.page_messages.specs.declared.shown.Shown.{Shown}

-- ---- which signals hold which bits

abbrev pub place_of : Held → ℕ
place_of bit = bit.place

-- the bits at a place
abbrev pub bits_at : List Held → ℕ → List Held
bits_at held place = filter (λ (bit : Held). bit.place == place) held

-- the bits at a place of those signals that have it
abbrev pub holders : List Shown → ℕ → List Held
holders signals place = filter is_held (map (λ (by : Shown). bit_at by place) signals)

-- the bits are in reading order, in a payload of so many bytes
pub record AreInOrder (held : List Held) (bytes : ℕ) : Type 0 where
  pub rising : IsNonDecreasingBy place_of held
  pub within : All (λ (bit : Held). bit.place < 8 * bytes) held

-- they are all that the signals hold
pub record AreHeldBy (signals : List Shown) (bytes : ℕ) (held : List Held) : Type 0 where
  pub order : AreInOrder held bytes
  pub each : (place : ℕ) → place < 8 * bytes → bits_at held place ≡ holders signals place

abbrev pub is_same_signal : Held × Held → Bool
is_same_signal pair = pair.0.by.index == pair.1.by.index

-- the bits are of the same signals
abbrev pub are_alike : List Held → List Held → Bool
are_alike a b = length a == length b && list_all is_same_signal (zip a b)

-- Below, `at` says of a place which bits are there.

-- the same signals hold both places
abbrev pub have_same : (ℕ → List Held) → ℕ → ℕ → Bool
have_same at a b = are_alike (at a) (at b)

abbrev pub is_unheld : (ℕ → List Held) → ℕ → Bool
is_unheld at place = length (at place) == 0

-- no signal has a bit of the byte
unfoldable pub is_free : (ℕ → List Held) → ℕ → Bool
is_free at byte = list_all (is_unheld at) (range_with_len (8 * byte) 8)

abbrev pub are_free : (ℕ → List Held) → ℕ → ℕ → Bool
are_free at a b = is_free at a && is_free at b

-- ---- runs

-- the number before the runs of those after it: where it is like its neighbour it joins the first of them
abbrev pub joined : Bool → ℕ → List Run → List Run
joined true n (r ∷ runs) = record { first = n; last = r.last } ∷ runs
joined is_like n runs = record { first = n; last = n } ∷ runs

-- so many numbers from one on, in runs of neighbours that are alike
unfoldable pub runs_of : (ℕ → ℕ → Bool) → ℕ → ℕ → List Run
runs_of alike n zero = []
runs_of alike n (suc count) = joined (alike n (n + 1)) n (runs_of alike (n + 1) count)

-- ---- a cell

-- the attribute of a cell that goes over so many columns
abbrev pub across : ℕ → List ℕ
across columns = if columns == 1 then [] else valued (codes " colspan=\"") (decimal columns)

-- bits of the raw value: `15:8`, or `3`
abbrev pub raw_bits : ℕ → ℕ → List ℕ
raw_bits high low = decimal high ++ (if high == low then [] else codes ":" ++ decimal low)

-- the same in grey, unless they are all of it
abbrev pub raw_mark : Signal → ℕ → ℕ → List ℕ
raw_mark s high low = if high - low == s.layout.size - 1 then []
    else codes " " ++ (start_tag tag.Span (codes " class=\"q\"") ++ (raw_bits high low ++ end_tag tag.Span))

-- a signal that isn't always there has another colour
abbrev pub mux_class : Mux → List ℕ
mux_class (Under value) = codes "v"
mux_class other = codes "u"

-- a star, if it has changed, its number in the table of signals, its name, and which of its bits
abbrev pub signal_words : Held → Held → List ℕ
signal_words high low =
    star (listed_of high.by) ++ (decimal (number_of (listed_of high.by)) ++ (codes " "
    ++ (escaped high.by.signal.now.name ++ raw_mark high.by.signal.now high.raw low.raw)))

abbrev pub signal_attributes : ℕ → Signal → List ℕ
signal_attributes columns s =
    valued (codes " class=\"") (escaped (mux_class s.mux))
    ++ (across columns ++ valued (codes " title=\"") (escaped s.name))

-- of one signal, from the higher to the lower bit
abbrev pub signal_cell : ℕ → Held → Held → List ℕ
signal_cell columns high low =
    start_tag tag.Cell (signal_attributes columns high.by.signal.now) ++ (signal_words high low ++ end_tag tag.Cell)

abbrev pub name_of : Held → List ℕ
name_of bit = escaped bit.by.signal.now.name

abbrev pub clash_number : Held → List ℕ
clash_number bit = codes " " ++ decimal (number_of (listed_of bit.by))

-- `clash: A, B`
abbrev pub clash_title : List Held → List ℕ
clash_title held = codes "clash: " ++ join_by name_of (codes ", ") held

abbrev pub clash_attributes : ℕ → List ℕ → List ℕ
clash_attributes columns title = codes " class=\"x\"" ++ (across columns ++ valued (codes " title=\"") title)

-- of several signals: their numbers in the table of signals
abbrev pub clash_words : List Held → List ℕ
clash_words held = codes "clash" ++ flat_map clash_number held

abbrev pub clash_cell : ℕ → List Held → List ℕ
clash_cell columns held =
    start_tag tag.Cell (clash_attributes columns (clash_title held)) ++ (clash_words held ++ end_tag tag.Cell)

abbrev pub free_cell : ℕ → List ℕ
free_cell columns = element_html tag.Cell (codes " class=\"free\"" ++ across columns) []

-- so many bits as one cell: these signals hold the first of them, and these the last
abbrev pub cell_html : ℕ → List Held → List Held → List ℕ
cell_html columns [] last = free_cell columns
cell_html columns (high ∷ []) (low ∷ []) = signal_cell columns high low
cell_html columns first last = clash_cell columns first

-- ---- a row

abbrev pub run_cell : (ℕ → List Held) → Run → List ℕ
run_cell at r = cell_html (r.last + 1 - r.first) (at r.first) (at r.last)

-- the cells of the byte from this place on
abbrev pub cells_html : (ℕ → List Held) → ℕ → List ℕ
cells_html at start = flat_map (run_cell at) (runs_of (have_same at) start 8)

-- `7-0`, the positions of the byte from this place on, in grey
abbrev pub position_words : ℕ → List ℕ
position_words start =
    start_tag tag.Span (codes " class=\"q\"") ++ (decimal (start + 7) ++ (codes "-" ++ (decimal start ++ end_tag tag.Span)))

-- `0 7-0`, the byte and its positions
abbrev pub byte_head : ℕ → List ℕ
byte_head start =
    start_tag tag.HeadCell [] ++ (decimal (start / 8) ++ (codes " " ++ (position_words start ++ end_tag tag.HeadCell)))

abbrev pub byte_row : (ℕ → List Held) → ℕ → List ℕ
byte_row at start = start_tag tag.Row [] ++ (byte_head start ++ (cells_html at start ++ end_tag tag.Row))

-- `5`, or `1-3`
abbrev pub run_head : Run → List ℕ
run_head r = start_tag tag.HeadCell [] ++ (run_html r ++ end_tag tag.HeadCell)

-- of bytes in a row that no signal has
abbrev pub free_row : Run → List ℕ
free_row r =
    start_tag tag.Row [] ++ (run_head r
    ++ (element_html tag.Cell (codes " class=\"eq\"" ++ across 8) (codes "free") ++ end_tag tag.Row))

-- a row of those from the first up to the end, if there are some
abbrev pub free_rows : ℕ → ℕ → List ℕ
free_rows first end = if nat_lt first end then free_row (record { first = first; last = end - 1 }) else []

abbrev pub row_html : (ℕ → List Held) → Run → List ℕ
row_html at r = if is_free at r.first then free_row r else byte_row at (8 * r.first)

-- the rows of a payload of so many bytes
abbrev pub rows_html : (ℕ → List Held) → ℕ → List ℕ
rows_html at bytes = flat_map (row_html at) (runs_of (are_free at) 0 bytes)

-- ---- a layout

abbrev pub bit_head : ℕ → List ℕ
bit_head bit = start_tag tag.HeadCell [] ++ (decimal bit ++ end_tag tag.HeadCell)

-- `Byte bits`
abbrev pub byte_words : List ℕ
byte_words =
    start_tag tag.HeadCell [] ++ (codes "Byte " ++ (quiet (codes "bits") ++ end_tag tag.HeadCell))

-- the same, and the bits of a byte from left to right
unfoldable pub head_row : List ℕ
head_row =
    start_tag tag.Row [] ++ (byte_words ++ (flat_map bit_head (7 ∷ 6 ∷ 5 ∷ 4 ∷ 3 ∷ 2 ∷ 1 ∷ 0 ∷ []) ++ end_tag tag.Row))

unfoldable pub layout_heads : List ℕ
layout_heads = start_tag tag.TableHead [] ++ (head_row ++ end_tag tag.TableHead)

-- heads and rows
abbrev pub bits_html : (ℕ → List Held) → ℕ → List ℕ
bits_html at bytes =
    layout_heads ++ (start_tag tag.TableBody [] ++ (rows_html at bytes ++ end_tag tag.TableBody))

abbrev pub layout_attributes : List ℕ → List ℕ
layout_attributes name = codes " class=\"bits\"" ++ valued (codes " aria-label=\"") (codes "Bits of " ++ escaped name)

-- of a message of this name and of so many bytes, with this caption
abbrev pub layout_html : List ℕ → List ℕ → (ℕ → List Held) → ℕ → List ℕ
layout_html name caption at bytes =
    start_tag tag.Table (layout_attributes name) ++ (caption ++ (bits_html at bytes ++ end_tag tag.Table))

abbrev pub text_mark : Option (List ℕ) → List ℕ
text_mark None = []
text_mark (Some text) = codes ", " ++ isolated text

-- `Page = 1, Clock`
abbrev pub value_words : List ℕ → ℕ → Option (List ℕ) → List ℕ
value_words name value text = escaped name ++ (codes " = " ++ (decimal value ++ text_mark text))

abbrev pub caption : List ℕ → ℕ → Option (List ℕ) → List ℕ
caption name value text = start_tag tag.Caption [] ++ (value_words name value text ++ end_tag tag.Caption)

abbrev pub caption_if : Option MuxValue → List ℕ
caption_if None = []
caption_if (Some v) = caption v.name.now v.value (option_map (λ (text : Bor (List ℕ)). text.now) v.text)

abbrev pub number_if : Option MuxValue → Option ℕ
number_if None = None
number_if (Some v) = Some v.value

-- ---- the layouts of a message

abbrev pub is_with : Option ℕ → Mux → Bool
is_with (Some value) (Under v) = v == value
is_with None (Under v) = false
is_with value other = true

-- the signal is there: always, or with this value of the multiplexor
abbrev pub is_there : Option ℕ → Shown → Bool
is_there value s = is_with value s.signal.now.mux

-- the drawing of the bits that those signals hold that are there
abbrev pub drawing_of : Message → List Shown → Option ℕ → List ℕ → List ℕ
drawing_of m shown value caption = layout_html m.name caption (holders (filter (is_there value) shown)) m.length

abbrev pub value_in : Mux → Option ℕ
value_in (Under value) = Some value
value_in other = None

-- the value of the multiplexor on which the signal depends
abbrev pub value_if : Shown → Option ℕ
value_if s = value_in s.signal.now.mux

abbrev pub is_number : ℕ → Option ℕ → Bool
is_number n None = false
is_number n (Some m) = m == n

abbrev pub depends_on : ℕ → Shown → Bool
depends_on value s = is_number value (value_if s)

-- ascending, those values of the multiplexor on which signals depend
pub record AreValues (shown : List Shown) (values : List ℕ) : Type 0 where
  pub rising : IsStrictlyIncreasing values
  pub each : (value : ℕ) → list_any (λ v. v == value) values ≡ list_any (depends_on value) shown

-- something is added at its end that is so
abbrev pub Adds : (List ℕ → Type 0) → Writing → Writing → Type 0
Adds Is new old = (bytes : List ℕ) × Is bytes × Becomes new (adding bytes old)

-- one thing after another: one for each of the items, in order
abbrev pub AreFor : {X : Type 0} → (X → List ℕ → Type 0) → List X → List ℕ → Type 0
AreFor Is [] bytes = bytes ≡ []
AreFor Is (x ∷ xs) bytes = (one : List ℕ) × (more : List ℕ) × Is x one × AreFor Is xs more × (bytes ≡ one ++ more)

-- the layout for a value of the multiplexor of this name, with the value and a text in its caption
pub record IsValueLayout (m : Message) (shown : List Shown) (name : List ℕ) (value : ℕ) (drawing : List ℕ) : Type 0 where
  pub text : Option (List ℕ)
  pub is : drawing ≡ drawing_of m shown (Some value) (caption name value text)

abbrev pub grid_html : List ℕ → List ℕ
grid_html layouts = start_tag tag.Division (codes " class=\"grid\"") ++ (layouts ++ end_tag tag.Division)

-- one for each of the values, in order
pub record AreValueLayouts (m : Message) (shown : List Shown) (name : List ℕ) (values drawing : List ℕ) : Type 0 where
  pub layouts : List ℕ
  pub each : AreFor (IsValueLayout m shown name) values layouts
  pub is : drawing ≡ grid_html layouts

abbrev pub is_multiplexor : Shown → Bool
is_multiplexor s = muxes.is_multiplexor s.signal.now.mux

abbrev pub AreLayoutsBy : Message → List Shown → List ℕ → Option Shown → List ℕ → Type 0
AreLayoutsBy m shown (v ∷ values) (Some s) drawing = AreValueLayouts m shown s.signal.now.name (v ∷ values) drawing
AreLayoutsBy m shown values s drawing = drawing ≡ drawing_of m shown None []

-- one for each value of the multiplexor on which signals depend, or one
pub record AreDrawn (m : Message) (shown : List Shown) (drawing : List ℕ) : Type 0 where
  pub values : List ℕ
  pub are_values : AreValues shown values
  pub are_layouts : AreLayoutsBy m shown values (find is_multiplexor shown) drawing

-- those of a message; none where it has no payload
abbrev pub AreLayouts : Message → List Shown → List ℕ → Type 0
AreLayouts m shown drawing = MatchBool (m.length == 0) (drawing ≡ []) (AreDrawn m shown drawing)
