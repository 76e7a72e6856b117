-- The chart of a message's signals, line by line.
use Rattle.std.specs.Prelude.{ℕ, ◌+◌, ◌*◌, nat_lt, Bool, List, [], ◌∷◌, ◌++◌, map, Option, Some, None, if◌then◌else◌}
use Rattle.std.specs.Prelude.{position, slice_get, codes, decimal}
use Rattle.std.specs.List.{count_by, flat_map, range_with_len, enumerate_from}
use Rattle.std.specs.Option.{option_map_or}
use Rattle.bitlayout.specs.declared.layout.Layout.{Layout}
use Rattle.bitlayout.specs.declared.place.Mux.{Mux}
use Rattle.bitlayout.specs.declared.place.Mux.TheVariants.{Always}
use Rattle.bitlayout.specs.declared.place.Place.{Place}
use Rattle.bitlayout.specs.declared.clash.Clash.{Clash}
use Rattle.bitlayout.specs.declared.clash.Clash.TheVariants.{Outside, TwoMultiplexors, NoMultiplexor, Overlap}
use Rattle.bitlayout.specs.Bits.{is_bit}
use Rattle.bitlayout.specs.Clash.{first_clash_of}
use Rattle.bitlayout.specs.Mux.{indicator_of}
use Rattle.bitlayout.specs.Order.{order_number}
use Rattle.dbc_words.specs.Fault.{clash_code, code_name, code_number}
use Rattle.columns.specs.Padding.{set_right}
use Rattle.office_views.specs.declared.signal.ChartSignal.{ChartSignal}

-- ---- the lines of the bytes

-- `A`, `+`, `#`, `.` and a space
abbrev first_letter : ℕ
first_letter = 65

abbrev plus : ℕ
plus = 43

abbrev hash : ℕ
hash = 35

abbrev point : ℕ
point = 46

abbrev space : ℕ
space = 32

-- the letter of the signal at an index: `A` for the first to `Z` for the 26th, `+` for those after it
abbrev pub letter_of : ℕ → ℕ
letter_of i = if nat_lt i 26 then first_letter + i else plus

-- the signal has a bit at the position
abbrev pub holds : ℕ → ChartSignal → Bool
holds p signal = is_bit signal.place.layout p

-- the cell of a position: `#` where two or more signals have it, else the letter of the one that has it, else `.`
abbrev pub cell_of : List ChartSignal → ℕ → ℕ
cell_of signals p = if nat_lt 1 (count_by (holds p) signals) then hash else option_map_or letter_of
    (position (holds p) signals) point

-- the bits of a byte, from left to right
abbrev pub bits_of_byte : List ℕ
bits_of_byte = 7 ∷ 6 ∷ 5 ∷ 4 ∷ 3 ∷ 2 ∷ 1 ∷ 0 ∷ []

-- the cells of a byte, each after a space
abbrev pub cells_of : List ChartSignal → ℕ → List ℕ
cells_of signals byte = flat_map (λ bit. space ∷ cell_of signals (8 * byte + bit) ∷ []) bits_of_byte

-- the byte's number in 4 columns, and its cells
abbrev pub byte_line : List ChartSignal → ℕ → List ℕ
byte_line signals byte = set_right 4 (decimal byte) ++ (cells_of signals byte ++ codes "\n")

-- ---- the lines of the signals

-- start|size@order
abbrev pub layout_text : Layout → List ℕ
layout_text layout = decimal layout.start
    ++ (codes "|" ++ (decimal layout.size ++ (codes "@" ++ decimal (order_number layout.order))))

-- a space and the indicator, if there is one
abbrev pub mark_text : Mux → List ℕ
mark_text Always = []
mark_text mux = codes " " ++ indicator_of mux

-- letter, name, layout, indicator
abbrev pub signal_line : ℕ → ChartSignal → List ℕ
signal_line i signal =
    letter_of i ∷ space ∷ (signal.name
    ++ (codes " " ++ (layout_text signal.place.layout ++ (mark_text signal.place.mux ++ codes "\n"))))

-- ---- the last line

-- the name of the signal at an index; there is none past the list
abbrev pub name_at : List ChartSignal → ℕ → List ℕ
name_at signals i = option_map_or (λ signal. signal.name) (slice_get signals i) []

-- the names of the signals of a clash, each after a space: of two that share a bit the earlier one's first
abbrev pub names_of : List ChartSignal → Clash → List ℕ
names_of signals (Outside i) = codes " " ++ name_at signals i
names_of signals (TwoMultiplexors i) = codes " " ++ name_at signals i
names_of signals (NoMultiplexor i) = codes " " ++ name_at signals i
names_of signals (Overlap j i) = (codes " " ++ name_at signals j) ++ (codes " " ++ name_at signals i)

abbrev pub verdict_of : List ChartSignal → Option Clash → List ℕ
verdict_of signals None = codes "clear\n"
verdict_of signals (Some clash) =
    decimal (code_number (clash_code clash))
    ++ (codes " " ++ (code_name (clash_code clash) ++ (names_of signals clash ++ codes "\n")))

-- ---- the whole

abbrev pub places_of : List ChartSignal → List Place
places_of signals = map (λ signal. signal.place) signals

-- the first clash of the signals, if any, in a message of this many bytes
abbrev pub clash_of : ℕ → List ChartSignal → Option Clash
clash_of bytes signals = first_clash_of (places_of signals) bytes

-- a line for each byte, then one for each signal, then whether they are clear
abbrev pub chart_of : ℕ → List ChartSignal → List ℕ
chart_of bytes signals =
    flat_map (byte_line signals) (range_with_len 0 bytes)
    ++ (flat_map (λ p. signal_line p.0 p.1) (enumerate_from 0 signals) ++ verdict_of signals (clash_of bytes signals))
