-- Which signals hold which bits of a payload. A place is where a bit comes in reading order, from the most significant
-- bit of the first byte on: the rank of its position in Motorola order.
use Rattle.std.specs.Prelude.{ℕ, ◌+◌, ◌-◌, ◌*◌, ◌/◌, Bool, List, filter, map, max, min}
use Rattle.std.specs.List.{range_with_len}
use Rattle.bitlayout.specs.Bits.{is_bit}
use Rattle.bitlayout.specs.Interval.{rank}
use Rattle.bitlayout.specs.declared.layout.Layout.{Layout}
use Rattle.bitlayout.specs.declared.layout.Order.{Order}
use Rattle.bitlayout.specs.declared.layout.Order.TheVariants.{Intel, Motorola}
use Rattle.page_messages.specs.declared.bits.Held.{Held}
use Rattle.page_messages.specs.declared.bits.TheConstants.{REACH}
use Rattle.page_messages.specs.declared.shown.Shown.{Shown}

-- the position of a place, and the place of a position
abbrev pub turned : ℕ → ℕ
turned p = rank Motorola p

-- the first place of the byte of a place
abbrev pub start_of_byte : ℕ → ℕ
start_of_byte place = 8 * (place / 8)

-- the bit of the raw value at a place, 0 being the least significant
abbrev pub raw_in : Order → ℕ → ℕ → ℕ → ℕ
raw_in Intel start size place = turned place - start
raw_in Motorola start size place = size - 1 - (place - turned start)

abbrev pub raw_bit : Layout → ℕ → ℕ
raw_bit layout place = raw_in layout.order layout.start layout.size place

-- the bit at a place, if the signal has it
abbrev pub bit_at : Shown → ℕ → Held
bit_at by place = record { place = place; raw = raw_bit by.signal.now.layout place; by = by }

-- the bit is one of its signal's
abbrev pub is_held : Held → Bool
is_held bit = is_bit bit.by.signal.now.layout (turned bit.place)

-- the bits before the end that the signal holds
abbrev pub held_of : ℕ → Shown → List Held
held_of end by = let first = start_of_byte by.signal.now.layout.start in
    let last = max (min end (first + REACH)) first in
    filter is_held (map (bit_at by) (range_with_len first (last - first)))
