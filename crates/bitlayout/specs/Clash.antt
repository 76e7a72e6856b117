-- The first clash of a list of places.
use Rattle.std.specs.Prelude.{◌≡◌, ℕ, ◌<◌, ◌≤◌, ◌⊎◌, ◌&&◌, not, if◌then◌else◌, Bool, List, length, take, Option, Some}
use Rattle.std.specs.Prelude.{Any, slice_get, position, option_map}
use Rattle.std.specs.List.{list_any}
use Rattle.std.specs.Option.{option_and_then}
use Rattle.bitlayout.specs.declared.place.Place.{Place}
use Rattle.bitlayout.specs.declared.clash.Clash.{Clash}
use Rattle.bitlayout.specs.declared.clash.Clash.TheVariants.{Outside, TwoMultiplexors, NoMultiplexor, Overlap}
use Rattle.bitlayout.specs.Bits.{IsInside, SharesBit, is_inside, shares_bit}
use Rattle.bitlayout.specs.Mux.{Meet, IsUnder, meets, is_multiplexor, is_under}
use Rattle.bitlayout.specs.Clear.{IsMultiplexor}
use Rattle.bitlayout.specs.First.{first_answer}

-- the index of the place that has the clash
abbrev pub faulty_index : Clash → ℕ
faulty_index (Outside i) = i
faulty_index (TwoMultiplexors i) = i
faulty_index (NoMultiplexor i) = i
faulty_index (Overlap j i) = i

-- the place has the clash, in a list of places of a message of this many bytes
abbrev pub HasFault : List Place → ℕ → Place → Clash → Type 0
HasFault places bytes place (Outside i) = ¬ (IsInside place.layout bytes)
HasFault places bytes place (TwoMultiplexors i) = IsMultiplexor place × Any IsMultiplexor (take i places)
HasFault places bytes place (NoMultiplexor i) = IsUnder place.mux × (¬ (Any IsMultiplexor places))
HasFault places bytes place (Overlap j i) =
    (other : Place) × (j < i) × (slice_get places j ≡ Some other) × Meet other.mux place.mux
    × SharesBit other.layout place.layout

-- the list has the clash
abbrev pub HasClash : List Place → ℕ → Clash → Type 0
HasClash places bytes clash = (place : Place) × (slice_get places (faulty_index clash) ≡ Some place)
    × HasFault places bytes place clash

-- the order in which the clashes of one place are reported
abbrev pub kind_rank : Clash → ℕ
kind_rank (Outside i) = 0
kind_rank (TwoMultiplexors i) = 1
kind_rank (NoMultiplexor i) = 2
kind_rank (Overlap j i) = 3

-- the index of the other place of an overlap
abbrev pub partner_index : Clash → ℕ
partner_index (Overlap j i) = j
partner_index clash = 0

-- a clash is reported before another, or is the same: by the place that has it, then by the kind, then by the partner
abbrev pub IsNamedFirst : Clash → Clash → Type 0
IsNamedFirst a b =
    (faulty_index a < faulty_index b)
    ⊎ ((faulty_index a ≡ faulty_index b)
    × ((kind_rank a < kind_rank b) ⊎ ((kind_rank a ≡ kind_rank b) × (partner_index a ≤ partner_index b))))

-- the list has the clash, and none that is reported before it
pub record IsFirstClash (places : List Place) (bytes : ℕ) (clash : Clash) : Type 0 where
  pub there : HasClash places bytes clash
  pub first : (other : Clash) → HasClash places bytes other → IsNamedFirst clash other

-- The same computed.

-- whether one of the places is the multiplexor
abbrev pub has_multiplexor : List Place → Bool
has_multiplexor places = list_any (λ place. is_multiplexor place.mux) places

-- whether both are present for some value, and they have a position in common
abbrev pub collide : Place → Place → Bool
collide a b = meets a.mux b.mux && shares_bit a.layout b.layout

-- the first clash of a place that comes after these, in a list with or without a multiplexor
unfoldable pub clash_after : ℕ → Bool → List Place → Place → Option Clash
clash_after bytes multiplexed earlier place =
    if not (is_inside place.layout bytes) then Some (Outside (length earlier))
    else (if is_multiplexor place.mux && has_multiplexor earlier then Some (TwoMultiplexors (length earlier))
    else (if is_under place.mux && not multiplexed then Some (NoMultiplexor (length earlier))
    else option_map (λ j. Overlap j (length earlier)) (position (λ other. collide other place) earlier)))

-- the first clash of the place at an index
abbrev pub clash_at : ℕ → Bool → List Place → ℕ → Option Clash
clash_at bytes multiplexed places i =
    option_and_then (clash_after bytes multiplexed (take i places)) (slice_get places i)

-- the first clash of the places, in a list with or without a multiplexor
abbrev pub first_clash_among : ℕ → Bool → List Place → Option Clash
first_clash_among bytes multiplexed places = first_answer (clash_at bytes multiplexed places) (length places)

-- the first clash of the places of a message of this many bytes
abbrev pub first_clash_of : List Place → ℕ → Option Clash
first_clash_of places bytes = first_clash_among bytes (has_multiplexor places) places
