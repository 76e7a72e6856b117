-- Why the signals of a message do not fit together: all reasons, each with a bit.
use Rattle.std.specs.Prelude.{◌≡◌, ◌<◌, ◌≤◌, ◌⊎◌, ◌&&◌, ℕ, ◌*◌, ◌-◌, Bool, not, List, [], ◌∷◌, ◌++◌, length, take, drop}
use Rattle.std.specs.Prelude.{find, Option, None, if◌then◌else◌}
use Rattle.std.specs.List.{enumerate_from, flat_map, range_with_len}
use Rattle.bitlayout.specs.Bits.{is_bit, is_inside}
use Rattle.bitlayout.specs.Clash.{collide, has_multiplexor}
use Rattle.bitlayout.specs.Mux.{is_under}
use Rattle.bitlayout.specs.declared.clash.Clash.TheVariants.{NoMultiplexor, Outside, Overlap}
use Rattle.bitlayout.specs.declared.layout.Layout.{Layout}
use Rattle.bitlayout.specs.declared.place.Place.{Place}
use Rattle.dbc_advice.specs.Limits.{reasons_reported}
use Rattle.dbc_advice.specs.declared.reasons.ClashReason.{ClashReason}

-- a position of a bit is less than this: a start is at most 65535, and a walk of 64 bits goes on for 8 bytes and a bit
abbrev pub positions_end : ℕ
positions_end = 65664

-- the least position in a payload of this many bytes that both signals have
abbrev pub first_shared : ℕ → Layout → Layout → Option ℕ
first_shared bytes a b = find (λ q. is_bit a q && is_bit b q) (range_with_len 0 (8 * bytes))

-- the least position past such a payload that the signal has
abbrev pub first_outside : ℕ → Layout → Option ℕ
first_outside bytes a = find (λ q. is_bit a q) (range_with_len (8 * bytes) (positions_end - 8 * bytes))

-- a bit of the place is outside
abbrev pub outside_reason : ℕ → ℕ → Place → List ClashReason
outside_reason bytes i place =
    if is_inside place.layout bytes then [] else record { clash = Outside i; bit = first_outside bytes place.layout }
    ∷ []

-- the place depends on a value of the multiplexor, and there is none
abbrev pub unmultiplexed_reason : Bool → ℕ → Place → List ClashReason
unmultiplexed_reason multiplexed i place =
    if is_under place.mux && not multiplexed then record { clash = NoMultiplexor i; bit = None } ∷ [] else []

-- two places are both present for some value, and share a bit
abbrev pub overlap_reason : ℕ → ℕ → Place → ℕ × Place → List ClashReason
overlap_reason bytes i place other =
    if collide other.1 place
    then record { clash = Overlap other.0 i; bit = first_shared bytes other.1.layout place.layout } ∷ [] else []

abbrev pub overlap_reasons : ℕ → List Place → ℕ → Place → List ClashReason
overlap_reasons bytes earlier i place = flat_map (overlap_reason bytes i place) (enumerate_from 0 earlier)

-- all reasons of a place, at an index
abbrev pub reasons_at : ℕ → List Place → ℕ × Place → List ClashReason
reasons_at bytes places p =
    outside_reason bytes p.0 p.1
    ++ (unmultiplexed_reason (has_multiplexor places) p.0 p.1 ++ overlap_reasons bytes (take p.0 places) p.0 p.1)

-- the reasons of the places from an index on
abbrev pub reasons_from : ℕ → List Place → ℕ → List ClashReason
reasons_from bytes places n = flat_map (reasons_at bytes places) (enumerate_from n (drop n places))

-- With those of the places that weren't looked at they are all reasons; and so many places were looked at that all
-- were, or that there are more reasons than are reported.
pub record AreReasons (bytes : ℕ) (places : List Place) (reasons : List ClashReason) : Type 0 where
  pub looked_at : ℕ
  pub are : reasons ++ reasons_from bytes places looked_at ≡ reasons_from bytes places 0
  pub enough : (length places ≤ looked_at) ⊎ (reasons_reported < length reasons)
