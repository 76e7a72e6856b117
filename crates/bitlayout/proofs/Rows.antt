-- The definitions computed on small messages.
use Rattle.bitlayout.proofs.Common.{◌≡◌, ◌*◌, ◌≤◌, [], ◌∷◌, Some, None, true, false, refl, arith}
use Rattle.bitlayout.specs.declared.layout.Order.TheVariants.{Intel, Motorola}
use Rattle.bitlayout.specs.declared.place.Mux.TheVariants.{Always, Multiplexor, Under}
use Rattle.bitlayout.specs.declared.clash.Clash.TheVariants.{TwoMultiplexors, NoMultiplexor, Overlap, Outside}
use Rattle.bitlayout.specs.Bits.{positions, walk, shares_bit, is_inside}
use Rattle.bitlayout.specs.Clash.{clash_after, first_clash_of}
use Rattle.bitlayout.specs.First.{first_answer}
use Rattle.bitlayout.specs.Mask.{mask_end}
use Rattle.bitlayout.specs.Start.{least_start_of, place_from}
use Rattle.bitlayout.specs.Weight.{by_weight, same_bits}

-- a mask has 224 words of 64 positions, more than the 8 * 1785 of the longest payload
reach : mask_end ≡ 64 * 224
reach = refl

longest_payload : 8 * 1785 ≤ mask_end
longest_payload = omega arith

-- twelve bits of a Motorola signal: the last of byte 2, all of byte 3, the first three of byte 4
motorola_positions : positions (place_from 12 Motorola Always 16).layout ≡ 16 ∷ 31 ∷ 30 ∷ 29 ∷ 28 ∷ 27 ∷ 26 ∷ 25 ∷ 24
    ∷ 39 ∷ 38 ∷ 37 ∷ []
unfolding walk
motorola_positions = refl

two_orders_overlap : first_clash_of (place_from 16 Motorola Always 7 ∷ place_from 16 Intel Always 0 ∷ []) 2
    ≡ Some (Overlap 0 1)
unfolding walk shares_bit is_inside clash_after first_answer
two_orders_overlap = refl

-- by their ranks the second follows the first, and in its own order it has the same four bits
ranks_of_two_orders : first_clash_of (place_from 4 Intel Always 0 ∷ place_from 4 Motorola Always 3 ∷ []) 1
    ≡ Some (Overlap 0 1)
unfolding walk shares_bit is_inside clash_after first_answer
ranks_of_two_orders = refl

motorola_in_turn : first_clash_of (place_from 12 Motorola Always 7 ∷ place_from 4 Motorola Always 11 ∷ []) 2 ≡ None
unfolding walk shares_bit is_inside clash_after first_answer
motorola_in_turn = refl

two_values_share : first_clash_of
    (place_from 4 Intel Multiplexor 0 ∷ place_from 4 Intel (Under 0) 4 ∷ place_from 4 Intel (Under 1) 4 ∷ []) 1 ≡ None
unfolding walk shares_bit is_inside clash_after first_answer
two_values_share = refl

under_overlaps_always : first_clash_of
    (place_from 4 Intel Multiplexor 0 ∷ place_from 4 Intel (Under 0) 4 ∷ place_from 4 Intel Always 4 ∷ []) 1
    ≡ Some (Overlap 1 2)
unfolding walk shares_bit is_inside clash_after first_answer
under_overlaps_always = refl

no_multiplexor : first_clash_of (place_from 4 Intel (Under 0) 0 ∷ []) 1 ≡ Some (NoMultiplexor 0)
unfolding walk shares_bit is_inside clash_after first_answer
no_multiplexor = refl

two_multiplexors : first_clash_of (place_from 1 Intel Multiplexor 0 ∷ place_from 1 Intel Multiplexor 1 ∷ []) 1
    ≡ Some (TwoMultiplexors 1)
unfolding walk shares_bit is_inside clash_after first_answer
two_multiplexors = refl

next_to_the_first : least_start_of (place_from 16 Intel Always 0 ∷ []) 8 12 Motorola Always ≡ Some 16
unfolding walk shares_bit is_inside clash_after first_answer
next_to_the_first = refl

inside_its_payload : first_clash_of (place_from 12 Motorola Always 16 ∷ []) 5 ≡ None
unfolding walk shares_bit is_inside clash_after first_answer
inside_its_payload = refl

outside_its_payload : first_clash_of (place_from 12 Motorola Always 16 ∷ []) 4 ≡ Some (Outside 0)
unfolding walk shares_bit is_inside clash_after first_answer
outside_its_payload = refl

no_signals : first_clash_of [] 0 ≡ None
unfolding walk shares_bit is_inside clash_after first_answer
no_signals = refl

intel_next_to_the_first : least_start_of (place_from 16 Intel Always 0 ∷ []) 8 12 Intel Always ≡ Some 16
unfolding walk shares_bit is_inside clash_after first_answer
intel_next_to_the_first = refl

no_room : least_start_of (place_from 16 Intel Always 0 ∷ []) 3 12 Intel Always ≡ None
unfolding walk shares_bit is_inside clash_after first_answer
no_room = refl

no_room_in_a_byte : least_start_of [] 1 12 Intel Always ≡ None
unfolding walk shares_bit is_inside clash_after first_answer
no_room_in_a_byte = refl

always_lacks_its_multiplexor : least_start_of (place_from 4 Intel (Under 0) 0 ∷ []) 1 4 Intel Always ≡ None
unfolding walk shares_bit is_inside clash_after first_answer
always_lacks_its_multiplexor = refl

multiplexor_beside_what_hangs_on_it : least_start_of (place_from 4 Intel (Under 0) 0 ∷ []) 1 4 Intel Multiplexor
    ≡ Some 4
unfolding walk shares_bit is_inside clash_after first_answer
multiplexor_beside_what_hangs_on_it = refl

-- one bit is the same in both orders
one_bit : same_bits (record { start = 3; size = 1; order = Intel }) (record { start = 3; size = 1; order = Motorola })
    ≡ true
unfolding walk
one_bit = refl

-- so is a byte, whose least significant bit an Intel signal starts with, and a Motorola signal ends with
one_byte : same_bits (record { start = 8; size = 8; order = Intel }) (record { start = 15; size = 8; order = Motorola })
    ≡ true
unfolding walk
one_byte = refl

-- ten bits of a Motorola signal, the least significant first: the upper two of byte 1, then all of byte 0
motorola_by_weight : by_weight (record { start = 7; size = 10; order = Motorola }) ≡ 14 ∷ 15 ∷ 0 ∷ 1 ∷ 2 ∷ 3 ∷ 4 ∷ 5 ∷ 6
    ∷ 7 ∷ []
unfolding walk
motorola_by_weight = refl

-- two bytes have the same bits in both orders, and other weights
two_bytes : same_bits (record { start = 0; size = 16; order = Intel })
    (record { start = 7; size = 16; order = Motorola }) ≡ false
unfolding walk
two_bytes = refl

two_sizes : same_bits (record { start = 0; size = 8; order = Intel }) (record { start = 0; size = 7; order = Intel })
    ≡ false
unfolding walk
two_sizes = refl
