-- The definitions computed on small charts and words.
use Rattle.std.proofs.Common.{◌≡◌, [], ◌∷◌, Some, None, codes, refl}
use Rattle.std.specs.Fmt.{digits}
use Rattle.bitlayout.specs.declared.layout.Order.TheVariants.{Intel, Motorola}
use Rattle.bitlayout.specs.declared.place.Mux.TheVariants.{Always, Multiplexor, Under}
use Rattle.bitlayout.specs.Bits.{walk, is_bit, shares_bit, is_inside}
use Rattle.bitlayout.specs.Clash.{clash_after}
use Rattle.bitlayout.specs.First.{first_answer}
use Rattle.bitlayout.specs.Start.{place_from}
use Rattle.office_views.specs.declared.signal.ChartSignal.{ChartSignal}
use Rattle.office_views.specs.Text.{cells_of, clash_of, letter_of, signal_line, verdict_of}
use Rattle.office_views.specs.Word.{length_of, place_of}

abbrev big : ChartSignal
big = record { name = codes "Big"; place = place_from 16 Motorola Always 7 }

abbrev little : ChartSignal
little = record { name = codes "Little"; place = place_from 16 Intel Always 0 }

abbrev selector : ChartSignal
selector = record { name = codes "Sel"; place = place_from 4 Intel Multiplexor 0 }

abbrev under_zero : ChartSignal
under_zero = record { name = codes "P"; place = place_from 4 Intel (Under 0) 4 }

abbrev under_one : ChartSignal
under_one = record { name = codes "Q"; place = place_from 4 Intel (Under 1) 4 }

abbrev engine : ChartSignal
engine = record { name = codes "Eng"; place = place_from 12 Motorola Always 16 }

all_shared : cells_of (big ∷ little ∷ []) 1 ≡ codes " # # # # # # # #"
unfolding walk is_bit
all_shared = refl

half_shared : cells_of (selector ∷ under_zero ∷ under_one ∷ []) 0 ≡ codes " # # # # A A A A"
unfolding walk is_bit
half_shared = refl

one_bit_of_byte_2 : cells_of (engine ∷ []) 2 ≡ codes " . . . . . . . A"
unfolding walk is_bit
one_bit_of_byte_2 = refl

three_bits_of_byte_4 : cells_of (engine ∷ []) 4 ≡ codes " A A A . . . . ."
unfolding walk is_bit
three_bits_of_byte_4 = refl

a_marked_line : signal_line 2 under_one ≡ codes "C Q 4|4@1 m1\n"
unfolding digits
a_marked_line = refl

a_motorola_line : signal_line 26 engine ≡ codes "+ Eng 16|12@0\n"
unfolding digits
a_motorola_line = refl

two_orders_clash : verdict_of (big ∷ little ∷ []) (clash_of 2 (big ∷ little ∷ [])) ≡ codes "23 Clash Big Little\n"
unfolding digits walk shares_bit is_inside clash_after first_answer
two_orders_clash = refl

no_multiplexor : verdict_of (under_zero ∷ []) (clash_of 1 (under_zero ∷ [])) ≡ codes "24 NoMultiplexor P\n"
unfolding digits walk shares_bit is_inside clash_after first_answer
no_multiplexor = refl

last_letter : letter_of 25 ∷ letter_of 26 ∷ [] ≡ codes "Z+"
last_letter = refl

two_values_are_clear : verdict_of (selector ∷ under_zero ∷ under_one ∷ [])
    (clash_of 1 (selector ∷ under_zero ∷ under_one ∷ [])) ≡ codes "clear\n"
unfolding walk shares_bit is_inside clash_after first_answer
two_values_are_clear = refl

a_motorola_place : place_of (codes "7|16@0") ≡ Some big.place
a_motorola_place = refl

a_marked_place : place_of (codes "04|4@01,m0") ≡ Some under_zero.place
a_marked_place = refl

a_multiplexor_place : place_of (codes "0|4@1,M") ≡ Some selector.place
a_multiplexor_place = refl

no_size : place_of (codes "0|65@1") ≡ None
no_size = refl

no_order : place_of (codes "0|1@2") ≡ None
no_order = refl

no_value : place_of (codes "0|1@1,m") ≡ None
no_value = refl

too_long : length_of (codes "1786") ≡ None
too_long = refl
