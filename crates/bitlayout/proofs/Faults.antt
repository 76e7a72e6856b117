-- What the first clash of a list implies for its places.
use Rattle.bitlayout.proofs.Common.{◌≡◌, ℕ, ◌<◌, ◌≤◌, inl, inr, Bool, true, false, not, ◌&&◌, List, length, take}
use Rattle.bitlayout.proofs.Common.{get_or, Option, Some, None, refl, ap, subst, ◌∙◌, arith, Any, slice_get, position}
use Rattle.bitlayout.proofs.Common.{if◌then◌else◌, nat_lt, Decides, option_and_then, cases_lt, both_ways}
use Rattle.bitlayout.proofs.Common.{false_from_ne_true, not_from_Decides, get_or-take, length-take-le, position-Some}
use Rattle.bitlayout.proofs.Common.{slice_get-get_or, get_or_from_slice_get}
use Rattle.std.specs.Prelude.{option_map}
use Rattle.std.specs.List.{position_or_len}
use Rattle.std.proofs.lemmas.Bool.{cond-true, lt-ltb}
use Rattle.std.proofs.lemmas.Bool.Decides.{Decides-and, Decides-not}
use Rattle.std.proofs.lemmas.List.Folds.{Any-from_list_any, list_any-from_Any}
use Rattle.std.proofs.lemmas.List.Sums.{fails_before_first}
use Rattle.bitlayout.specs.declared.place.Place.{Place}
use Rattle.bitlayout.specs.declared.clash.Clash.{Clash}
use Rattle.bitlayout.specs.declared.clash.Clash.TheVariants.{Outside, TwoMultiplexors, NoMultiplexor, Overlap}
use Rattle.bitlayout.specs.Bits.{IsInside, SharesBit, is_inside, shares_bit}
use Rattle.bitlayout.specs.Mux.{Meet, IsUnder, meets, is_multiplexor, is_under}
use Rattle.bitlayout.specs.Clear.{IsMultiplexor}
use Rattle.bitlayout.specs.Clash.{has_multiplexor, collide, clash_after, clash_at}
use Rattle.bitlayout.proofs.Presence.{meets_decides, is_multiplexor_decides, is_under_decides}
use Rattle.bitlayout.proofs.Walks.{shares_bit_decides, is_inside_decides}

pub clash_at_place : (bytes : ℕ) (multiplexed : Bool) (places : List Place) (i : ℕ) (place : Place)
    → slice_get places i ≡ Some place
    → clash_at bytes multiplexed places i ≡ clash_after bytes multiplexed (take i places) place
clash_at_place bytes multiplexed places i place at =
    ap (option_and_then (clash_after bytes multiplexed (take i places))) at

-- the tests decide the facts
pub has_multiplexor_decides : (places : List Place) → Decides (has_multiplexor places) (Any IsMultiplexor places)
has_multiplexor_decides places = (
  λ t. let (k, place, below, at, is) = Any-from_list_any (λ p. is_multiplexor p.mux) places t in
      (k, place, below, at, (is_multiplexor_decides place.mux).0 is),
  λ (k, place, below, at, is). list_any-from_Any (λ p. is_multiplexor p.mux) places
      (k, place, below, at, (is_multiplexor_decides place.mux).1 is),
)

pub collide_decides : (a b : Place) → Decides (collide a b) (Meet a.mux b.mux × SharesBit a.layout b.layout)
collide_decides a b = Decides-and (meets a.mux b.mux) (shares_bit a.layout b.layout) (meets_decides a.mux b.mux)
    (shares_bit_decides a.layout b.layout)

-- the index of a first place, or none
pub at_position : (test : Place → Bool) (places : List Place) → position test places ≡ None → (k : ℕ) (d : Place)
    → k < length places → test (get_or places k d) ≡ false
at_position test places none k d below = elim (cases_lt (position_or_len test places) (length places)) [
  | inl found ↦
      let some : position test places ≡ Some (position_or_len test places) =
      cond-true (nat_lt (position_or_len test places) (length places)) _ None (lt-ltb _ _ found) in
      cc
  | inr past ↦ fails_before_first test places k d (omega arith)
]

pub no_position : (test : Place → Bool) (places : List Place) (o : Option ℕ) → position test places ≡ o → (d : Place)
    → ((k : ℕ) → k < length places → test (get_or places k d) ≡ false) → o ≡ None
no_position test places None e d none = refl
no_position test places (Some i) e d none = let (below, passes, before) = position-Some test places i d e in
    absurd (both_ways _ (none i below) passes)

-- the place has no fault at its index, in a list with or without a multiplexor
pub record Fits (places : List Place) (bytes : ℕ) (multiplexed : Bool) (i : ℕ) (place : Place) : Type 0 where
  pub inside : IsInside place.layout bytes
  pub alone : ¬ (IsMultiplexor place × Any IsMultiplexor (take i places))
  pub multiplexor : ¬ (IsUnder place.mux × (¬ (multiplexed ≡ true)))
  pub apart : (j : ℕ) (other : Place) → j < i → slice_get places j ≡ Some other
      → ¬ (Meet other.mux place.mux × SharesBit other.layout place.layout)

-- the four tests of a place, one after the other
abbrev pub chosen : Bool → Bool → Bool → ℕ → Option ℕ → Option Clash
chosen inside second lacking i partner =
    if not inside then Some (Outside i)
    else (if second then Some (TwoMultiplexors i)
    else (if lacking then Some (NoMultiplexor i) else option_map (λ j. Overlap j i) partner))

chosen_none : (inside second lacking : Bool) (i : ℕ) (partner : Option ℕ)
    → chosen inside second lacking i partner ≡ None → (inside ≡ true) × (second ≡ false) × (lacking ≡ false)
    × (partner ≡ None)
chosen_none true false false i None e = (refl, refl, refl, refl)
chosen_none true false false i (Some j) e = cc
chosen_none true false true i partner e = cc
chosen_none true true lacking i partner e = cc
chosen_none false second lacking i partner e = cc

none_chosen : (inside second lacking : Bool) (i : ℕ) (partner : Option ℕ) → inside ≡ true → second ≡ false
    → lacking ≡ false → partner ≡ None → chosen inside second lacking i partner ≡ None
none_chosen inside second lacking i partner a b c d = rw (a, b, c, d) refl

-- the facts that the four tests decide
pub second_decides : (earlier : List Place) (place : Place)
    → Decides (is_multiplexor place.mux && has_multiplexor earlier) (IsMultiplexor place × Any IsMultiplexor earlier)
second_decides earlier place = Decides-and _ _ (is_multiplexor_decides place.mux) (has_multiplexor_decides earlier)

pub lacking_decides : (multiplexed : Bool) (place : Place)
    → Decides (is_under place.mux && not multiplexed) (IsUnder place.mux × (¬ (multiplexed ≡ true)))
lacking_decides multiplexed place =
    Decides-and _ _ (is_under_decides place.mux) (Decides-not multiplexed (λ t. t, λ t. t))

pub fits_from_none : (places : List Place) (bytes : ℕ) (multiplexed : Bool) (i : ℕ) (place : Place) → i ≤ length places
    → clash_after bytes multiplexed (take i places) place ≡ None → Fits places bytes multiplexed i place
unfolding clash_after
fits_from_none places bytes multiplexed i place within none =
    let earlier = take i places in
    let (inside, second, lacking, partner) =
    chosen_none (is_inside place.layout bytes) (is_multiplexor place.mux && has_multiplexor earlier)
    (is_under place.mux && not multiplexed) (length earlier) (position (λ other. collide other place) earlier)
    none in
    record {
      inside = (is_inside_decides place.layout bytes).0 inside;
      alone = not_from_Decides _ (second_decides earlier place) second;
      multiplexor = not_from_Decides _ (lacking_decides multiplexed place) lacking;
      apart = λ j other before at.
          let few : length earlier ≡ i = length-take-le i places within in
          let here : get_or earlier j other ≡ other = get_or-take i places j other before
          ∙ get_or_from_slice_get places j other other at in
          let fails = at_position (λ p. collide p place) earlier partner j other (omega arith) in
          not_from_Decides _ (collide_decides other place) (subst (λ p. collide p place ≡ false) here fails);
    }

pub none_from_fits : (places : List Place) (bytes : ℕ) (multiplexed : Bool) (i : ℕ) (place : Place) → i ≤ length places
    → Fits places bytes multiplexed i place → clash_after bytes multiplexed (take i places) place ≡ None
unfolding clash_after
none_from_fits places bytes multiplexed i place within fits =
    let earlier = take i places in
    let few : length earlier ≡ i = length-take-le i places within in
    none_chosen (is_inside place.layout bytes) (is_multiplexor place.mux && has_multiplexor earlier)
    (is_under place.mux && not multiplexed) (length earlier) (position (λ other. collide other place) earlier)
    ((is_inside_decides place.layout bytes).1 fits.inside)
    (false_from_ne_true _ (λ t. fits.alone ((second_decides earlier place).0 t)))
    (false_from_ne_true _ (λ t. fits.multiplexor ((lacking_decides multiplexed place).0 t)))
    (no_position (λ p. collide p place) earlier _ refl place (λ k below.
    let before : k < i = omega arith in
    let inside : k < length places = omega arith in
    let at = slice_get-get_or places k place inside in
    let same : get_or earlier k place ≡ get_or places k place = get_or-take i places k place before in
    false_from_ne_true _ (λ t. fits.apart k (get_or places k place) before at
    ((collide_decides (get_or places k place) place).0 (subst (λ p. collide p place ≡ true) same t)))))
