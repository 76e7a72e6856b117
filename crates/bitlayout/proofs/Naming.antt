-- The first clash of a list is the clash that is named first.
use Rattle.bitlayout.proofs.Common.{◌≡◌, ℕ, ◌<◌, ◌≤◌, ◌⊎◌, inl, inr, Bool, true, false, not, ◌&&◌, List, length, take}
use Rattle.bitlayout.proofs.Common.{get_or, Option, Some, None, refl, sym, ap, subst, ◌∙◌, arith, Any, slice_get}
use Rattle.bitlayout.proofs.Common.{position, IfSome, option_and_then, cases_lt, not_from_Decides, get_or-take}
use Rattle.bitlayout.proofs.Common.{length-take-le, position-Some, slice_get-get_or, get_or_from_slice_get}
use Rattle.std.proofs.lemmas.Bool.{cases_order}
use Rattle.bitlayout.specs.declared.place.Place.{Place}
use Rattle.bitlayout.specs.declared.clash.Clash.{Clash}
use Rattle.bitlayout.specs.declared.clash.Clash.TheVariants.{Outside, TwoMultiplexors, NoMultiplexor, Overlap}
use Rattle.bitlayout.specs.Bits.{is_inside}
use Rattle.bitlayout.specs.Mux.{is_multiplexor, is_under}
use Rattle.bitlayout.specs.Clear.{IsMultiplexor}
use Rattle.bitlayout.specs.Clash.{faulty_index, HasFault, IsNamedFirst, IsFirstClash, has_multiplexor, collide}
use Rattle.bitlayout.specs.Clash.{clash_after, clash_at, first_clash_of}
use Rattle.bitlayout.proofs.Search.{found_first}
use Rattle.bitlayout.proofs.Walks.{is_inside_decides}
use Rattle.bitlayout.proofs.Faults.{Fits, chosen, clash_at_place, collide_decides, fits_from_none}
use Rattle.bitlayout.proofs.Faults.{has_multiplexor_decides, lacking_decides, second_decides}

-- which test named the fault
abbrev ByTest : Bool → Bool → Bool → ℕ → Option ℕ → Clash → Type 0
ByTest inside second lacking i partner clash =
    ((inside ≡ false) × (clash ≡ Outside i))
    ⊎ (((inside ≡ true) × (second ≡ true) × (clash ≡ TwoMultiplexors i))
    ⊎ (((inside ≡ true) × (second ≡ false) × (lacking ≡ true) × (clash ≡ NoMultiplexor i))
    ⊎ ((j : ℕ) × (inside ≡ true) × (second ≡ false) × (lacking ≡ false) × (partner ≡ Some j) × (clash ≡ Overlap j i))))

by_test : (inside second lacking : Bool) (i : ℕ) (partner : Option ℕ) (clash : Clash)
    → chosen inside second lacking i partner ≡ Some clash → ByTest inside second lacking i partner clash
by_test false second lacking i partner clash e = inl (refl, cc)
by_test true true lacking i partner clash e = inr (inl (refl, refl, cc))
by_test true false true i partner clash e = inr (inr (inl (refl, refl, refl, cc)))
by_test true false false i (Some j) clash e = inr (inr (inr (j, refl, refl, refl, refl, cc)))
by_test true false false i None clash e = cc

-- the clash that the tests find is the place's, and the first of its clashes
pub record NamesFault (places : List Place) (bytes i : ℕ) (place : Place) (clash : Clash) : Type 0 where
  pub index : faulty_index clash ≡ i
  pub there : HasFault places bytes place clash
  pub first : (other : Clash) → faulty_index other ≡ i → HasFault places bytes place other → IsNamedFirst clash other

names_outside : (places : List Place) (bytes i : ℕ) (place : Place) → is_inside place.layout bytes ≡ false
    → NamesFault places bytes i place (Outside i)
names_outside places bytes i place outside = record {
  index = refl;
  there = not_from_Decides _ (is_inside_decides place.layout bytes) outside;
  first = first;
}
  where
    first : (other : Clash) → faulty_index other ≡ i → HasFault places bytes place other
        → IsNamedFirst (Outside i) other
    first (Outside k) e fault = inr (sym e, inr (refl, omega arith))
    first (TwoMultiplexors k) e fault = inr (sym e, inl (omega arith))
    first (NoMultiplexor k) e fault = inr (sym e, inl (omega arith))
    first (Overlap j k) e fault = inr (sym e, inl (omega arith))

names_two : (places : List Place) (bytes i : ℕ) (place : Place) → is_inside place.layout bytes ≡ true
    → (is_multiplexor place.mux && has_multiplexor (take i places)) ≡ true
    → NamesFault places bytes i place (TwoMultiplexors i)
names_two places bytes i place inside second = record {
  index = refl;
  there = (second_decides (take i places) place).0 second;
  first = first;
}
  where
    first : (other : Clash) → faulty_index other ≡ i → HasFault places bytes place other
        → IsNamedFirst (TwoMultiplexors i) other
    first (Outside k) e fault = absurd (fault ((is_inside_decides place.layout bytes).0 inside))
    first (TwoMultiplexors k) e fault = inr (sym e, inr (refl, omega arith))
    first (NoMultiplexor k) e fault = inr (sym e, inl (omega arith))
    first (Overlap j k) e fault = inr (sym e, inl (omega arith))

names_none : (places : List Place) (bytes i : ℕ) (place : Place) → is_inside place.layout bytes ≡ true
    → (is_multiplexor place.mux && has_multiplexor (take i places)) ≡ false
    → (is_under place.mux && not (has_multiplexor places)) ≡ true → NamesFault places bytes i place (NoMultiplexor i)
names_none places bytes i place inside second lacking = record {
  index = refl;
  there = let (under, none) = (lacking_decides (has_multiplexor places) place).0 lacking in
      (under, λ some. none ((has_multiplexor_decides places).1 some));
  first = first;
}
  where
    first : (other : Clash) → faulty_index other ≡ i → HasFault places bytes place other
        → IsNamedFirst (NoMultiplexor i) other
    first (Outside k) e fault = absurd (fault ((is_inside_decides place.layout bytes).0 inside))
    first (TwoMultiplexors k) e fault =
        absurd (not_from_Decides _ (second_decides (take i places) place) second
        (subst (λ n. IsMultiplexor place × Any IsMultiplexor (take n places)) e fault))
    first (NoMultiplexor k) e fault = inr (sym e, inr (refl, omega arith))
    first (Overlap j k) e fault = inr (sym e, inl (omega arith))

names_overlap : (places : List Place) (bytes i : ℕ) (place : Place) → i < length places
    → is_inside place.layout bytes ≡ true → (is_multiplexor place.mux && has_multiplexor (take i places)) ≡ false
    → (is_under place.mux && not (has_multiplexor places)) ≡ false
    → (j : ℕ) → position (λ other. collide other place) (take i places) ≡ Some j
    → NamesFault places bytes i place (Overlap j i)
names_overlap places bytes i place below inside second lacking j at =
    let (within, passes, before) = position-Some (λ other. collide other place) (take i places) j place at in
    let few : length (take i places) ≡ i = length-take-le i places (omega arith) in
    let earlier : j < i = omega arith in
    let same : get_or (take i places) j place ≡ get_or places j place = get_or-take i places j place earlier in
    let meet_share = (collide_decides (get_or places j place) place).0
    (subst (λ p. collide p place ≡ true) same passes) in
    record {
      index = refl;
      there = (
        get_or places j place,
        earlier,
        slice_get-get_or places j place (omega arith),
        meet_share.0,
        meet_share.1,
      );
      first = first before few;
    }
  where
    first : ((k : ℕ) → k < j → collide (get_or (take i places) k place) place ≡ false) → length (take i places) ≡ i
        → (other : Clash) → faulty_index other ≡ i → HasFault places bytes place other
        → IsNamedFirst (Overlap j i) other
    first before few (Outside k) e fault = absurd (fault ((is_inside_decides place.layout bytes).0 inside))
    first before few (TwoMultiplexors k) e fault =
        absurd (not_from_Decides _ (second_decides (take i places) place) second
        (subst (λ n. IsMultiplexor place × Any IsMultiplexor (take n places)) e fault))
    first before few (NoMultiplexor k) e (under, none) =
        absurd (not_from_Decides _ (lacking_decides (has_multiplexor places) place) lacking
        (under, λ t. none ((has_multiplexor_decides places).0 t)))
    first before few (Overlap m k) e (other, earlier, there, meet, share) = elim (cases_lt m j) [
      | inr later ↦ inr (sym e, inr (refl, later))
      | inl sooner ↦
          let here : get_or (take i places) m place ≡ other = get_or-take i places m place (omega arith)
          ∙ get_or_from_slice_get places m other place there in
          absurd (not_from_Decides _ (collide_decides other place)
          (subst (λ p. collide p place ≡ false) here (before m sooner)) (meet, share))
    ]

pub fault_named : (places : List Place) (bytes i : ℕ) (place : Place) (clash : Clash) → i < length places
    → clash_after bytes (has_multiplexor places) (take i places) place ≡ Some clash
    → NamesFault places bytes i place clash
unfolding clash_after
fault_named places bytes i place clash below e =
    let earlier = take i places in
    let few : length earlier ≡ i = length-take-le i places (omega arith) in
    elim (by_test (is_inside place.layout bytes) (is_multiplexor place.mux && has_multiplexor earlier)
    (is_under place.mux && not (has_multiplexor places)) (length earlier)
    (position (λ other. collide other place) earlier) clash e) [
      | inl (outside, is) ↦ named (Outside i) (is ∙ ap Outside few) (names_outside places bytes i place outside)
      | inr (inl (inside, second, is)) ↦ named (TwoMultiplexors i) (is ∙ ap TwoMultiplexors few)
          (names_two places bytes i place inside second)
      | inr (inr (inl (inside, second, lacking, is))) ↦ named (NoMultiplexor i) (is ∙ ap NoMultiplexor few)
          (names_none places bytes i place inside second lacking)
      | inr (inr (inr (j, inside, second, lacking, at, is))) ↦ named (Overlap j i) (is ∙ ap (Overlap j) few)
          (names_overlap places bytes i place below inside second lacking j at)
    ]
  where
    named : (known : Clash) → clash ≡ known → NamesFault places bytes i place known
        → NamesFault places bytes i place clash
    named known is names = subst (NamesFault places bytes i place) (sym is) names

-- a place that has a fault does not fit
fault_or_fit : (places : List Place) (bytes i : ℕ) (place : Place) (clash : Clash) → faulty_index clash ≡ i
    → Fits places bytes (has_multiplexor places) i place → HasFault places bytes place clash → ⊥
fault_or_fit places bytes i place (Outside k) e fits fault = fault fits.inside
fault_or_fit places bytes i place (TwoMultiplexors k) e fits fault =
    fits.alone (subst (λ n. IsMultiplexor place × Any IsMultiplexor (take n places)) e fault)
fault_or_fit places bytes i place (NoMultiplexor k) e fits (under, none) =
    fits.multiplexor (under, λ t. none ((has_multiplexor_decides places).0 t))
fault_or_fit places bytes i place (Overlap j k) e fits (other, earlier, there, meet, share) =
    fits.apart j other (omega arith) there (meet, share)

some_is_none : {clash : Clash} → ◌≡◌ {A = Option Clash} (Some clash) None → ⊥
some_is_none e = cc

same_place : {p q : Place} → ◌≡◌ {A = Option Place} (Some p) (Some q) → p ≡ q
same_place e = cc

named_first : (places : List Place) (bytes : ℕ) (clash : Clash) → (o : Option Place) (i : ℕ) → slice_get places i ≡ o
    → clash_at bytes (has_multiplexor places) places i ≡ Some clash → i < length places
    → ((k : ℕ) → k < i → clash_at bytes (has_multiplexor places) places k ≡ None) → IsFirstClash places bytes clash
named_first places bytes clash None i at here below before =
    absurd (some_is_none (sym here ∙ ap (option_and_then (clash_after bytes (has_multiplexor places) (take i places)))
    at))
named_first places bytes clash (Some place) i at here below before =
    let names = fault_named places bytes i place clash below
    (sym (clash_at_place bytes (has_multiplexor places) places i place at) ∙ here) in
    let index : faulty_index clash ≡ i = names.index in
    record {
      there = (place, ap (slice_get places) index ∙ at, names.there);
      first = λ other (q, at_q, fault). elim (cases_order (faulty_index other) i) [
        | inl same ↦
            let one : q ≡ place = same_place (sym at_q ∙ ap (slice_get places) same ∙ at) in
            names.first other same (subst (λ p. HasFault places bytes p other) one fault)
        | inr (inl sooner) ↦
            let none = before (faulty_index other) sooner in
            let few : faulty_index other ≤ length places = omega arith in
            let fits = fits_from_none places bytes (has_multiplexor places) (faulty_index other) q few
            (sym (clash_at_place bytes (has_multiplexor places) places (faulty_index other) q at_q) ∙ none) in
            absurd (fault_or_fit places bytes (faulty_index other) q other refl fits fault)
        | inr (inr later) ↦ inl (omega arith)
      ];
    }

-- the clash that is found is named first
pub first_law : (places : List Place) (bytes : ℕ) (clash : Clash) → first_clash_of places bytes ≡ Some clash
    → IsFirstClash places bytes clash
first_law places bytes clash e =
    let found = found_first (clash_at bytes (has_multiplexor places) places) (length places) clash e in
    named_first places bytes clash (slice_get places found.index) found.index refl found.at found.below found.none

pub first_if_some : (places : List Place) (bytes : ℕ) (o : Option Clash) → first_clash_of places bytes ≡ o
    → IfSome o (IsFirstClash places bytes)
first_if_some places bytes None e = tt
first_if_some places bytes (Some clash) e = first_law places bytes clash e
