-- A list has no first clash exactly when it is clear.
use Rattle.bitlayout.proofs.Common.{◌≡◌, ℕ, ◌<◌, ◌↔◌, List, length, take, get_or, Option, Some, None, refl, sym, ap}
use Rattle.bitlayout.proofs.Common.{subst, ◌∙◌, arith, slice_get, is_some, option_and_then, both_ways, get_or-take}
use Rattle.bitlayout.proofs.Common.{length-take-le, slice_get-get_or, get_or_from_slice_get}
use Rattle.std.specs.Prelude.{IsNone}
use Rattle.std.proofs.lemmas.Bool.{true_from_ne_false}
use Rattle.std.proofs.lemmas.Option.{slice_get_within}
use Rattle.bitlayout.specs.declared.place.Place.{Place}
use Rattle.bitlayout.specs.Bits.{IsInside, SharesBit}
use Rattle.bitlayout.specs.Mux.{IsPresent, IsUnder}
use Rattle.bitlayout.specs.Clear.{IsMultiplexor, IsClear}
use Rattle.bitlayout.specs.Clash.{has_multiplexor, clash_after, clash_at, first_clash_of}
use Rattle.bitlayout.proofs.Search.{none_before, none_if_none, none_at}
use Rattle.bitlayout.proofs.Faults.{Fits, clash_at_place, fits_from_none, has_multiplexor_decides, none_from_fits}

-- every place fits at its index
pub AllFit : List Place → ℕ → Type 0
AllFit places bytes = (i : ℕ) (place : Place) → slice_get places i ≡ Some place
    → Fits places bytes (has_multiplexor places) i place

clear_from_fits : (places : List Place) (bytes : ℕ) → AllFit places bytes → IsClear places bytes
unfolding AllFit
clear_from_fits places bytes all = record {
  inside = λ k d below. (all k _ (slice_get-get_or places k d below)).inside;
  one_multiplexor = λ i j d before below (first, second).
      let within : i < length places = omega arith in
      let few : length (take j places) ≡ j = length-take-le j places (omega arith) in
      (all j _ (slice_get-get_or places j d below)).alone (
        second,
        (
          i,
          get_or places i d,
          omega arith,
          get_or-take j places i _ before
              ∙ get_or_from_slice_get places i _ _ (slice_get-get_or places i d within),
          first,
        ),
      );
  multiplexor = λ (k, place, below, at, under).
      (has_multiplexor_decides places).0
      (true_from_ne_false _ (λ none. (all k _ (slice_get-get_or places k place below)).multiplexor
      (subst (λ p. IsUnder p.mux) (sym at) under, λ t. both_ways _ none t)));
  apart = λ value i j d before below (at_i, at_j, shared).
      let within : i < length places = omega arith in
      (all j _ (slice_get-get_or places j d below)).apart i _ before (slice_get-get_or places i d within)
      ((value, at_i, at_j), shared);
}

fits_from_clear : (places : List Place) (bytes : ℕ) → IsClear places bytes → AllFit places bytes
unfolding AllFit
fits_from_clear places bytes clear i place at =
    let below : i < length places = slice_get_within places i place at in
    let here : get_or places i place ≡ place = get_or_from_slice_get places i place place at in
    let few : length (take i places) ≡ i = length-take-le i places (omega arith) in
    record {
      inside = subst (λ p. IsInside p.layout bytes) here (clear.inside i place below);
      alone = λ (is, (j, other, before, there, first)).
          let earlier : j < i = omega arith in
          let at_j : get_or places j other ≡ other = sym (get_or-take i places j other earlier) ∙ there in
          let at_i : get_or places i other ≡ place = get_or_from_slice_get places i place other at in
          clear.one_multiplexor j i other earlier below
          (subst IsMultiplexor (sym at_j) first, subst IsMultiplexor (sym at_i) is);
      multiplexor = λ (under, none). none
          ((has_multiplexor_decides places).1 (clear.multiplexor (i, place, below, here, under)));
      apart = λ j other earlier at_j ((value, there, now), shared).
          let of_j : get_or places j place ≡ other = get_or_from_slice_get places j other place at_j in
          clear.apart value j i place earlier below (
            subst (λ p. IsPresent p.mux value) (sym of_j) there,
            subst (λ p. IsPresent p.mux value) (sym here) now,
            subst (λ p. SharesBit p.layout (get_or places i place).layout) (sym of_j)
                (subst (λ p. SharesBit other.layout p.layout) (sym here) shared),
          );
    }

-- no clash at any index where every place fits
fits_from_no_clash : (places : List Place) (bytes : ℕ) → first_clash_of places bytes ≡ None → AllFit places bytes
unfolding AllFit
fits_from_no_clash places bytes none i place at =
    let below : i < length places = slice_get_within places i place at in
    let here = none_before (clash_at bytes (has_multiplexor places) places) (length places) none i below in
    fits_from_none places bytes (has_multiplexor places) i place (omega arith)
    (sym (clash_at_place bytes (has_multiplexor places) places i place at) ∙ here)

no_clash_from_fits : (places : List Place) (bytes : ℕ) → AllFit places bytes → first_clash_of places bytes ≡ None
unfolding AllFit
no_clash_from_fits places bytes all =
    none_if_none (clash_at bytes (has_multiplexor places) places) (length places)
    (λ k below. fit_at k below (slice_get places k) refl)
  where
    fit_at : (k : ℕ) → k < length places → (o : Option Place) → slice_get places k ≡ o
        → clash_at bytes (has_multiplexor places) places k ≡ None
    fit_at k below None at = ap (option_and_then (clash_after bytes (has_multiplexor places) (take k places))) at
    fit_at k below (Some place) at = clash_at_place bytes (has_multiplexor places) places k place at
        ∙ none_from_fits places bytes (has_multiplexor places) k place (omega arith) (all k place at)

pub clear_from_none : (places : List Place) (bytes : ℕ) → first_clash_of places bytes ≡ None → IsClear places bytes
clear_from_none places bytes none = clear_from_fits places bytes (fits_from_no_clash places bytes none)

pub none_from_clear : (places : List Place) (bytes : ℕ) → IsClear places bytes → first_clash_of places bytes ≡ None
none_from_clear places bytes clear = no_clash_from_fits places bytes (fits_from_clear places bytes clear)

-- the law of clear lists
pub clear_law : (places : List Place) (bytes : ℕ) → IsNone (first_clash_of places bytes) ↔ IsClear places bytes
clear_law places bytes =
    (λ none. clear_from_none places bytes (none_at _ none), λ clear. ap is_some (none_from_clear places bytes clear))
