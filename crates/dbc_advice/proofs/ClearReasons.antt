-- A clear message has no reason why it isn't clear.
use Rattle.dbc_advice.proofs.Common.{◌≡◌, ◌+◌, ◌<◌, ◌&&◌, ℕ, Bool, true, false, not, List, [], ◌∷◌, ◌++◌, Option, Some}
use Rattle.dbc_advice.proofs.Common.{None, inl, length, take, get_or, refl, sym, ap, subst, ◌∙◌, arith, if◌then◌else◌}
use Rattle.dbc_advice.proofs.Common.{enumerate_from, flat_map, at_drop_all, first_clash_of, Place}
use Rattle.std.proofs.Common.{suc}
use Rattle.std.specs.Prelude.{position}
use Rattle.std.proofs.lemmas.Option.{slice_get-get_or}
use Rattle.bitlayout.proofs.Faults.{at_position, chosen, clash_at_place}
use Rattle.bitlayout.proofs.Search.{none_before}
use Rattle.bitlayout.specs.Bits.{is_inside}
use Rattle.bitlayout.specs.Clash.{clash_after, clash_at, collide, has_multiplexor}
use Rattle.bitlayout.specs.Mux.{is_multiplexor, is_under}
use Rattle.bitlayout.specs.declared.clash.Clash.TheVariants.{NoMultiplexor, Outside, Overlap}
use Rattle.dbc_advice.specs.Reasons.{AreReasons, first_outside, first_shared, outside_reason, overlap_reason}
use Rattle.dbc_advice.specs.Reasons.{overlap_reasons, reasons_at, reasons_from, unmultiplexed_reason}

-- a list that is made of what a function gives of each, where it gives nothing
flat_none : {A B : Type 0} (f : ℕ × A → List B) (n : ℕ) (xs : List A)
    → ((k j : ℕ) (d : A) → j ≡ n + k → k < length xs → f (j, get_or xs k d) ≡ [])
    → flat_map f (enumerate_from n xs) ≡ []
flat_none f n [] none = refl
flat_none f n (x ∷ xs) none =
    ap (λ ys. ys ++ flat_map f (enumerate_from (n + 1) xs)) (none 0 n x (omega arith) (omega arith))
    ∙ flat_none f (n + 1) xs (λ k j d is lt. none (suc k) j d (omega arith) (omega arith))

-- what the four tests of a place without a clash gave
no_test : (inside second lacking : Bool) (i : ℕ) (partner : Option ℕ) → chosen inside second lacking i partner ≡ None
    → (inside ≡ true) × (lacking ≡ false) × (partner ≡ None)
no_test true false false i None e = (refl, refl, refl)
no_test true false false i (Some j) e = cc
no_test true false true i partner e = cc
no_test true true lacking i partner e = cc
no_test false second lacking i partner e = cc

module _ (bytes : ℕ) (places : List Place) (clear : first_clash_of places bytes ≡ None) where
  tests_of : (i : ℕ) (place : Place) → i < length places
      → (is_inside (get_or places i place).layout bytes ≡ true)
      × ((is_under (get_or places i place).mux && not (has_multiplexor places)) ≡ false)
      × (position (λ other. collide other (get_or places i place)) (take i places) ≡ None)
  unfolding clash_after
  tests_of i place lt =
      let p = get_or places i place in
      let earlier = take i places in
      let none : clash_after bytes (has_multiplexor places) earlier p ≡ None =
      sym (clash_at_place bytes (has_multiplexor places) places i p (slice_get-get_or places i place lt))
      ∙ none_before (clash_at bytes (has_multiplexor places) places) (length places) clear i lt in
      no_test (is_inside p.layout bytes) (is_multiplexor p.mux && has_multiplexor earlier)
      (is_under p.mux && not (has_multiplexor places)) (length earlier)
      (position (λ other. collide other p) earlier) none

  no_reason : (i : ℕ) (place : Place) → i < length places → reasons_at bytes places (i, get_or places i place) ≡ []
  no_reason i place lt =
      let p = get_or places i place in
      let tests = tests_of i place lt in
      let outside : outside_reason bytes i p ≡ [] =
      ap (λ (b : Bool). if b then [] else record { clash = Outside i; bit = first_outside bytes p.layout } ∷ [])
      tests.0 in
      let lacking : unmultiplexed_reason (has_multiplexor places) i p ≡ [] =
      ap (λ (b : Bool). if b then record { clash = NoMultiplexor i; bit = None } ∷ [] else []) tests.1 in
      let alone : overlap_reasons bytes (take i places) i p ≡ [] =
      flat_none (overlap_reason bytes i p) 0 (take i places) (λ k j d is below.
      ap (λ (b : Bool). if b then record {
        clash = Overlap j i;
        bit =
            first_shared bytes (get_or (take i places) k d).layout p.layout;
      } ∷ [] else [])
      (at_position (λ other. collide other p) (take i places) tests.2 k d below)) in
      ap (λ rs. rs ++ (unmultiplexed_reason (has_multiplexor places) i p ++ overlap_reasons bytes (take i places) i p))
      outside
      ∙ ap (λ rs. rs ++ overlap_reasons bytes (take i places) i p) lacking ∙ alone

  pub no_reasons : AreReasons bytes places []
  no_reasons =
      let all : reasons_from bytes places 0 ≡ [] =
      flat_none (reasons_at bytes places) 0 places (λ k j d is lt. let same : k ≡ j = omega arith in
      subst (λ n. reasons_at bytes places (n, get_or places k d) ≡ []) same (no_reason k d lt)) in
      let left : reasons_from bytes places (length places) ≡ [] =
      at_drop_all (λ ps. flat_map (reasons_at bytes places) (enumerate_from (length places) ps)) places (length places)
      (omega arith) in
      record { looked_at = length places; are = left ∙ sym all; enough = inl (omega arith) }
