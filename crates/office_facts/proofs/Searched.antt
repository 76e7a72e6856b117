-- Things of one number, in a list in ascending order of numbers.
use Rattle.std.proofs.Common.{◌≡◌, ◌≢◌, ◌<◌, ◌≤◌, ◌+◌, ◌-◌, ◌||◌, Bool, true, false, ℕ, zero, suc, List, [], ◌∷◌}
use Rattle.std.proofs.Common.{length, get_or, take, drop, inl, inr, refl, sym, ap, subst, ◌∙◌, arith}
use Rattle.std.specs.Cmp.{nat_cmp_is}
use Rattle.std.specs.List.{AllAdjacentBelow, list_any}
use Rattle.std.specs.List.Sorted.{IsStrictlySortedBy}
use Rattle.std.specs.Ordering.{on, nat_cmp}
use Rattle.std.specs.declared.cmp.Ordering.TheVariants.{Less}
use Rattle.std.proofs.lemmas.Bool.{cases_lt, false_from_ne_true}
use Rattle.std.proofs.lemmas.Cmp.{on_total, nat_cmp_total}
use Rattle.std.proofs.lemmas.List.{get_or_default}
use Rattle.std.proofs.lemmas.List.Sorted.{all_adjacent_more}
use Rattle.std.proofs.lemmas.Map.Keys.{sorted_from_all_adjacent}
use Rattle.base.specs.Ascending.{IsAt, IsGap}

module _ {A : Type 0} (key : A → ℕ) where
  -- each number is below the next one, up to an index
  abbrev pub Climbs : List A → ℕ → Type 0
  Climbs xs i = AllAdjacentBelow (λ x y. key x < key y) xs i

  -- and at the index too
  pub climbs_more : (xs : List A) (i : ℕ) (x y : A) → 1 ≤ i → i < length xs → Climbs xs i → x ≡ get_or xs (i - 1) x
      → y ≡ get_or xs i y → key x < key y → Climbs xs (i + 1)
  climbs_more xs i x y positive lt before at_x at_y above =
      all_adjacent_more xs (λ a b. key a < key b) i (omega arith) before (λ d.
      subst (λ a. key a < key (get_or xs i d)) (at_x ∙ get_or_default xs (i - 1) x d (omega arith))
      (subst (λ b. key x < key b) (at_y ∙ get_or_default xs i y d lt) above))

  pub ascends : (xs : List A) (i : ℕ) → length xs ≤ i → Climbs xs i → IsStrictlySortedBy (on key nat_cmp) xs
  unfolding IsStrictlySortedBy
  ascends [] i le climbs = tt
  ascends (x ∷ xs) i le climbs =
      sorted_from_all_adjacent (on_total key nat_cmp_total) (x ∷ xs) x
      (λ k lt. sym (nat_cmp_is _ _ Less (climbs k x (omega (arith, le, lt)))))

  module _ (test : A → Bool) (n : ℕ) (of_number : (x : A) → test x ≡ true → key x ≡ n) where
    -- a thing of another number doesn't pass
    other : (x : A) → key x ≢ n → test x ≡ false
    other x differs = false_from_ne_true (test x) (λ t. differs (of_number x t))

    none_passes : (xs : List A) → ((j : ℕ) (d : A) → j < length xs → key (get_or xs j d) ≢ n) → list_any test xs ≡ false
    none_passes [] differ = refl
    none_passes (x ∷ xs) differ =
        ap (λ b. b || list_any test xs) (other x (differ 0 x (omega arith)))
        ∙ none_passes xs (λ j d lt. differ (suc j) d (omega (arith, lt)))

    -- what passes is at the index of the number
    pub passes_at : (xs : List A) (i : ℕ) → IsAt key xs n i → list_any test (take 1 (drop i xs)) ≡ list_any test xs
    passes_at [] i at = absurd (let w : i < 0 = at.within in omega (arith, w))
    passes_at (x ∷ xs) zero at =
        ap (λ b. test x || b) (sym (none_passes xs (λ j d lt. at.others (suc j) d (omega (arith, lt)) (omega arith))))
    passes_at (x ∷ xs) (suc i) at =
        passes_at xs i (record {
          within = omega (arith, at.within);
          here = at.here;
          others =
              λ j d lt differs. at.others (suc j) d (omega (arith, lt)) (omega (arith, differs));
        })
        ∙ sym (ap (λ b. b || list_any test xs) (other x (at.others 0 x (omega arith) (omega arith))))

    -- nothing passes where there is a gap
    pub gap_passes : (xs : List A) (i : ℕ) → IsGap key xs n i → list_any test xs ≡ false
    gap_passes xs i gap = none_passes xs (λ j d lt same. elim (cases_lt j i) [
      | inl below ↦ omega (arith, gap.below j d below, same)
      | inr above ↦ omega (arith, gap.above j d above lt, same)
    ])
