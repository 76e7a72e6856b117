-- The elements of one number among those that are in order of their numbers.
use Rattle.std.proofs.Common.{◌≡◌, ℕ, zero, suc, ◌+◌, ◌-◌, ◌<◌, ◌≤◌, ◌==◌, ◌&&◌, not, Bool, true, false, List, [], ◌∷◌}
use Rattle.std.proofs.Common.{length, take, drop, cond, get_or, refl, sym, ap, ◌∙◌, arith, ltb}
use Rattle.std.specs.Prelude.{filter}
use Rattle.std.specs.List.Sorted.{IsPartitionPoint, IsStableByKey}
use Rattle.std.specs.Ordering.{is_lt, nat_cmp}
use Rattle.std.proofs.lemmas.Bool.Decides.{nat_tests}
use Rattle.std.proofs.lemmas.List.{get_or-drop, length-drop}
use Rattle.std.proofs.lemmas.List.Elements.{filter_agree}

tied : (a b : ℕ) → (not (is_lt (nat_cmp a b)) && not (is_lt (nat_cmp b a))) ≡ (b == a)
tied a b = grind (arith, nat_tests)

below_apart : (a n : ℕ) → ltb a n ≡ true → (a == n) ≡ false
below_apart a n h = grind (arith, nat_tests)

same_at : (a n : ℕ) → ltb a n ≡ false → ltb a (n + 1) ≡ true → (a == n) ≡ true
same_at a n h g = grind (arith, nat_tests)

above_apart : (a n : ℕ) → ltb a (n + 1) ≡ false → (a == n) ≡ false
above_apart a n h = grind (arith, nat_tests)

-- ---- tests that the first elements of a list pass, or fail

module _ {X : Type 0} (p : X → Bool) where
  skipped : (i : ℕ) (ys : List X) → ((k : ℕ) (d : X) → k < i → p (get_or ys k d) ≡ false)
      → i ≤ length ys → filter p ys ≡ filter p (drop i ys)
  skipped zero ys fails h = refl
  skipped (suc i) [] fails h = refl
  skipped (suc i) (y ∷ ys) fails h =
      ap (λ b. cond b (y ∷ filter p ys) (filter p ys)) (fails 0 y (omega arith))
      ∙ skipped i ys (λ k d below. fails (suc k) d (omega arith)) (omega arith)

  in_front : (j : ℕ) (ys : List X) → ((k : ℕ) (d : X) → k < j → p (get_or ys k d) ≡ true)
      → ((k : ℕ) (d : X) → j ≤ k → k < length ys → p (get_or ys k d) ≡ false) → filter p ys ≡ take j ys
  in_front zero [] passes fails = refl
  in_front zero (y ∷ ys) passes fails =
      ap (λ b. cond b (y ∷ filter p ys) (filter p ys)) (fails 0 y (omega arith) (omega arith))
      ∙ in_front zero ys (λ k d below. absurd (omega arith))
      (λ k d above below. fails (suc k) d (omega arith) (omega arith))
  in_front (suc j) [] passes fails = refl
  in_front (suc j) (y ∷ ys) passes fails =
      ap (λ b. cond b (y ∷ filter p ys) (filter p ys)) (passes 0 y (omega arith))
      ∙ ap (λ v. y ∷ v)
      (in_front j ys (λ k d below. passes (suc k) d (omega arith))
      (λ k d above below. fails (suc k) d (omega arith) (omega arith)))

-- ---- elements by their numbers

module _ {X : Type 0} (number : X → ℕ) where
  abbrev pub has : ℕ → X → Bool
  has n x = number x == n

  abbrev IsBelow : ℕ → List X → ℕ → Type 0
  IsBelow n xs count = IsPartitionPoint (λ x. ltb (number x) n ≡ true) (λ x. ltb (number x) n ≡ false) xs count

  -- a stable sort by the numbers leaves those of one number, in their order
  pub kept : (with : ℕ → X → X) → ((n : ℕ) (x : X) → number (with n x) ≡ n) → (n : ℕ) (found sorted : List X)
      → IsStableByKey number nat_cmp found sorted → length sorted ≡ length found
      → filter (has n) sorted ≡ filter (has n) found
  kept with is n [] [] stable same = refl
  kept with is n [] (y ∷ ys) stable same = absurd (omega arith)
  kept with is n (x ∷ xs) sorted stable same =
      let tests = λ (y : X). tied (number (with n x)) (number y) ∙ ap (λ m. number y == m) (is n x) in
      sym (filter_agree _ (has n) tests sorted) ∙ stable (with n x) ∙ filter_agree _ (has n) tests (x ∷ xs)

  -- from the first one that isn't below the number, up to the last one that isn't above it
  pub between : (n : ℕ) (ys rest : List X) (i j : ℕ) → i ≤ length ys → rest ≡ drop i ys → IsBelow n ys i
      → IsBelow (n + 1) rest j → j ≤ length rest → take j rest ≡ filter (has n) ys
  between n ys rest i j h is first last g =
      let long : length rest ≡ length ys - i = ap length is ∙ length-drop i ys in
      let at : (k : ℕ) (d : X) → get_or rest k d ≡ get_or ys (i + k) d =
      λ k d. ap (λ v. get_or v k d) is ∙ get_or-drop i ys k d in
      let above : (k : ℕ) (d : X) → k < length rest → ltb (number (get_or rest k d)) n ≡ false =
      λ k d below. ap (λ x. ltb (number x) n) (at k d) ∙ first.1 (i + k) d (omega arith) (omega arith) in
      sym (skipped (has n) i ys (λ k d below. below_apart _ n (first.0 k d (omega arith) below)) h
      ∙ ap (filter (has n)) (sym is)
      ∙ in_front (has n) j rest
      (λ k d below. same_at _ n (above k d (omega arith)) (last.0 k d (omega arith) below))
      (λ k d from below. above_apart _ n (last.1 k d from below)))
