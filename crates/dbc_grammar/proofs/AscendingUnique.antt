-- Lists in ascending order of a number: given members have one such list at most, and their numbers are distinct.
use Rattle.dbc_grammar.proofs.Common.{◌≡◌, ◌==◌, ◌<◌, ◌⊎◌, ℕ, zero, suc, false, List, [], ◌∷◌, length, inl, inr, refl}
use Rattle.dbc_grammar.proofs.Common.{sym, ap, subst, arith, AllByRecursion, nat_tests, IsPermutation-sym}
use Rattle.std.proofs.Common.{get_or, Contains, IsPermutation}
use Rattle.std.specs.List.{IsDistinct}
use Rattle.std.specs.List.Sorted.{IsStrictlySortedBy}
use Rattle.std.specs.Ordering.{nat_cmp, on}
use Rattle.std.specs.declared.cmp.Ordering.TheVariants.{Less}
use Rattle.std.proofs.lemmas.Cmp.{ranked}
use Rattle.std.proofs.lemmas.List.Sorted.{Contains-permutation}

module _ {A : Type 0} where
  In : A → List A → Type 0
  In x [] = ⊥
  In x (y ∷ ys) = (x ≡ y) ⊎ In x ys

  in_from : (xs : List A) (x : A) (k : ℕ) → k < length xs → get_or xs k x ≡ x → In x xs
  unfolding In
  in_from [] x k within e = absurd (omega arith)
  in_from (y ∷ ys) x zero within e = inl (sym e)
  in_from (y ∷ ys) x (suc k) within e = inr (in_from ys x k (omega arith) e)

  in_to : (xs : List A) (x : A) → In x xs → Contains xs x
  unfolding In
  in_to [] x h = absurd h
  in_to (y ∷ ys) x h = elim h [
    | inl e ↦ (0, omega arith, sym e)
    | inr t ↦ let c = in_to ys x t in
        (suc c.0, omega (arith, c.1), c.2)
  ]

  in_permutation : (xs ys : List A) (x : A) → IsPermutation xs ys → In x xs → In x ys
  in_permutation xs ys x p h = let c = Contains-permutation xs ys x p (in_to xs x h) in in_from ys x c.0 c.1 c.2

  all_in : (P : A → Type 0) (xs : List A) (x : A) → AllByRecursion P xs → In x xs → P x
  unfolding In
  all_in P [] x all h = absurd h
  all_in P (y ∷ ys) x all h = elim h [ inl e ↦ subst P (sym e) all.0 | inr t ↦ all_in P ys x all.1 t ]

  in_all : (P : A → Type 0) (xs : List A) → ((x : A) → In x xs → P x) → AllByRecursion P xs
  unfolding In
  in_all P [] h = tt
  in_all P (y ∷ ys) h = (h y (inl refl), in_all P ys (λ x t. h x (inr t)))

  -- what holds of each element holds of each in any order
  pub all_permutation : (P : A → Type 0) (xs ys : List A) → IsPermutation xs ys → AllByRecursion P xs
      → AllByRecursion P ys
  all_permutation P xs ys p all =
      in_all P ys (λ x h. all_in P xs x all (in_permutation ys xs x (IsPermutation-sym xs ys p) h))

module _ {A : Type 0} (key : A → ℕ) where
  below : (x y : A) → on key nat_cmp x y ≡ Less → key x < key y
  below x y e = ranked (key x) (key y) Less (sym e)

  above : (x : A) (ys : List A) (z : A) → AllByRecursion (λ y. on key nat_cmp x y ≡ Less) ys → In z ys → key x < key z
  above x ys z all h = below x z (all_in (λ y. on key nat_cmp x y ≡ Less) ys z all h)

  same_if_ascending : (xs ys : List A) → IsStrictlySortedBy (on key nat_cmp) xs → IsStrictlySortedBy (on key nat_cmp) ys
      → ((x : A) → In x xs → In x ys) → ((x : A) → In x ys → In x xs) → xs ≡ ys
  unfolding In IsStrictlySortedBy
  same_if_ascending [] [] rx ry forth back = refl
  same_if_ascending [] (y ∷ ys) rx ry forth back = absurd (back y (inl refl))
  same_if_ascending (x ∷ xs) [] rx ry forth back = absurd (forth x (inl refl))
  same_if_ascending (x ∷ xs) (y ∷ ys) rx ry forth back =
      let heads : x ≡ y =
      elim (forth x (inl refl)) [
        | inl e ↦ e
        | inr h ↦ elim (back y (inl refl)) [
          | inl e ↦ sym e
          | inr k ↦ absurd (omega (arith, above y ys x ry.0 h, above x xs y rx.0 k))
        ]
      ] in
      let keys : key x ≡ key y = ap key heads in
      let tails : xs ≡ ys = same_if_ascending xs ys rx.1 ry.1
      (λ z h. elim (forth z (inr h))
      [ inl e ↦ absurd (omega (arith, above x xs z rx.0 h, ap key e, keys)) | inr k ↦ k ])
      (λ z h. elim (back z (inr h))
      [ inl e ↦ absurd (omega (arith, above y ys z ry.0 h, ap key e, keys)) | inr k ↦ k ]) in
      λ i. heads i ∷ tails i

  -- two ascending lists of the same elements are one
  pub one_ascending : (xs ys : List A) → IsStrictlySortedBy (on key nat_cmp) xs → IsStrictlySortedBy (on key nat_cmp) ys
      → IsPermutation xs ys → xs ≡ ys
  one_ascending xs ys rx ry p =
      same_if_ascending xs ys rx ry (λ x. in_permutation xs ys x p)
      (λ x. in_permutation ys xs x (IsPermutation-sym xs ys p))

  differ : (x : A) (ys : List A) → AllByRecursion (λ y. on key nat_cmp x y ≡ Less) ys
      → AllByRecursion (λ y. key x == key y ≡ false) ys
  differ x [] all = tt
  differ x (y ∷ ys) all = let lt : key x < key y = below x y all.0 in (grind (arith, nat_tests), differ x ys all.1)

  -- ascending numbers are distinct
  pub distinct_if_ascending : (xs : List A) → IsStrictlySortedBy (on key nat_cmp) xs
      → IsDistinct (λ x y. key x == key y) xs
  unfolding IsDistinct IsStrictlySortedBy
  distinct_if_ascending [] ascending = tt
  distinct_if_ascending (x ∷ xs) ascending = (differ x xs ascending.0, distinct_if_ascending xs ascending.1)
