-- What a binary search finds in a look-up.
use Rattle.dbc_read.proofs.Common.{◌≡◌, ◌<◌, ◌∙◌, ◌||◌, ◌++◌, ℕ, zero, suc, Bool, true, false, List, [], ◌∷◌, length}
use Rattle.dbc_read.proofs.Common.{get_or, map, Option, Some, None, refl, sym, ap, subst, inl, inr, append_assoc, arith}
use Rattle.dbc_read.proofs.Common.{slice_get, All, AllByRecursion, HoldsAt, list_any, IsNonDecreasingBy}
use Rattle.dbc_read.proofs.Common.{IsPartitionPoint, is_eq, ordering_index, Ordering, Less, Equal, Greater, cases_lt}
use Rattle.dbc_read.proofs.Common.{All-permutation, IsPermutation-sym, searchable_from_sorted}
use Rattle.std.specs.Cmp.{IsTotalOrder}
use Rattle.std.specs.Ordering.{eq_by_cmp}
use Rattle.std.proofs.lemmas.List.Elements.{All-from_recursion, recursion_from_All}
use Rattle.dbc_read.specs.Lookup.{IsLookupOf, IsIndexIn, with_indices}
use Rattle.dbc_read.specs.declared.lookup.Lookup.{Lookup}

module _ {K : Type 0} where
  last_of : (front : List K) (k : K) (rest : List K) → slice_get (front ++ k ∷ rest) (length front) ≡ Some k
  last_of [] k rest = refl
  last_of (f ∷ front) k rest = last_of front k rest

  one_longer : (front : List K) (k : K) → length (front ++ k ∷ []) ≡ suc (length front)
  one_longer [] k = refl
  one_longer (f ∷ front) k = ap suc (one_longer front k)

  abbrev IsAt : List K → K × ℕ → Type 0
  IsAt keys e = slice_get keys e.1 ≡ Some e.0

  -- each numbered key is at its number
  are_at : (front ks : List K) → AllByRecursion (IsAt (front ++ ks)) (with_indices (length front) ks)
  are_at front [] = tt
  are_at front (k ∷ ks) = (
    last_of front k ks,
    subst (λ (all : List K). AllByRecursion (IsAt all) (with_indices (suc (length front)) ks))
        (append_assoc front (k ∷ []) ks)
        (subst (λ n. AllByRecursion (IsAt ((front ++ k ∷ []) ++ ks)) (with_indices n ks)) (one_longer front k)
        (are_at (front ++ k ∷ []) ks)),
  )

  module _ (test : K → Bool) where
    seen_at : (keys : List K) (i : ℕ) (k : K) → slice_get keys i ≡ Some k → test k ≡ true
        → slice_get (map test keys) i ≡ Some true
    seen_at keys i k is_entry passes = mapped keys i ∙ ap (option_map_test) is_entry ∙ ap (λ b. Some b) passes
      where
        option_map_test : Option K → Option Bool
        option_map_test None = None
        option_map_test (Some x) = Some (test x)

        mapped : (xs : List K) (j : ℕ) → slice_get (map test xs) j ≡ option_map_test (slice_get xs j)
        mapped [] j = refl
        mapped (x ∷ xs) zero = refl
        mapped (x ∷ xs) (suc j) = mapped xs j

    none_seen : (n : ℕ) (keys : List K) → AllByRecursion (λ (e : K × ℕ). test e.0 ≡ false) (with_indices n keys)
        → list_any test keys ≡ false
    none_seen n [] h = refl
    none_seen n (k ∷ keys) h = ap (λ b. b || list_any test keys) h.0 ∙ none_seen (suc n) keys h.1

  module _ (cmp : K → K → Ordering) (order : IsTotalOrder cmp) (eq : K → K → Bool)
      (tied : (x y : K) → eq x y ≡ eq_by_cmp cmp x y) (lookup : Lookup K) (keys : List K)
      (is : IsLookupOf cmp lookup keys) where
    -- where an entry was found
    pub found : (key : K) (at : ℕ) (e : K × ℕ) → at < length lookup.sorted.items → e ≡ get_or lookup.sorted.items at e
        → HoldsAt (λ (y : K × ℕ). cmp y.0 key ≡ Equal) lookup.sorted.items at
        → slice_get (map (λ k. eq k key) keys) e.1 ≡ Some true
    found key at e within here equal =
        let is_entry = All-permutation (IsAt keys) _ _ is.entries (All-from_recursion (IsAt keys) _ (are_at [] keys)) at
        e within in
        let same : cmp e.0 key ≡ Equal = subst (λ (y : K × ℕ). cmp y.0 key ≡ Equal) (sym here) (equal e) in
        seen_at (λ k. eq k key) keys e.1 e.0 (subst (λ (y : K × ℕ). IsAt keys y) (sym here) is_entry)
        (tied e.0 key ∙ ap is_eq same)

    -- where a gap was found
    pub absent : (key : K) (at : ℕ)
        → (IsNonDecreasingBy (λ (y : K × ℕ). ordering_index (cmp y.0 key)) lookup.sorted.items
        → IsPartitionPoint (λ (y : K × ℕ). cmp y.0 key ≡ Less) (λ (y : K × ℕ). cmp y.0 key ≡ Greater)
        lookup.sorted.items at)
        → list_any (λ k. eq k key) keys ≡ false
    absent key at splits =
        let parts = splits (searchable_from_sorted order (λ (e : K × ℕ). e.0) lookup.sorted.items key is.sorted) in
        let apart : All (λ (e : K × ℕ). eq e.0 key ≡ false) lookup.sorted.items = λ j d lt.
        let e = get_or lookup.sorted.items j d in
        elim (cases_lt j at) [
          | inl below ↦ tied e.0 key ∙ ap is_eq (parts.0 j d (omega arith) below)
          | inr above ↦ tied e.0 key ∙ ap is_eq (parts.1 j d above lt)
        ] in
        none_seen (λ k. eq k key) 0 keys (recursion_from_All (λ (e : K × ℕ). eq e.0 key ≡ false) _
        (All-permutation (λ (e : K × ℕ). eq e.0 key ≡ false) _ _ (IsPermutation-sym _ _ is.entries) apart))

module _ {K J : Type 0} (see : K → J) (p : K → Bool) (q : J → Bool) (same : (x : K) → p x ≡ q (see x)) where
  any_seen : (keys : List K) → list_any q (map see keys) ≡ list_any p keys
  any_seen [] = refl
  any_seen (k ∷ keys) = λ i. sym (same k) i || any_seen keys i

  each_seen : (keys : List K) → map p keys ≡ map q (map see keys)
  each_seen [] = refl
  each_seen (k ∷ keys) = λ i. same k i ∷ each_seen keys i

  -- a key and the key that it means have the same index
  pub index_seen : (keys : List K) (index : Option ℕ) → IsIndexIn p keys index → IsIndexIn q (map see keys) index
  index_seen keys None h = any_seen keys ∙ h
  index_seen keys (Some i) h = ap (λ l. slice_get l i) (sym (each_seen keys)) ∙ h

  -- and the other way round
  pub index_meant : (keys : List K) (index : Option ℕ) → IsIndexIn q (map see keys) index → IsIndexIn p keys index
  index_meant keys None h = sym (any_seen keys) ∙ h
  index_meant keys (Some i) h = ap (λ l. slice_get l i) (each_seen keys) ∙ h
