-- The row that a query for the last place of a message's signals shows: none has a greater place.
use Rattle.store_rows.proofs.Common.{◌≡◌, ◌∙◌, ℕ, ◌+◌, ◌<◌, suc, pos, false, List, [], ◌∷◌, length, get_or, map, take}
use Rattle.store_rows.proofs.Common.{slice_get, Option, Some, None, refl, sym, ap, subst, arith, IsPermutation}
use Rattle.store_rows.proofs.Common.{IsSorted, IsTotalOrder, AllByRecursion, is_lt, nat_cmp, ordering_reverse, Ordering}
use Rattle.store_rows.proofs.Common.{Less, Equal, Greater, false≢true, nat_tests, All-from_recursion}
use Rattle.store_rows.proofs.Common.{recursion_from_All, All-permutation, IsPermutation-sym, IsPermutation-trans, Int}
use Rattle.store_rows.proofs.Common.{Row, column, value_cmp, Signal, Tables, has_net_and_number, sigs_order}
use Rattle.std.specs.Prelude.{filter}
use Rattle.std.proofs.lemmas.Cmp.{back_total}
use Rattle.std.proofs.lemmas.List.Sorted.{length_permutation}
use Rattle.store_tables.specs.Selected.{IsFirstSelected}
use Rattle.store_statements.specs.Shown.{last_place_order, last_place_shown}
use Rattle.store_rows.specs.Listed.{AreListed, AreShown}
use Rattle.store_rows.specs.Live.{AreSignalsOf, IsSigRow, live_rows}
use Rattle.store_rows.specs.LiveWritten.{IsAfter}
use Rattle.store_rows.proofs.Keys.{int_test}
use Rattle.store_rows.proofs.LiveRows.{of_number, place_of, sigs_total}

-- ---- the first of what is in order

module _ {X : Type 0} {by : X → X → Ordering} (o : IsTotalOrder by) where
  not_before : (z y x : X) → is_lt (by z y) ≡ false → is_lt (by y x) ≡ false → is_lt (by z x) ≡ false
  not_before z y x far near = by_order (by z x) refl
    where
      less : by z x ≡ Less → (c : Ordering) → by y x ≡ c → is_lt c ≡ false → by z y ≡ Less
      less e Less is not_less = absurd (false≢true (sym not_less))
      less e Equal is not_less = o.antisymm z y
          ∙ ap ordering_reverse (o.congr y x z is ∙ o.antisymm x z ∙ ap ordering_reverse e)
      less e Greater is not_less = o.trans z x y e (o.antisymm x y ∙ ap ordering_reverse is)

      by_order : (c : Ordering) → by z x ≡ c → is_lt c ≡ false
      by_order Less e = absurd (false≢true (sym far ∙ ap is_lt (less e (by y x) refl near)))
      by_order Equal e = refl
      by_order Greater e = refl

  none_before : (x : X) (xs : List X) → IsSorted by (x ∷ xs) → AllByRecursion (λ z. is_lt (by z x) ≡ false) xs
  none_before x [] sorted = tt
  none_before x (y ∷ ys) sorted =
      let near : is_lt (by y x) ≡ false = sorted 0 x (omega arith) (omega arith) in (
        near,
        each near ys (none_before y ys (λ k d low high.
            let next : suc (k + 1) ≡ suc k + 1 = omega arith in
            ap (λ (n : ℕ). is_lt (by (get_or (x ∷ y ∷ ys) n d) (get_or (y ∷ ys) k d))) next
            ∙ sorted (suc k) d (omega arith) (omega (arith, high)))),
      )
    where
      each : is_lt (by y x) ≡ false → (zs : List X) → AllByRecursion (λ z. is_lt (by z y) ≡ false) zs
          → AllByRecursion (λ z. is_lt (by z x) ≡ false) zs
      each near [] all = tt
      each near (z ∷ zs) all = (not_before z y x all.0 near, each near zs all.1)

-- ---- the last place

module _ (name : List ℕ) (number : ℕ) (t : Tables) where
  -- the row's place isn't below that of another
  abbrev IsNotBelow : Row → Row → Type 0
  IsNotBelow x z = is_lt (value_cmp (column x 2) (column z 2)) ≡ false

  itself : (x : Row) → IsNotBelow x x
  itself x = same (value_cmp (column x 2) (column x 2)) (sigs_total.antisymm x x)
    where
      same : (c : Ordering) → c ≡ ordering_reverse c → is_lt c ≡ false
      same Less e = let apart : Less ≡ Greater = e in absurd (cc)
      same Equal e = refl
      same Greater e = refl

  below : (p : ℕ) (x : Row) (placed : List (ℕ × Signal)) (rows : List Row) → column x 2 ≡ Int (pos p)
      → AllByRecursion (IsNotBelow x) rows
      → AreShown (IsSigRow name number) placed rows → AllByRecursion (λ (q : ℕ × Signal). q.0 < p + 1) placed
  below p x [] rows is all shown = tt
  below p x (q ∷ placed) [] is all shown = absurd shown
  below p x (q ∷ placed) (z ∷ rows) is all shown = (at_most, below p x placed rows is all.1 shown.1)
    where
      compared : is_lt (nat_cmp p q.0) ≡ false
      compared = ap is_lt (sym (int_test p q.0) ∙ ap (λ v. value_cmp v (Int (pos q.0))) (sym is)
          ∙ ap (value_cmp (column x 2)) (sym (place_of name number q z shown.0))) ∙ all.0

      at_most : q.0 < p + 1
      at_most = grind (arith, nat_tests, compared)

  no_items : (placed : List (ℕ × Signal)) (rows : List Row) → length rows ≡ 0
      → AreShown (IsSigRow name number) placed rows → placed ≡ []
  no_items [] rows none shown = refl
  no_items (q ∷ placed) [] none shown = absurd shown
  no_items (q ∷ placed) (z ∷ rows) none shown = absurd (omega (arith, none))

  module _ (rows : List Row)
      (sel : IsFirstSelected (has_net_and_number name number) last_place_shown last_place_order t.sig rows) where
    listed : (signals : List Signal) (h : AreSignalsOf name number (live_rows name t) signals)
        → AreListed sigs_order (IsSigRow name number) (filter (has_net_and_number name number) t.sig) h.placed
    listed signals h = subst (λ l. AreListed sigs_order (IsSigRow name number) l h.placed) (of_number name number t.sig)
        h.sigs

    moved : (signals : List Signal) (h : AreSignalsOf name number (live_rows name t) signals)
        → IsPermutation sel.selected.found (listed signals h).found
    moved signals h =
        IsPermutation-trans sel.selected.found (filter (has_net_and_number name number) t.sig) (listed signals h).found
        (IsPermutation-sym (filter (has_net_and_number name number) t.sig) sel.selected.found sel.selected.same)
        (listed signals h).same

    shown_are : rows ≡ take 1 (map last_place_shown sel.selected.found)
    shown_are = sel.first ∙ ap (take 1) sel.selected.is

    -- where no row is shown, there is no signal
    pub none_shown : (k : ℕ) → None ≡ slice_get rows 0 → IsAfter name number t k
    none_shown k none signals h =
        let l = listed signals h in
        let count : length l.found ≡ length sel.selected.found =
        length_permutation sel.selected.found l.found (moved signals h) in
        subst (λ (placed : List (ℕ × Signal)). AllByRecursion (λ (q : ℕ × Signal). q.0 < k) placed)
        (sym (no_items h.placed l.found (count ∙ empty sel.selected.found (none ∙ ap (λ rs. slice_get rs 0) shown_are))
        l.each)) tt
      where
        empty : (found : List Row) → ◌≡◌ {A = Option Row} None (slice_get (take 1 (map last_place_shown found)) 0)
            → length found ≡ 0
        empty [] e = refl
        empty (x ∷ xs) e = absurd (cc)

    -- the place that is shown isn't below another
    pub last_shown : (r : Row) (p : ℕ) → Some r ≡ slice_get rows 0 → column r 0 ≡ Int (pos p)
        → IsAfter name number t (p + 1)
    last_shown r p some is signals h = by_found sel.selected.found (some ∙ ap (λ rs. slice_get rs 0) shown_are)
        sel.selected.sorted (moved signals h)
      where
        by_found : (found : List Row) → Some r ≡ slice_get (take 1 (map last_place_shown found)) 0
            → IsSorted last_place_order found → IsPermutation found (listed signals h).found
            → AllByRecursion (λ (q : ℕ × Signal). q.0 < p + 1) h.placed
        by_found [] e sorted same = absurd (cc)
        by_found (x ∷ xs) e sorted same =
            let row : r ≡ last_place_shown x = cc in
            let place : column x 2 ≡ Int (pos p) = ap (λ (z : Row). column z 0) (sym row) ∙ is in
            let all : AllByRecursion (IsNotBelow x) (x ∷ xs) =
            (itself x, none_before (back_total sigs_total) x xs sorted) in
            below p x h.placed (listed signals h).found place
            (recursion_from_All (IsNotBelow x) (listed signals h).found
            (All-permutation (IsNotBelow x) (x ∷ xs) (listed signals h).found same
            (All-from_recursion (IsNotBelow x) (x ∷ xs) all)))
            (listed signals h).each
