-- Rows of signals' parts as they are written: places as the signals have them, seats from 0. They ascend.
use Rattle.store_rows.proofs.Common.{◌≡◌, ◌∙◌, ℕ, ◌+◌, ◌<◌, pos, List, [], ◌∷◌, ◌++◌, map, ap, arith, AllByRecursion}
use Rattle.store_rows.proofs.Common.{ordering_then, Ordering, Less, tied_itself, Int, Row, column, value_cmp}
use Rattle.store_rows.proofs.Common.{value_cmp_total, Signal, by_column}
use Rattle.std.specs.List.Sorted.{IsStrictlySortedBy}
use Rattle.std.specs.Ordering.{then_cmp}
use Rattle.store_rows.specs.Listed.{AreShown}
use Rattle.store_rows.specs.Live.{parts_of}
use Rattle.store_rows.specs.SignalShowing.{PlacesAscend}
use Rattle.store_rows.proofs.Keys.{number_below}

abbrev pub seat_order : Row → Row → Ordering
seat_order = then_cmp (by_column 2) (by_column 3)

pub all_append : {X : Type 0} (P : X → Type 0) (xs ys : List X) → AllByRecursion P xs → AllByRecursion P ys
    → AllByRecursion P (xs ++ ys)
all_append P [] ys a b = b
all_append P (x ∷ xs) ys a b = (a.0, all_append P xs ys a.1 b)

module _ {A : Type 0} (row_of : ℕ → ℕ → A → Row) (has_place : (p s : ℕ) (x : A) → column (row_of p s x) 2 ≡ Int (pos p))
    (has_seat : (p s : ℕ) (x : A) → column (row_of p s x) 3 ≡ Int (pos s)) where
  -- the rows of one signal's parts, from this seat on
  abbrev pub rows_at : ℕ → ℕ → List A → List Row
  rows_at place seat [] = []
  rows_at place seat (x ∷ xs) = row_of place seat x ∷ rows_at place (seat + 1) xs

  -- those of all signals
  abbrev pub all_rows : (Signal → List A) → List (ℕ × Signal) → List Row
  all_rows part [] = []
  all_rows part (p ∷ placed) = rows_at p.0 0 (part p.1) ++ all_rows part placed

  places : (p q s t : ℕ) (x y : A) → value_cmp (column (row_of p s x) 2) (column (row_of q t y) 2)
      ≡ value_cmp (Int (pos p)) (Int (pos q))
  places p q s t x y = ap (λ v. value_cmp v (column (row_of q t y) 2)) (has_place p s x)
      ∙ ap (value_cmp (Int (pos p))) (has_place q t y)

  seats : (p q s t : ℕ) (x y : A) → value_cmp (column (row_of p s x) 3) (column (row_of q t y) 3)
      ≡ value_cmp (Int (pos s)) (Int (pos t))
  seats p q s t x y = ap (λ v. value_cmp v (column (row_of q t y) 3)) (has_seat p s x)
      ∙ ap (value_cmp (Int (pos s))) (has_seat q t y)

  place_first : (p q s t : ℕ) (x y : A) → p < q → seat_order (row_of p s x) (row_of q t y) ≡ Less
  place_first p q s t x y less =
      ap (λ c. ordering_then c (value_cmp (column (row_of p s x) 3) (column (row_of q t y) 3)))
      (places p q s t x y ∙ number_below p q less)

  seat_next : (p s t : ℕ) (x y : A) → s < t → seat_order (row_of p s x) (row_of p t y) ≡ Less
  seat_next p s t x y less =
      ap (λ c. ordering_then c (value_cmp (column (row_of p s x) 3) (column (row_of p t y) 3)))
      (places p p s t x y ∙ tied_itself value_cmp_total (Int (pos p)))
      ∙ seats p p s t x y ∙ number_below s t less

  abbrev IsBelow : Row → Row → Type 0
  IsBelow r z = seat_order r z ≡ Less

  seats_above : (p s t : ℕ) (x : A) (xs : List A) → s < t → AllByRecursion (IsBelow (row_of p s x)) (rows_at p t xs)
  seats_above p s t x [] less = tt
  seats_above p s t x (y ∷ xs) less = (seat_next p s t x y less, seats_above p s (t + 1) x xs (omega (arith, less)))

  place_above : (p q s t : ℕ) (x : A) (xs : List A) → p < q → AllByRecursion (IsBelow (row_of p s x)) (rows_at q t xs)
  place_above p q s t x [] less = tt
  place_above p q s t x (y ∷ xs) less = (place_first p q s t x y less, place_above p q s (t + 1) x xs less)

  module _ (part : Signal → List A) where
    places_above : (p s : ℕ) (x : A) (placed : List (ℕ × Signal)) → AllByRecursion (λ q. p < q.0) placed
        → AllByRecursion (IsBelow (row_of p s x)) (all_rows part placed)
    places_above p s x [] above = tt
    places_above p s x (q ∷ placed) above =
        all_append (IsBelow (row_of p s x)) (rows_at q.0 0 (part q.1)) (all_rows part placed)
        (place_above p q.0 s 0 x (part q.1) above.0) (places_above p s x placed above.1)

    ascends_at : (p s : ℕ) (xs : List A) (placed : List (ℕ × Signal)) → AllByRecursion (λ q. p < q.0) placed
        → IsStrictlySortedBy seat_order (all_rows part placed)
        → IsStrictlySortedBy seat_order (rows_at p s xs ++ all_rows part placed)
    unfolding IsStrictlySortedBy
    ascends_at p s [] placed above sorted = sorted
    ascends_at p s (x ∷ xs) placed above sorted = (
      all_append (IsBelow (row_of p s x)) (rows_at p (s + 1) xs) (all_rows part placed)
          (seats_above p s (s + 1) x xs (omega arith)) (places_above p s x placed above),
      ascends_at p (s + 1) xs placed above sorted,
    )

    pub rows_ascend : (placed : List (ℕ × Signal)) → PlacesAscend placed
        → IsStrictlySortedBy seat_order (all_rows part placed)
    unfolding IsStrictlySortedBy
    rows_ascend [] ascend = tt
    rows_ascend (p ∷ placed) ascend = ascends_at p.0 0 (part p.1) placed ascend.0 (rows_ascend placed ascend.1)

    -- each shows its part, where a row of any seat does
    module _ (R : ℕ × A → Row → Type 0) (shows : (p s : ℕ) (x : A) → R (p, x) (row_of p s x)) where
      shown_at : (p s : ℕ) (xs : List A) (rest : List (ℕ × A)) (rows : List Row) → AreShown R rest rows
          → AreShown R (map (λ x. (p, x)) xs ++ rest) (rows_at p s xs ++ rows)
      shown_at p s [] rest rows shown = shown
      shown_at p s (x ∷ xs) rest rows shown = (shows p s x, shown_at p (s + 1) xs rest rows shown)

      pub rows_show : (placed : List (ℕ × Signal)) → AreShown R (parts_of part placed) (all_rows part placed)
      rows_show [] = tt
      rows_show (p ∷ placed) =
          shown_at p.0 0 (part p.1) (parts_of part placed) (all_rows part placed) (rows_show placed)

    -- the same, where a row shows its part only if something is known of it
    module _ (R : ℕ × A → Row → Type 0) (Q : A → Type 0) (shows : (p s : ℕ) (x : A) → Q x → R (p, x) (row_of p s x))
      where
        shown_if : (p s : ℕ) (xs : List A) (rest : List (ℕ × A)) (rows : List Row) → AllByRecursion Q xs
            → AreShown R rest rows → AreShown R (map (λ x. (p, x)) xs ++ rest) (rows_at p s xs ++ rows)
        shown_if p s [] rest rows all shown = shown
        shown_if p s (x ∷ xs) rest rows all shown = (shows p s x all.0, shown_if p (s + 1) xs rest rows all.1 shown)

        pub rows_show_if : (placed : List (ℕ × Signal)) → AllByRecursion (λ p. AllByRecursion Q (part p.1)) placed
            → AreShown R (parts_of part placed) (all_rows part placed)
        rows_show_if [] all = tt
        rows_show_if (p ∷ placed) all = shown_if p.0 0 (part p.1) (parts_of part placed) (all_rows part placed) all.0
            (rows_show_if placed all.1)
