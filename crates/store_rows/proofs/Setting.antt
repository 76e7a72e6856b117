-- What a DELETE and an INSERT leave of the rows that pass a test.
use Rattle.store_rows.proofs.Common.{◌≡◌, List, [], ◌∷◌, ◌++◌, Bool, true, false, cond, not, refl, sym, ap, subst, ◌∙◌}
use Rattle.store_rows.proofs.Common.{append-nil, IsPermutation, AllByRecursion, is_eq, IsTotalOrder, Ordering, Less}
use Rattle.store_rows.proofs.Common.{Equal, Greater, false≢true, filter-append, IsPermutation-sym, IsPermutation-refl}
use Rattle.store_rows.proofs.Common.{IsPermutation-cons, IsPermutation-to_front, Row, value_cmp, put}
use Rattle.std.specs.Prelude.{filter}
use Rattle.sqlite.specs.Tree.{put_row}
use Rattle.sqlite_trees.specs.Tree.{rowid}
use Rattle.store_rows.specs.Listed.{AreListed}
use Rattle.store_rows.proofs.Listing.{set_listed, moved_listed}

module _ {X : Type 0} where
  filter_first : (p : X → Bool) (x : X) (xs : List X) (t : Bool) → p x ≡ t
      → filter p (x ∷ xs) ≡ cond t (x ∷ filter p xs) (filter p xs)
  filter_first p x xs t e = ap (λ b. cond b (x ∷ filter p xs) (filter p xs)) e

  removed : (p : X → Bool) (x : X) (left rest : List X) (c : Bool) → p x ≡ false → filter p left ≡ rest
      → filter p (cond (not c) (x ∷ left) left) ≡ rest
  removed p x left rest true e h = h
  removed p x left rest false e h = filter_first p x left false e ∙ h

  kept : (p : X → Bool) (x : X) (left rest : List X) (c : Bool) → p x ≡ true → filter p left ≡ rest
      → filter p (cond (not c) (x ∷ left) left) ≡ cond (not c) (x ∷ rest) rest
  kept p x left rest true e h = h
  kept p x left rest false e h = filter_first p x left true e ∙ ap (λ l. x ∷ l) h

  -- Of the rows that pass p, a DELETE of those that pass d leaves those that fail q, which is d on such rows.
  pub left_here : (p d q : X → Bool) → ((x : X) → p x ≡ true → d x ≡ q x) → (xs : List X)
      → filter p (filter (λ x. not (d x)) xs) ≡ filter (λ x. not (q x)) (filter p xs)
  left_here p d q same [] = refl
  left_here p d q same (x ∷ xs) = by_test (p x) refl (left_here p d q same xs)
    where
      by_test : (b : Bool) → p x ≡ b → filter p (filter (λ y. not (d y)) xs) ≡ filter (λ y. not (q y)) (filter p xs)
          → filter p (filter (λ y. not (d y)) (x ∷ xs)) ≡ filter (λ y. not (q y))
          (cond b (x ∷ filter p xs) (filter p xs))
      by_test true e rest =
          ap (λ c. filter p (cond (not c) (x ∷ filter (λ y. not (d y)) xs) (filter (λ y. not (d y)) xs))) (same x e)
          ∙ kept p x (filter (λ y. not (d y)) xs) (filter (λ y. not (q y)) (filter p xs)) (q x) e rest
      by_test false e rest = removed p x (filter (λ y. not (d y)) xs) (filter (λ y. not (q y)) (filter p xs)) (d x) e
          rest

  all_left : (xs : List X) → filter (λ x. not false) xs ≡ xs
  all_left [] = refl
  all_left (x ∷ xs) = ap (λ l. x ∷ l) (all_left xs)

  none_left : (xs : List X) → filter (λ x. not true) xs ≡ []
  none_left [] = refl
  none_left (x ∷ xs) = none_left xs

  -- it leaves them all, where none of them passes d
  pub left_others : (p d : X → Bool) → ((x : X) → p x ≡ true → d x ≡ false) → (xs : List X)
      → filter p (filter (λ x. not (d x)) xs) ≡ filter p xs
  left_others p d apart xs = left_here p d (λ x. false) apart xs ∙ all_left (filter p xs)

  -- and none, where d is p
  pub left_none : (p : X → Bool) (xs : List X) → filter p (filter (λ x. not (p x)) xs) ≡ []
  left_none p xs = left_here p p (λ x. true) (λ x e. e) xs ∙ none_left (filter p xs)

  pub added_here : (p : X → Bool) (r : X) (xs : List X) → p r ≡ true → filter p (xs ++ r ∷ []) ≡ filter p xs ++ r ∷ []
  added_here p r xs mine = filter-append p xs (r ∷ []) ∙ ap (λ l. filter p xs ++ l) (filter_first p r [] true mine)

  pub added_elsewhere : (p : X → Bool) (r : X) (xs : List X) → p r ≡ false → filter p (xs ++ r ∷ []) ≡ filter p xs
  added_elsewhere p r xs other = filter-append p xs (r ∷ [])
      ∙ ap (λ l. filter p xs ++ l) (filter_first p r [] false other) ∙ append-nil (filter p xs)

  -- a row set among rows that another test passes
  pub set_elsewhere : (p d : X → Bool) (r : X) (xs : List X) → p r ≡ false → ((x : X) → p x ≡ true → d x ≡ false)
      → filter p (filter (λ x. not (d x)) xs ++ r ∷ []) ≡ filter p xs
  set_elsewhere p d r xs other apart = added_elsewhere p r (filter (λ x. not (d x)) xs) other ∙ left_others p d apart xs

-- The rows that pass p stand for a list. One of them is set, by a DELETE of those that pass d, which on such rows are
-- those with its key: its item is put.
pub set_in : {A X : Type 0} {by : X → X → Ordering} {R : A → X → Type 0} (o : IsTotalOrder by)
    (order : A → A → Ordering) (p d : X → Bool) (a : A) (r : X) (xs : List X) (items : List A)
    → p r ≡ true → ((x : X) → p x ≡ true → d x ≡ is_eq (by x r)) → R a r
    → ((b : A) (x : X) → R b x → order a b ≡ by r x)
    → AreListed by R (filter p xs) items
    → AreListed by R (filter p (filter (λ x. not (d x)) xs ++ r ∷ [])) (put order a items)
set_in {A} {X} {by} {R} o order p d a r xs items mine key one same h =
    let is : filter p (filter (λ x. not (d x)) xs ++ r ∷ []) ≡ filter (λ x. not (is_eq (by x r))) (filter p xs) ++ r
    ∷ [] =
    added_here p r (filter (λ x. not (d x)) xs) mine
    ∙ ap (λ l. l ++ r ∷ []) (left_here p d (λ x. is_eq (by x r)) key xs) in
    subst (λ l. AreListed by R l (put order a items)) (sym is) (set_listed o order a r (filter p xs) items one same h)

-- ---- rows in the order of their rowids

each_left : {X : Type 0} (p : X → Bool) (xs : List X) → AllByRecursion (λ x. p x ≡ true) (filter p xs)
each_left p [] = tt
each_left p (x ∷ xs) = by_test (p x) refl (each_left p xs)
  where
    by_test : (t : Bool) → p x ≡ t → AllByRecursion (λ y. p y ≡ true) (filter p xs)
        → AllByRecursion (λ y. p y ≡ true) (cond t (x ∷ filter p xs) (filter p xs))
    by_test true e rest = (e, rest)
    by_test false e rest = rest

-- a row of a new rowid is added where it belongs
put_adds : (r : Row) (rows : List Row) → AllByRecursion (λ x. not (is_eq (value_cmp (rowid x) (rowid r))) ≡ true) rows
    → IsPermutation (put_row r rows) (rows ++ r ∷ [])
put_adds r [] all = IsPermutation-refl (r ∷ [])
put_adds r (x ∷ rows) all = by_order (value_cmp (rowid x) (rowid r)) refl (put_adds r rows all.1)
  where
    by_order : (c : Ordering) → value_cmp (rowid x) (rowid r) ≡ c → IsPermutation (put_row r rows) (rows ++ r ∷ [])
        → IsPermutation (put_row r (x ∷ rows)) (x ∷ rows ++ r ∷ [])
    by_order Less e rest = rw e (IsPermutation-cons x (put_row r rows) (rows ++ r ∷ []) rest)
    by_order Equal e rest = absurd (false≢true (sym (ap (λ c. not (is_eq c)) e) ∙ all.0))
    by_order Greater e rest =
        rw e (IsPermutation-sym (x ∷ rows ++ r ∷ []) (r ∷ x ∷ rows) (IsPermutation-to_front (x ∷ rows) r))

-- a row is set in such a table, by a DELETE of its rowid: its item is put
pub set_keyed : {A : Type 0} {by : Row → Row → Ordering} {R : A → Row → Type 0} (o : IsTotalOrder by)
    (order : A → A → Ordering) (d : Row → Bool) (a : A) (r : Row) (rows : List Row) (items : List A)
    → ((x : Row) → d x ≡ is_eq (value_cmp (rowid x) (rowid r))) → ((x : Row) → d x ≡ is_eq (by x r)) → R a r
    → ((b : A) (x : Row) → R b x → order a b ≡ by r x)
    → AreListed by R rows items → AreListed by R (put_row r (filter (λ x. not (d x)) rows)) (put order a items)
set_keyed {A} {by} {R} o order d a r rows items rowid_is key_is one same h =
    let left = filter (λ x. not (d x)) rows in
    let moved : IsPermutation (put_row r left) (left ++ r ∷ []) = put_adds r left (free rows) in
    let is : filter (λ x. not (is_eq (by x r))) rows ≡ left = same_tests rows in
    moved_listed (left ++ r ∷ []) (put_row r left) (put order a items) moved
    (subst (λ l. AreListed by R (l ++ r ∷ []) (put order a items)) is (set_listed o order a r rows items one same h))
  where
    free_each : (xs : List Row) → AllByRecursion (λ x. not (d x) ≡ true) xs
        → AllByRecursion (λ x. not (is_eq (value_cmp (rowid x) (rowid r))) ≡ true) xs
    free_each [] all = tt
    free_each (x ∷ xs) all = (ap not (sym (rowid_is x)) ∙ all.0, free_each xs all.1)

    free : (xs : List Row) → AllByRecursion (λ x. not (is_eq (value_cmp (rowid x) (rowid r))) ≡ true)
        (filter (λ x. not (d x)) xs)
    free xs = free_each (filter (λ x. not (d x)) xs) (each_left (λ x. not (d x)) xs)

    same_tests : (xs : List Row) → filter (λ x. not (is_eq (by x r))) xs ≡ filter (λ x. not (d x)) xs
    same_tests [] = refl
    same_tests (x ∷ xs) =
        ap (λ t. cond (not t) (x ∷ filter (λ y. not (is_eq (by y r))) xs) (filter (λ y. not (is_eq (by y r))) xs))
        (sym (key_is x))
        ∙ ap (λ l. cond (not (d x)) (x ∷ l) l) (same_tests xs)
