-- Rows that stand for the items of a list, in the order of a key: a row that is set is an item that is put, a row that
-- is removed an item that is left out, and rows in order show the items.
use Rattle.store_rows.proofs.Common.{◌≡◌, inl, inr, ◌+◌, List, [], ◌∷◌, ◌++◌, get_or, Bool, true, false, cond, not}
use Rattle.store_rows.proofs.Common.{◌&&◌, refl, sym, ap, subst, ◌∙◌, arith, IsPermutation, IsSorted, AllByRecursion}
use Rattle.store_rows.proofs.Common.{is_eq, is_lt, ordering_reverse, IsTotalOrder, Ordering, Less, Equal, Greater}
use Rattle.store_rows.proofs.Common.{false≢true, All-permutation, IsPermutation-sym, IsPermutation-refl}
use Rattle.store_rows.proofs.Common.{IsPermutation-trans, IsPermutation-cons, IsPermutation-to_front}
use Rattle.store_rows.proofs.Common.{IsPermutation-append, All-from_recursion, recursion_from_All, IsPermutation-filter}
use Rattle.store_rows.proofs.Common.{are_above, put, put_cases}
use Rattle.std.specs.Prelude.{filter}
use Rattle.std.specs.List.Sorted.{IsStrictlySortedBy}
use Rattle.std.specs.Ordering.{eq_by_cmp}
use Rattle.std.proofs.lemmas.List.Sorted.{IsPermutation-middle}
use Rattle.std.proofs.lemmas.List.Kept.{IsStrictlySortedBy-filter}
use Rattle.std.proofs.lemmas.Map.Keys.{IsDistinct-from_sorted, IsDistinct-IsPermutation, apart_from_distinct}
use Rattle.std.proofs.lemmas.Map.Keys.{sorted_from_all_adjacent}
use Rattle.sqlite_rules.specs.Lists.{Has}
use Rattle.base.specs.Keyed.{put_by_order}
use Rattle.base.proofs.PutKeeps.{IsStrictlySortedBy-put}
use Rattle.store_rows.specs.Listed.{AreShown, AreListed}

-- ---- members

has_more : {X : Type 0} (xs : List X) (y : X) (zs : List X) → AllByRecursion (Has xs) zs
    → AllByRecursion (Has (y ∷ xs)) zs
has_more xs y [] all = tt
has_more xs y (z ∷ zs) all = (inr all.0, has_more xs y zs all.1)

has_itself : {X : Type 0} (xs : List X) → AllByRecursion (Has xs) xs
has_itself [] = tt
has_itself (x ∷ xs) = (inl refl, has_more xs x xs (has_itself xs))

has_all : {X : Type 0} (P : X → Type 0) (xs : List X) (x : X) → AllByRecursion P xs → Has xs x → P x
has_all P (y ∷ ys) x all (inl is) = subst P (sym is) all.0
has_all P (y ∷ ys) x all (inr more) = has_all P ys x all.1 more
has_all P [] x all h = absurd h

-- a permutation has the same members
pub permuted_has : {X : Type 0} (xs ys : List X) → IsPermutation xs ys → (x : X) → Has ys x → Has xs x
permuted_has xs ys same x h =
    has_all (Has xs) ys x (recursion_from_All (Has xs) ys
    (All-permutation (Has xs) xs ys same (All-from_recursion (Has xs) xs (has_itself xs)))) h

-- ---- lists of rows and items

pub filter_shown : {A X : Type 0} {R : A → X → Type 0} (keep : A → Bool) (stays : X → Bool)
    → ((b : A) (x : X) → R b x → keep b ≡ stays x) → (items : List A) (xs : List X)
    → AreShown R items xs → AreShown R (filter keep items) (filter stays xs)
filter_shown keep stays same [] [] all = tt
filter_shown keep stays same [] (x ∷ xs) all = absurd all
filter_shown keep stays same (b ∷ items) [] all = absurd all
filter_shown {A} {X} {R} keep stays same (b ∷ items) (x ∷ xs) all =
    subst (λ t. AreShown R (cond t (b ∷ filter keep items) (filter keep items)) (filter stays (x ∷ xs)))
    (sym (same b x all.0))
    (by_test (stays x) (filter_shown {R = R} keep stays same items xs all.1))
  where
    by_test : (t : Bool) → AreShown R (filter keep items) (filter stays xs)
        → AreShown R (cond t (b ∷ filter keep items) (filter keep items))
        (cond t (x ∷ filter stays xs) (filter stays xs))
    by_test true rest = (all.0, rest)
    by_test false rest = rest

pub last_shown : {A X : Type 0} (R : A → X → Type 0) (a : A) (r : X) (items : List A) (xs : List X) → R a r
    → AreShown R items xs → AreShown R (items ++ a ∷ []) (xs ++ r ∷ [])
last_shown R a r [] [] one all = (one, tt)
last_shown R a r [] (x ∷ xs) one all = absurd all
last_shown R a r (b ∷ items) [] one all = absurd all
last_shown R a r (b ∷ items) (x ∷ xs) one all = (all.0, last_shown R a r items xs one all.1)

below_shown : {A X : Type 0} (R : A → X → Type 0) (P : X → Type 0) (items : List A) (xs : List X)
    → AllByRecursion (λ b. (x : X) → R b x → P x) items → AreShown R items xs
    → AllByRecursion P xs
below_shown R P [] [] below all = tt
below_shown R P [] (x ∷ xs) below all = absurd all
below_shown R P (b ∷ items) [] below all = tt
below_shown R P (b ∷ items) (x ∷ xs) below all = (below.0 x all.0, below_shown R P items xs below.1 all.1)

all_last : {X : Type 0} (P : X → Type 0) (xs : List X) (r : X) → AllByRecursion P xs → P r
    → AllByRecursion P (xs ++ r ∷ [])
all_last P [] r all last = (last, tt)
all_last P (x ∷ xs) r all last = (all.0, all_last P xs r all.1 last)

last_ascends : {X : Type 0} (by : X → X → Ordering) (xs : List X) (r : X) → AllByRecursion (λ x. by x r ≡ Less) xs
    → IsStrictlySortedBy by xs → IsStrictlySortedBy by (xs ++ r ∷ [])
unfolding IsStrictlySortedBy
last_ascends by [] r below strict = (tt, tt)
last_ascends by (x ∷ xs) r below strict =
    (all_last (λ z. by x z ≡ Less) xs r strict.0 below.0, last_ascends by xs r below.1 strict.1)

module _ {A X : Type 0} {by : X → X → Ordering} {R : A → X → Type 0} where
  pub none_listed : AreListed by R [] []
  unfolding IsStrictlySortedBy
  none_listed = record { found = []; same = IsPermutation-refl []; ascending = tt; each = tt }

  -- the order of the rows in the table doesn't count
  pub moved_listed : (rows rows2 : List X) (items : List A) → IsPermutation rows2 rows → AreListed by R rows items
      → AreListed by R rows2 items
  moved_listed rows rows2 items moved h =
      record {
        found = h.found;
        same = IsPermutation-trans rows2 rows h.found moved h.same;
        ascending = h.ascending;
        each = h.each;
      }

  -- rows that a test of their own keeps stand for the items that are kept
  pub kept_listed : (keep : A → Bool) (stays : X → Bool) → ((b : A) (x : X) → R b x → keep b ≡ stays x)
      → (rows : List X) (items : List A) → AreListed by R rows items
      → AreListed by R (filter stays rows) (filter keep items)
  kept_listed keep stays same rows items h = record {
    found = filter stays h.found;
    same = IsPermutation-filter stays rows h.found h.same;
    ascending = IsStrictlySortedBy-filter by stays h.found h.ascending;
    each = filter_shown {R = R} keep stays same items h.found h.each;
  }

  -- a row that is above those of all items is added: its item is the last
  pub last_listed : (a : A) (r : X) (rows : List X) (items : List A) → R a r
      → AllByRecursion (λ b. (x : X) → R b x → by x r ≡ Less) items → AreListed by R rows items
      → AreListed by R (rows ++ r ∷ []) (items ++ a ∷ [])
  last_listed a r rows items one below h = record {
    found = h.found ++ r ∷ [];
    same = IsPermutation-append rows h.found (r ∷ []) (r ∷ []) h.same (IsPermutation-refl (r ∷ []));
    ascending = last_ascends by h.found r (below_shown R (λ x. by x r ≡ Less) items h.found below h.each) h.ascending;
    each = last_shown R a r items h.found one h.each;
  }

-- ---- lists in the order of a key

less_from : (r : Ordering) → is_eq r ≡ false → is_lt (ordering_reverse r) ≡ false → r ≡ Less
less_from Less a b = refl
less_from Equal a b = absurd (cc)
less_from Greater a b = absurd (cc)

module _ {X : Type 0} {by : X → X → Ordering} (o : IsTotalOrder by) where
  flips : (x y : X) → eq_by_cmp by x y ≡ eq_by_cmp by y x
  flips x y = ap is_eq (o.antisymm x y) ∙ turned (by y x)
    where
      turned : (r : Ordering) → is_eq (ordering_reverse r) ≡ is_eq r
      turned Less = refl
      turned Equal = refl
      turned Greater = refl

  -- what is in order, with the keys of rows that differ, ascends
  ascends : (xs ys : List X) → IsStrictlySortedBy by xs → IsPermutation xs ys → IsSorted by ys
      → IsStrictlySortedBy by ys
  unfolding IsStrictlySortedBy
  ascends xs [] strict same sorted = tt
  ascends xs (y ∷ ys) strict same sorted =
      let apart = IsDistinct-IsPermutation (eq_by_cmp by) flips xs (y ∷ ys) same
      (IsDistinct-from_sorted by xs strict) in
      sorted_from_all_adjacent o (y ∷ ys) y (λ k high.
      less_from (by (get_or (y ∷ ys) k y) (get_or (y ∷ ys) (k + 1) y))
      (apart_from_distinct (eq_by_cmp by) (y ∷ ys) k (k + 1) y apart (omega arith) high)
      (ap is_lt (sym (o.antisymm (get_or (y ∷ ys) (k + 1) y) (get_or (y ∷ ys) k y))) ∙ sorted k y (omega arith) high))

  not_below : (x y : X) → by x y ≡ Less → by y x ≡ Less → ⊥
  not_below x y a b = let e : Less ≡ Greater = sym a ∙ (o.antisymm x y ∙ ap ordering_reverse b) in cc

  not_itself : (x : X) → by x x ≡ Less → ⊥
  not_itself x a = not_below x x a a

  -- lists that ascend and have the same members are one
  one_list : (xs ys : List X) → IsStrictlySortedBy by xs → IsStrictlySortedBy by ys → ((x : X) → Has xs x → Has ys x)
      → ((x : X) → Has ys x → Has xs x) → ys ≡ xs
  unfolding IsStrictlySortedBy
  one_list [] [] p q to back = refl
  one_list [] (y ∷ ys) p q to back = absurd (back y (inl refl))
  one_list (x ∷ xs) [] p q to back = absurd (to x (inl refl))
  one_list (x ∷ xs) (y ∷ ys) p q to back =
      let same : y ≡ x = elim (back y (inl refl)) [
        | inl is ↦ is
        | inr later ↦ elim (to x (inl refl)) [
          | inl is ↦ sym is
          | inr after ↦ absurd (not_below x y (has_all _ xs y p.0 later) (has_all _ ys x q.0 after))
        ]
      ] in
      let on_to : (z : X) → Has xs z → Has ys z = λ z h. elim (to z (inr h)) [
        | inl is ↦ absurd (not_itself x (subst (λ v. by x v ≡ Less) (is ∙ same) (has_all _ xs z p.0 h)))
        | inr more ↦ more
      ] in
      let on_back : (z : X) → Has ys z → Has xs z = λ z h. elim (back z (inr h)) [
        | inl is ↦ absurd (not_itself y (subst (λ v. by y v ≡ Less) (is ∙ sym same) (has_all _ ys z q.0 h)))
        | inr more ↦ more
      ] in
      ap (λ v. v ∷ ys) same ∙ ap (◌∷◌ x) (one_list xs ys p.1 q.1 on_to on_back)

  -- rows put in order are in one order only
  pub one_order : (xs ys : List X) → IsStrictlySortedBy by xs → IsPermutation xs ys → IsSorted by ys → ys ≡ xs
  one_order xs ys strict same sorted =
      one_list xs ys strict (ascends xs ys strict same sorted) (permuted_has ys xs (IsPermutation-sym xs ys same))
      (permuted_has xs ys same)

  -- ---- rows without the key of r

  abbrev pub differs : X → X → Bool
  differs r x = not (is_eq (by x r))

  differs_above : (r y : X) → by r y ≡ Less → differs r y ≡ true
  differs_above r y less = ap (λ c. not (is_eq c)) (o.antisymm y r ∙ ap ordering_reverse less)

  all_differ : (r : X) (ys : List X) → are_above by r ys ≡ true → filter (differs r) ys ≡ ys
  all_differ r [] above = refl
  all_differ r (y ∷ ys) above = by_order (by r y) refl above (all_differ r ys)
    where
      by_order : (c : Ordering) → by r y ≡ c → (is_lt c && are_above by r ys) ≡ true
          → (are_above by r ys ≡ true → filter (differs r) ys ≡ ys)
          → filter (differs r) (y ∷ ys) ≡ y ∷ ys
      by_order Less e h rest =
          ap (λ t. cond t (y ∷ filter (differs r) ys) (filter (differs r) ys)) (differs_above r y e)
          ∙ ap (λ l. y ∷ l) (rest h)
      by_order Equal e h rest = absurd (false≢true h)
      by_order Greater e h rest = absurd (false≢true h)

  tied_above : (r y : X) (ys : List X) → by y r ≡ Equal → AllByRecursion (λ z. by y z ≡ Less) ys
      → are_above by r ys ≡ true
  tied_above r y [] tied all = refl
  tied_above r y (z ∷ zs) tied all = ap (λ c. is_lt c && are_above by r zs) (sym (o.congr y r z tied) ∙ all.0)
      ∙ tied_above r y zs tied all.1

  -- y, where r belongs after a later one
  differs_late : (r y : X) (ys : List X) → AllByRecursion (λ z. by y z ≡ Less) ys → are_above by r ys ≡ false
      → differs r y ≡ true
  differs_late r y ys all late = by_order (by y r) refl
    where
      by_order : (c : Ordering) → by y r ≡ c → differs r y ≡ true
      by_order Less e = ap (λ c. not (is_eq c)) e
      by_order Equal e = absurd (false≢true (sym late ∙ tied_above r y ys e all))
      by_order Greater e = ap (λ c. not (is_eq c)) e

  swapped : (r y : X) (ys : List X) → IsPermutation (r ∷ y ∷ ys) (y ∷ r ∷ ys)
  swapped r y ys = IsPermutation-sym (y ∷ r ∷ ys) (r ∷ y ∷ ys) (IsPermutation-middle (y ∷ []) r ys)

  kept_first : (r y : X) (ys : List X) (t : Bool) → differs r y ≡ t
      → filter (differs r) (y ∷ ys) ≡ cond t (y ∷ filter (differs r) ys) (filter (differs r) ys)
  kept_first r y ys t e = ap (λ b. cond b (y ∷ filter (differs r) ys) (filter (differs r) ys)) e

  -- to put r moves it to where it belongs, in place of one of its key
  put_moves : (r : X) (ys : List X) → IsStrictlySortedBy by ys → IsPermutation (r ∷ filter (differs r) ys) (put by r ys)
  unfolding IsStrictlySortedBy
  put_moves r [] strict = IsPermutation-refl (r ∷ [])
  put_moves r (y ∷ ys) strict =
      put_cases by r (λ l. IsPermutation (r ∷ filter (differs r) (y ∷ ys)) l) y ys
      (λ above e.
      let k : filter (differs r) (y ∷ ys) ≡ y ∷ ys =
      all_differ r (y ∷ ys) (ap (λ c. is_lt c && are_above by r ys) e ∙ above) in
      subst (λ l. IsPermutation (r ∷ l) (r ∷ y ∷ ys)) (sym k) (IsPermutation-refl (r ∷ y ∷ ys)))
      (λ above e.
      let n : differs r y ≡ false = ap (λ c. not (is_eq c)) (o.antisymm y r ∙ ap ordering_reverse e) in
      let k : filter (differs r) (y ∷ ys) ≡ ys = kept_first r y ys false n ∙ all_differ r ys above in
      subst (λ l. IsPermutation (r ∷ l) (r ∷ ys)) (sym k) (IsPermutation-refl (r ∷ ys)))
      (λ above e.
      let n : differs r y ≡ true = ap (λ c. not (is_eq c)) (o.antisymm y r ∙ ap ordering_reverse e) in
      let k : filter (differs r) (y ∷ ys) ≡ y ∷ ys = kept_first r y ys true n
      ∙ ap (λ l. y ∷ l) (all_differ r ys above) in
      subst (λ l. IsPermutation (r ∷ l) (y ∷ r ∷ ys)) (sym k) (swapped r y ys))
      (λ late.
      let k : filter (differs r) (y ∷ ys) ≡ y ∷ filter (differs r) ys =
      kept_first r y ys true (differs_late r y ys strict.0 late) in
      subst (λ l. IsPermutation (r ∷ l) (y ∷ put by r ys)) (sym k)
      (IsPermutation-trans (r ∷ y ∷ filter (differs r) ys) (y ∷ r ∷ filter (differs r) ys) (y ∷ put by r ys)
      (swapped r y (filter (differs r) ys))
      (IsPermutation-cons y (r ∷ filter (differs r) ys) (put by r ys) (put_moves r ys strict.1))))

  module _ {A : Type 0} {R : A → X → Type 0} where
    above_shown : (order : A → A → Ordering) (a : A) (r : X) → ((b : A) (x : X) → R b x → order a b ≡ by r x)
        → (items : List A) (xs : List X) → AreShown R items xs
        → are_above order a items ≡ are_above by r xs
    above_shown order a r same [] [] all = refl
    above_shown order a r same [] (x ∷ xs) all = absurd all
    above_shown order a r same (b ∷ items) [] all = absurd all
    above_shown order a r same (b ∷ items) (x ∷ xs) all =
        ap (λ c. is_lt c && are_above order a items) (same b x all.0)
        ∙ ap (λ t. is_lt (by r x) && t) (above_shown order a r same items xs all.1)

    put_shown : (order : A → A → Ordering) (a : A) (r : X) (items : List A) (xs : List X) → R a r
        → ((b : A) (x : X) → R b x → order a b ≡ by r x) → AreShown R items xs
        → AreShown R (put order a items) (put by r xs)
    put_shown order a r [] [] one same all = (one, tt)
    put_shown order a r [] (x ∷ xs) one same all = absurd all
    put_shown order a r (b ∷ items) [] one same all = absurd all
    put_shown order a r (b ∷ items) (x ∷ xs) one same all =
        let rest = put_shown order a r items xs one same all.1 in
        subst (λ t. AreShown R (cond t (put_by_order (order a b) a b items) (b ∷ put order a items))
        (put by r (x ∷ xs))) (sym (above_shown order a r same items xs all.1))
        (subst (λ c. AreShown R (cond (are_above by r xs) (put_by_order c a b items) (b ∷ put order a items))
        (put by r (x ∷ xs))) (sym (same b x all.0))
        (by_case (are_above by r xs) (by r x) rest))
      where
        by_case : (t : Bool) (c : Ordering) → AreShown R (put order a items) (put by r xs)
            → AreShown R (cond t (put_by_order c a b items) (b ∷ put order a items))
            (cond t (put_by_order c r x xs) (x ∷ put by r xs))
        by_case true Less rest = (one, (all.0, all.1))
        by_case true Equal rest = (one, all.1)
        by_case true Greater rest = (all.0, (one, all.1))
        by_case false c rest = (all.0, rest)

    -- the row of a key is removed and the new one added at the end: the item is put
    pub set_listed : (order : A → A → Ordering) (a : A) (r : X) (rows : List X) (items : List A) → R a r
        → ((b : A) (x : X) → R b x → order a b ≡ by r x) → AreListed by R rows items
        → AreListed by R (filter (differs r) rows ++ r ∷ []) (put order a items)
    set_listed order a r rows items one same h = record {
      found = put by r h.found;
      same = IsPermutation-trans (filter (differs r) rows ++ r ∷ []) (r ∷ filter (differs r) rows) (put by r h.found)
          (IsPermutation-to_front (filter (differs r) rows) r)
          (IsPermutation-trans (r ∷ filter (differs r) rows) (r ∷ filter (differs r) h.found) (put by r h.found)
          (IsPermutation-cons r (filter (differs r) rows) (filter (differs r) h.found)
          (IsPermutation-filter (differs r) rows h.found h.same)) (put_moves r h.found h.ascending));
      ascending = IsStrictlySortedBy-put by o r h.found h.ascending;
      each = put_shown order a r items h.found one same h.each;
    }

    -- rows that a query put in order stand for the items
    pub found_listed : (rows found : List X) (items : List A) → AreListed by R rows items → IsPermutation rows found
        → IsSorted by found → AreShown R items found
    found_listed rows found items h same sorted =
        let moved = IsPermutation-trans h.found rows found (IsPermutation-sym rows h.found h.same) same in
        subst (AreShown R items) (sym (one_order h.found found h.ascending moved sorted)) h.each
