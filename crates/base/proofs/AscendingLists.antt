-- Lists in ascending order of a number: where a binary search ends, and what an edit there leaves.
use Rattle.std.proofs.Common.{◌≡◌, ◌≢◌, ◌==◌, ◌<◌, ◌≤◌, ◌∙◌, ◌&&◌, ◌||◌, Bool, true, false, cond, not, ℕ, zero, suc}
use Rattle.std.proofs.Common.{List, [], ◌∷◌, length, get_or, Option, Some, None, Result, Ok, Err, IfOk, IfErr, refl}
use Rattle.std.proofs.Common.{sym, ap, inl, inr, arith}
use Rattle.std.specs.List.{insert, remove, filter, find, list_any}
use Rattle.std.specs.List.Sorted.{IsSearchInRange, IsBinarySearchResult, IsNonDecreasingBy, IsStrictlySortedBy}
use Rattle.std.specs.Ordering.{is_lt, nat_cmp, on, ordering_index}
use Rattle.std.specs.declared.cmp.Ordering.TheVariants.{Less, Equal, Greater}
use Rattle.std.proofs.lemmas.Bool.{cases_lt, false≢true}
use Rattle.std.proofs.lemmas.Bool.Decides.{nat_tests, Decides-eqb}
use Rattle.std.specs.Cmp.{nat_cmp_is}
use Rattle.std.proofs.lemmas.Cmp.{ranked}
use Rattle.std.proofs.lemmas.Map.Keys.{Less-from_sorted}
use Rattle.base.specs.Keyed.{are_above, put}
use Rattle.base.specs.Ascending.{IsAt, IsGap}
use Rattle.base.proofs.PutKeeps.{put_cases}
use Rattle.base.proofs.PutCode.{put_first}

differs : (a b : ℕ) → a ≢ b → a == b ≡ false
differs a b h = grind (arith, nat_tests)

same : (a b : ℕ) → a ≡ b → a == b ≡ true
same a b h = grind (arith, nat_tests)

or_true : (b : Bool) → (b || true) ≡ true
or_true true = refl
or_true false = refl

less≢greater : Less ≡ Greater → ⊥
less≢greater e = cc

equal≢greater : Equal ≡ Greater → ⊥
equal≢greater e = cc

module _ {A : Type 0} (key : A → ℕ) where
  ascends : (xs : List A) → IsStrictlySortedBy (on key nat_cmp) xs → (i j : ℕ) (d : A) → i < j → j < length xs
      → key (get_or xs i d) < key (get_or xs j d)
  ascends xs sorted i j d lt within = ranked _ _ _ (sym (Less-from_sorted (on key nat_cmp) xs i j d sorted lt within))

  comparisons_ascend : (xs : List A) (k : ℕ) → IsStrictlySortedBy (on key nat_cmp) xs
      → IsNonDecreasingBy (λ x. ordering_index (nat_cmp (key x) k)) xs
  comparisons_ascend xs k sorted i j d le within =
      let keys_ascend : key (get_or xs i d) ≤ key (get_or xs j d) =
      grind (arith, ascends xs sorted i j d, λ (same : i ≡ j). ap (λ n. key (get_or xs n d)) same) in
      grind (arith, nat_tests)

  -- a binary search ends at the number, or at the gap for it
  pub searched : (xs : List A) (k : ℕ) → IsStrictlySortedBy (on key nat_cmp) xs → (r : Result ℕ ℕ)
      → IsSearchInRange r (length xs)
      → IsBinarySearchResult (λ x. nat_cmp (key x) k) xs r
      → record { found : IfOk r (IsAt key xs k); absent : IfErr r (IsGap key xs k) }
  searched xs k sorted (Ok i) within equal = record {
    found = record {
      within = within;
      here = λ d. ranked _ k _ (sym (equal d));
      others = λ j d lt differs. elim (cases_lt j i) [
        | inl below ↦ (λ same. let h : key (get_or xs i d) ≡ k = ranked _ k _ (sym (equal d)) in
            omega (arith, ascends xs sorted j i d below within))
        | inr above ↦ (λ same. let h : key (get_or xs i d) ≡ k = ranked _ k _ (sym (equal d)) in
            omega (arith, ascends xs sorted i j d (omega arith) lt))
      ];
    };
    absent = tt;
  }
  searched xs k sorted (Err i) within splits = record {
    found = tt;
    absent = record {
      within = within;
      below = λ j d lt. ranked _ k _ (sym ((splits (comparisons_ascend xs k sorted)).0 j d (omega arith) lt));
      above = λ j d le lt. ranked _ k _ (sym ((splits (comparisons_ascend xs k sorted)).1 j d le lt));
    };
  }

  is_at_tail : (x : A) (xs : List A) (k i : ℕ) → IsAt key (x ∷ xs) k (suc i) → IsAt key xs k i
  is_at_tail x xs k i at =
      record {
        within = omega (arith, at.within);
        here = at.here;
        others =
            λ j d lt differs. at.others (suc j) d (omega arith) (omega arith);
      }

  gap_tail : (x : A) (xs : List A) (k i : ℕ) → IsGap key (x ∷ xs) k (suc i) → IsGap key xs k i
  gap_tail x xs k i gap = record {
    within = omega (arith, gap.within);
    below =
        λ j d lt. gap.below (suc j) d (omega arith);
    above =
        λ j d le lt. gap.above (suc j) d (omega arith) (omega arith);
  }

  -- what is at its index is found
  pub find_at : (xs : List A) (k i : ℕ) (d : A) → IsAt key xs k i → find (λ x. key x == k) xs ≡ Some (get_or xs i d)
  find_at [] k i d at = absurd (omega (arith, at.within))
  find_at (x ∷ xs) k zero d at = grind (arith, nat_tests, at.here d)
  find_at (x ∷ xs) k (suc i) d at =
      grind (arith, nat_tests, at.others 0 d (omega arith) (omega arith), find_at xs k i d (is_at_tail x xs k i at))

  none_with : (xs : List A) (k : ℕ) → ((j : ℕ) (d : A) → j < length xs → key (get_or xs j d) ≢ k)
      → find (λ x. key x == k) xs ≡ None
  none_with [] k absent = refl
  none_with (x ∷ xs) k absent =
      grind (arith, nat_tests, absent 0 x (omega arith), none_with xs k (λ j d lt. absent (suc j) d (omega arith)))

  -- in a gap nothing is found
  pub find_gap : (xs : List A) (k i : ℕ) → IsGap key xs k i → find (λ x. key x == k) xs ≡ None
  find_gap xs k i gap = none_with xs k (λ j d lt same. elim (cases_lt j i) [
    | inl below ↦ omega (arith, gap.below j d below)
    | inr above ↦ omega (arith, gap.above j d above lt)
  ])

  -- the order that a binary search has, the other way round
  flips : (a b : ℕ) → a < b → nat_cmp b a ≡ Greater
  flips a b lt = sym (nat_cmp_is b a Greater lt)

  above_gap : (x : A) (xs : List A) → ((j : ℕ) (d : A) → j < length xs → key x < key (get_or xs j d))
      → are_above (on key nat_cmp) x xs ≡ true
  above_gap x [] above = refl
  above_gap x (y ∷ ys) above =
      ap (λ r. is_lt r && are_above (on key nat_cmp) x ys)
      (sym (nat_cmp_is (key x) (key y) Less (above 0 y (omega arith))))
      ∙ above_gap x ys (λ j d lt. above (suc j) d (omega arith))

  -- to put a thing that is in a gap is to insert it there
  pub put_gap : (x : A) (xs : List A) (i : ℕ) → IsGap key xs (key x) i → put (on key nat_cmp) x xs ≡ insert xs i x
  put_gap x xs zero gap = put_first (on key nat_cmp) x xs (above_gap x xs (λ j d lt. gap.above j d (omega arith) lt))
  put_gap x [] (suc i) gap = absurd (let w : suc i ≤ 0 = gap.within in omega (arith, w))
  put_gap x (y ∷ ys) (suc i) gap =
      let greater : nat_cmp (key x) (key y) ≡ Greater = flips (key y) (key x) (gap.below 0 y (omega arith)) in
      let rest : put (on key nat_cmp) x ys ≡ insert ys i x = put_gap x ys i (gap_tail y ys (key x) i gap) in
      put_cases (on key nat_cmp) x (λ zs. zs ≡ y ∷ insert ys i x) y ys
      (λ above e. absurd (less≢greater (sym e ∙ greater))) (λ above e. absurd (equal≢greater (sym e ∙ greater)))
      (λ above e. ap (λ zs. y ∷ zs) (sym (put_first (on key nat_cmp) x ys above) ∙ rest))
      (λ late. ap (λ zs. y ∷ zs) rest)

  all_kept : (xs : List A) (k : ℕ) → ((j : ℕ) (d : A) → j < length xs → key (get_or xs j d) ≢ k)
      → filter (λ x. not (key x == k)) xs ≡ xs
  all_kept [] k absent = refl
  all_kept (x ∷ xs) k absent =
      ap (λ b. cond (not b) (x ∷ filter (λ y. not (key y == k)) xs) (filter (λ y. not (key y == k)) xs))
      (differs (key x) k (absent 0 x (omega arith)))
      ∙ ap (λ ys. x ∷ ys) (all_kept xs k (λ j d lt. absent (suc j) d (omega arith)))

  -- to take the thing of a number out is to keep the others
  pub remove_at : (xs : List A) (k i : ℕ) → IsAt key xs k i → remove xs i ≡ filter (λ x. not (key x == k)) xs
  remove_at [] k i at = absurd (let w : i < 0 = at.within in omega (arith, w))
  remove_at (x ∷ xs) k zero at =
      sym (ap (λ b. cond (not b) (x ∷ filter (λ y. not (key y == k)) xs) (filter (λ y. not (key y == k)) xs))
      (same (key x) k (at.here x))
      ∙ all_kept xs k (λ j d lt. at.others (suc j) d (omega arith) (omega arith)))
  remove_at (x ∷ xs) k (suc i) at =
      ap (λ ys. x ∷ ys) (remove_at xs k i (is_at_tail x xs k i at))
      ∙ sym (ap (λ b. cond (not b) (x ∷ filter (λ y. not (key y == k)) xs) (filter (λ y. not (key y == k)) xs))
      (differs (key x) k (at.others 0 x (omega arith) (omega arith))))

  -- whether there is one, at its index and in a gap
  pub any_at : (xs : List A) (k i : ℕ) → IsAt key xs k i → list_any (λ x. key x == k) xs ≡ true
  any_at [] k i at = absurd (let w : i < 0 = at.within in omega (arith, w))
  any_at (x ∷ xs) k zero at = ap (λ b. b || list_any (λ y. key y == k) xs) (same (key x) k (at.here x))
  any_at (x ∷ xs) k (suc i) at = ap (λ b. key x == k || b) (any_at xs k i (is_at_tail x xs k i at))
      ∙ or_true (key x == k)

  none_among : (xs : List A) (k : ℕ) → ((j : ℕ) (d : A) → j < length xs → key (get_or xs j d) ≢ k)
      → list_any (λ x. key x == k) xs ≡ false
  none_among [] k absent = refl
  none_among (x ∷ xs) k absent =
      ap (λ b. b || list_any (λ y. key y == k) xs) (differs (key x) k (absent 0 x (omega arith)))
      ∙ none_among xs k (λ j d lt. absent (suc j) d (omega arith))

  pub any_gap : (xs : List A) (k i : ℕ) → IsGap key xs k i → list_any (λ x. key x == k) xs ≡ false
  any_gap xs k i gap = none_among xs k (λ j d lt same. elim (cases_lt j i) [
    | inl below ↦ omega (arith, gap.below j d below)
    | inr above ↦ omega (arith, gap.above j d above lt)
  ])

  passed_over : (x y : A) (n : ℕ) (a b : Bool) (o : Option A) → key x == n ≡ a → key y == n ≡ b → key y < key x
      → cond b (Some y) (cond a (Some x) o) ≡ cond a (Some x) (cond b (Some y) o)
  passed_over x y n true true o e f lt =
      absurd (let h : key x ≡ n = (Decides-eqb (key x) n).0 e in let g : key y ≡ n = (Decides-eqb (key y) n).0 f in
      omega (arith, h, g, lt))
  passed_over x y n true false o e f lt = refl
  passed_over x y n false true o e f lt = refl
  passed_over x y n false false o e f lt = refl

  find_insert : (x : A) (xs : List A) (i n : ℕ) → IsGap key xs (key x) i
      → find (λ y. key y == n) (insert xs i x) ≡ cond (key x == n) (Some x) (find (λ y. key y == n) xs)
  find_insert x xs zero n gap = refl
  find_insert x [] (suc i) n gap = refl
  find_insert x (y ∷ ys) (suc i) n gap =
      ap (λ o. cond (key y == n) (Some y) o) (find_insert x ys i n (gap_tail y ys (key x) i gap))
      ∙ passed_over x y n (key x == n) (key y == n) (find (λ z. key z == n) ys) refl refl (gap.below 0 y (omega arith))

  -- as a map: the number has the new thing, and every other number what it had
  pub find_put : (x : A) (xs : List A) (i n : ℕ) → IsGap key xs (key x) i
      → find (λ y. key y == n) (put (on key nat_cmp) x xs) ≡ cond (key x == n) (Some x) (find (λ y. key y == n) xs)
  find_put x xs i n gap = ap (find (λ y. key y == n)) (put_gap x xs i gap) ∙ find_insert x xs i n gap

  kept_or_not : (x : A) (k n : ℕ) (a b : Bool) (rest : List A) (o : Option A) → key x == k ≡ a → key x == n ≡ b
      → find (λ y. key y == n) rest ≡ cond (n == k) None o
      → find (λ y. key y == n) (cond (not a) (x ∷ rest) rest) ≡ cond (n == k) None (cond b (Some x) o)
  kept_or_not x k n true true rest o e f h = h ∙ ap (λ t. cond t None o) both
      ∙ sym (ap (λ t. cond t None (Some x)) both)
    where
      both : n == k ≡ true
      both = same n k (sym ((Decides-eqb (key x) n).0 f) ∙ (Decides-eqb (key x) k).0 e)
  kept_or_not x k n true false rest o e f h = h
  kept_or_not x k n false true rest o e f h = ap (λ t. cond t (Some x) (find (λ y. key y == n) rest)) f
      ∙ sym (ap (λ t. cond t None (Some x)) other)
    where
      other : n == k ≡ false
      other = differs n k (λ s. false≢true (sym e ∙ same (key x) k ((Decides-eqb (key x) n).0 f ∙ s)))
  kept_or_not x k n false false rest o e f h = ap (λ t. cond t (Some x) (find (λ y. key y == n) rest)) f ∙ h

  -- as a map: the number has nothing, and every other number what it had
  pub find_without : (xs : List A) (k n : ℕ) → find (λ y. key y == n) (filter (λ y. not (key y == k)) xs)
      ≡ cond (n == k) None (find (λ y. key y == n) xs)
  find_without [] k n = by_test (n == k)
    where
      by_test : (t : Bool) → ◌≡◌ {A = Option A} None (cond t None None)
      by_test true = refl
      by_test false = refl
  find_without (x ∷ xs) k n = kept_or_not x k n (key x == k) (key x == n) (filter (λ y. not (key y == k)) xs)
      (find (λ y. key y == n) xs) refl refl (find_without xs k n)

  pub without_gap : (xs : List A) (k i : ℕ) → IsGap key xs k i → filter (λ x. not (key x == k)) xs ≡ xs
  without_gap xs k i gap = all_kept xs k (λ j d lt same. elim (cases_lt j i) [
    | inl below ↦ omega (arith, gap.below j d below)
    | inr above ↦ omega (arith, gap.above j d above lt)
  ])
