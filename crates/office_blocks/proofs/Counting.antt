-- Counts and filters over the numbers of a range, from ascending lists of numbers in it.
use Rattle.office_blocks.proofs.Common.{◌≡◌, ℕ, zero, suc, ◌+◌, ◌-◌, ◌<◌, ◌≤◌, inl, inr, Bool, true, false, ◌&&◌, not}
use Rattle.office_blocks.proofs.Common.{cond, List, [], ◌∷◌, ◌++◌, length, append-nil, refl, sym, ap, ◌∙◌, arith, subst}
use Rattle.office_blocks.proofs.Common.{eq-eqb, count_by, filter, range_with_len, cases_lt, ne_eqb, is_taken}
use Rattle.std.proofs.Common.{◌||◌}
use Rattle.std.proofs.lemmas.List.Sums.{sum_by-cons, length-filter}
use Rattle.std.proofs.lemmas.List.Filters.{length-filter_both}
use Rattle.std.proofs.lemmas.List.FromFn.{length-range_with_len}
use Rattle.office_blocks.specs.Numbers.{AreWithin, left_numbers}

count_cons : (p : ℕ → Bool) (x : ℕ) (xs : List ℕ) → count_by p (x ∷ xs) ≡ cond (p x) 1 0 + count_by p xs
count_cons p x xs = sum_by-cons (λ n. cond (p n) 1 0) x xs

-- tests that agree on the numbers of a range count the same ones
pub count_alike : (p q : ℕ → Bool) (len from : ℕ) → ((n : ℕ) → from ≤ n → n < from + len → p n ≡ q n)
    → count_by p (range_with_len from len) ≡ count_by q (range_with_len from len)
count_alike p q zero from e = refl
count_alike p q (suc len) from e =
    let here : p from ≡ q from = e from (omega arith) (omega arith) in
    let later = count_alike p q len (from + 1) (λ n a b. e n (omega arith) (omega arith)) in
    count_cons p from (range_with_len (from + 1) len)
    ∙ ap (λ b. cond b 1 0 + count_by p (range_with_len (from + 1) len)) here
    ∙ ap (λ k. cond (q from) 1 0 + k) later ∙ sym (count_cons q from (range_with_len (from + 1) len))

-- and they filter the same ones
pub filter_alike : (p q : ℕ → Bool) (len from : ℕ) → ((n : ℕ) → from ≤ n → n < from + len → p n ≡ q n)
    → filter p (range_with_len from len) ≡ filter q (range_with_len from len)
filter_alike p q zero from e = refl
filter_alike p q (suc len) from e =
    let here : p from ≡ q from = e from (omega arith) (omega arith) in
    let later = filter_alike p q len (from + 1) (λ n a b. e n (omega arith) (omega arith)) in
    ap (λ b. cond b (from ∷ filter p (range_with_len (from + 1) len)) (filter p (range_with_len (from + 1) len))) here
    ∙ ap (λ ns. cond (q from) (from ∷ ns) ns) later

pub within_order : (xs : List ℕ) (from to : ℕ) → AreWithin from to xs → from ≤ to
within_order [] from to h = h
within_order (x ∷ xs) from to h = let later = within_order xs (x + 1) to h.1 in let here : from ≤ x = h.0 in omega arith

-- a number below all of them isn't one of them
pub none_below : (xs : List ℕ) (from to n : ℕ) → AreWithin from to xs → n < from → is_taken n xs ≡ false
none_below [] from to n h below = refl
none_below (x ∷ xs) from to n h below =
    let here : from ≤ x = h.0 in
    let later = none_below xs (x + 1) to n h.1 (omega arith) in
    ap (λ b. b || is_taken n xs) (ne_eqb x n (λ e. omega arith)) ∙ later

-- numbers above the first one are the later ones
pub later_alike : (xs : List ℕ) (x n : ℕ) → x < n → is_taken n (x ∷ xs) ≡ is_taken n xs
later_alike xs x n above = ap (λ b. b || is_taken n xs) (ne_eqb x n (λ e. omega arith))

pub first_taken : (xs : List ℕ) (x : ℕ) → is_taken x (x ∷ xs) ≡ true
first_taken xs x = ap (λ b. b || is_taken x xs) (eq-eqb x x refl)

raise : (xs : List ℕ) (from to x : ℕ) → from < x → AreWithin from to (x ∷ xs) → AreWithin (from + 1) to (x ∷ xs)
raise xs from to x above h = (omega arith, h.1)

zero_add : (n : ℕ) → 0 + n ≡ n
zero_add n = omega arith

module _ (q : ℕ → Bool) where
  none_counted : (len from : ℕ) → count_by (λ n. is_taken n [] && q n) (range_with_len from len) ≡ 0
  none_counted zero from = refl
  none_counted (suc len) from = count_cons (λ n. is_taken n [] && q n) from (range_with_len (from + 1) len)
      ∙ ap (λ k. 0 + k) (none_counted len (from + 1))

  -- the numbers of the range that are in the list and pass the test are those of the list that do
  pub count_within : (len : ℕ) (xs : List ℕ) (from to : ℕ) → to ≡ from + len → AreWithin from to xs
      → count_by (λ n. is_taken n xs && q n) (range_with_len from len) ≡ count_by q xs
  count_within len [] from to e h = none_counted len from
  count_within zero (x ∷ xs) from to e h =
      let order = within_order xs (x + 1) to h.1 in let here : from ≤ x = h.0 in absurd (omega arith)
  count_within (suc len) (x ∷ xs) from to e h = elim (cases_lt from x) [
    | inl below ↦
        let p = λ (n : ℕ). is_taken n (x ∷ xs) && q n in
        let not_here : is_taken from (x ∷ xs) ≡ false =
        none_below (x ∷ xs) (from + 1) to from (raise xs from to x below h) (omega arith) in
        let later = count_within len (x ∷ xs) (from + 1) to (omega arith) (raise xs from to x below h) in
        count_cons p from (range_with_len (from + 1) len)
        ∙ ap (λ b. cond (b && q from) 1 0 + count_by p (range_with_len (from + 1) len)) not_here
        ∙ zero_add (count_by p (range_with_len (from + 1) len))
        ∙ later
    | inr above ↦
        let here : from ≤ x = h.0 in
        let same : from ≡ x = omega arith in
        let p = λ (n : ℕ). is_taken n (x ∷ xs) && q n in
        let is_here : is_taken from (x ∷ xs) ≡ true = ap (λ n. is_taken n (x ∷ xs)) same ∙ first_taken xs x in
        let alike = count_alike p (λ n. is_taken n xs && q n) len (from + 1)
        (λ n a b. ap (λ t. t && q n) (later_alike xs x n (omega arith))) in
        let rise : AreWithin (from + 1) to xs = subst (λ v. AreWithin (v + 1) to xs) (sym same) h.1 in
        let later = count_within len xs (from + 1) to (omega arith) rise in
        count_cons p from (range_with_len (from + 1) len)
        ∙ ap (λ b. cond (b && q from) 1 0 + count_by p (range_with_len (from + 1) len)) is_here
        ∙ ap (λ k. cond (q from) 1 0 + k) (alike ∙ later)
        ∙ ap (λ n. cond (q n) 1 0 + count_by q xs) same
        ∙ sym (count_cons q x xs)
  ]

all_counted : (xs : List ℕ) → count_by (λ n. true) xs ≡ length xs
all_counted [] = refl
all_counted (x ∷ xs) = count_cons (λ n. true) x xs ∙ (let e = all_counted xs in omega arith)

and_true : (b : Bool) → b ≡ (b && true)
and_true true = refl
and_true false = refl

-- as many of the numbers of the range are in the list as the list has
pub length_within : (xs : List ℕ) (len from to : ℕ) → to ≡ from + len → AreWithin from to xs
    → count_by (λ n. is_taken n xs) (range_with_len from len) ≡ length xs
length_within xs len from to e h =
    count_alike (λ n. is_taken n xs) (λ n. is_taken n xs && true) len from (λ n a b. and_true (is_taken n xs))
    ∙ count_within (λ n. true) len xs from to e h ∙ all_counted xs

-- and the others are left
pub length_left : (xs : List ℕ) (len from to : ℕ) → to ≡ from + len → AreWithin from to xs
    → length (left_numbers xs from len) + length xs ≡ len
length_left xs len from to e h =
    let inside = length-filter (λ n. is_taken n xs) (range_with_len from len) ∙ length_within xs len from to e h in
    let both = length-filter_both (λ n. is_taken n xs) (λ n. not (is_taken n xs)) (λ n. refl)
    (range_with_len from len) in
    let all = length-range_with_len from len in
    omega arith

-- ---- the numbers that pass a test, one after another

more_if : (b : Bool) (n : ℕ) (xs ys zs : List ℕ) → xs ≡ ys ++ zs → cond b (n ∷ xs) xs ≡ cond b (n ∷ ys) ys ++ zs
more_if true n xs ys zs e = ap (λ v. n ∷ v) e
more_if false n xs ys zs e = e

filter_more : (p : ℕ → Bool) (len from n : ℕ) → from + len ≡ n
    → filter p (range_with_len from (suc len)) ≡ filter p (range_with_len from len) ++ cond (p n) (n ∷ []) []
filter_more p zero from n e = let same : from ≡ n = omega arith in ap (λ k. cond (p k) (k ∷ []) []) same
filter_more p (suc len) from n e =
    more_if (p from) from (filter p (range_with_len (from + 1) (suc len))) (filter p (range_with_len (from + 1) len))
    (cond (p n) (n ∷ []) []) (filter_more p len (from + 1) n (omega arith))

one_further : (p : ℕ → Bool) (from n : ℕ) (b : Bool) → from ≤ n → p n ≡ b
    → filter p (range_with_len from (n + 1 - from))
    ≡ filter p (range_with_len from (n - from)) ++ cond b (n ∷ []) []
one_further p from n b low e =
    let len : n + 1 - from ≡ suc (n - from) = omega arith in
    ap (λ v. filter p (range_with_len from v)) len ∙ filter_more p (n - from) from n (omega arith)
    ∙ ap (λ v. filter p (range_with_len from (n - from)) ++ cond v (n ∷ []) []) e

pub kept_further : (p : ℕ → Bool) (from n : ℕ) (before after : List ℕ) → from ≤ n → p n ≡ true
    → before ≡ filter p (range_with_len from (n - from)) → after ≡ before ++ n ∷ []
    → after ≡ filter p (range_with_len from (n + 1 - from))
kept_further p from n before after low e so is =
    is ∙ ap (λ v. v ++ n ∷ []) so ∙ sym (one_further p from n true low e)

pub passed_further : (p : ℕ → Bool) (from n : ℕ) (before : List ℕ) → from ≤ n → p n ≡ false
    → before ≡ filter p (range_with_len from (n - from)) → before ≡ filter p (range_with_len from (n + 1 - from))
passed_further p from n before low e so =
    so ∙ sym (append-nil (filter p (range_with_len from (n - from)))) ∙ sym (one_further p from n false low e)
