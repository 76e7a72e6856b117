-- Lists that have the same numbers, however often.
use Rattle.page_numbers.proofs.Common.{◌≡◌, ◌+◌, ◌-◌, ◌<◌, ◌≤◌, ◌++◌, ◌∙◌, ℕ, zero, suc, Bool, true, false, List, []}
use Rattle.page_numbers.proofs.Common.{◌∷◌, length, take, get_or, Some, refl, sym, ap, append-nil, append_assoc, arith}
use Rattle.page_numbers.proofs.Common.{◌==◌, flat_map, range_with_len, take_more, flat_map-append, HaveSame, is_taken}
use Rattle.std.proofs.Common.{◌||◌, inl, inr}
use Rattle.std.specs.Prelude.{slice_get}
use Rattle.std.proofs.lemmas.Bool.{cases_Bool}
use Rattle.std.proofs.lemmas.List.Folds.{list_any-append, list_any_at}
use Rattle.std.proofs.lemmas.Option.{get_or_from_slice_get, slice_get_within}

append_taken : (n : ℕ) (xs ys : List ℕ) → is_taken n (xs ++ ys) ≡ (is_taken n xs || is_taken n ys)
append_taken n xs ys = list_any-append (λ t. t == n) xs ys

pub same_refl : (xs ys : List ℕ) → xs ≡ ys → HaveSame xs ys
same_refl xs ys e n = ap (is_taken n) e

pub same_then : (xs ys zs : List ℕ) → HaveSame xs ys → HaveSame ys zs → HaveSame xs zs
same_then xs ys zs a b n = a n ∙ b n

-- nothing is added
pub same_kept : (xs ys : List ℕ) → ys ≡ [] → HaveSame xs (xs ++ ys)
same_kept xs ys e n = ap (is_taken n) (sym (append-nil xs) ∙ ap (λ v. xs ++ v) (sym e))

-- one addition after the other
pub same_more : (start xs ys before after : List ℕ) → HaveSame before (start ++ xs) → HaveSame after (before ++ ys)
    → HaveSame after (start ++ (xs ++ ys))
same_more start xs ys before after first second n =
    second n ∙ append_taken n before ys ∙ ap (λ b. b || is_taken n ys) (first n)
    ∙ sym (append_taken n (start ++ xs) ys) ∙ ap (is_taken n) (append_assoc start xs ys)

-- of one item more
pub same_item : {X : Type 0} (f : X → List ℕ) (xs : List X) (i : ℕ) (x : X) (start before after : List ℕ)
    → i < length xs → x ≡ get_or xs i x → HaveSame before (start ++ flat_map f (take i xs))
    → HaveSame after (before ++ f x) → HaveSame after (start ++ flat_map f (take (i + 1) xs))
same_item f xs i x start before after within is first second =
    same_then after (start ++ (flat_map f (take i xs) ++ f x)) (start ++ flat_map f (take (i + 1) xs))
    (same_more start (flat_map f (take i xs)) (f x) before after first second)
    (same_refl _ _ (ap (λ v. start ++ v)
    (ap (λ v. flat_map f (take i xs) ++ v) (sym (append-nil (f x)))
    ∙ sym (flat_map-append f (take i xs) (x ∷ []))
    ∙ ap (λ y. flat_map f (take i xs ++ y ∷ [])) is ∙ ap (flat_map f) (sym (take_more xs i x within)))))

-- ---- of one number more

range_more : (a n : ℕ) → range_with_len a (suc n) ≡ range_with_len a n ++ (a + n) ∷ []
range_more a zero = let e : a ≡ a + 0 = omega arith in ap (λ k. k ∷ []) e
range_more a (suc n) =
    let e : (a + 1) + n ≡ a + suc n = omega arith in
    ap (λ ks. a ∷ ks) (range_more (a + 1) n ∙ ap (λ k. range_with_len (a + 1) n ++ k ∷ []) e)

further : (from n : ℕ) → from ≤ n → range_with_len from (n + 1 - from) ≡ range_with_len from (n - from) ++ n ∷ []
further from n low =
    let len : n + 1 - from ≡ suc (n - from) = omega arith in
    let last : from + (n - from) ≡ n = omega arith in
    ap (λ v. range_with_len from v) len ∙ range_more from (n - from)
    ∙ ap (λ k. range_with_len from (n - from) ++ k ∷ []) last

pub same_number : (f : ℕ → List ℕ) (from n : ℕ) (start before after : List ℕ) → from ≤ n
    → HaveSame before (start ++ flat_map f (range_with_len from (n - from))) → HaveSame after (before ++ f n)
    → HaveSame after (start ++ flat_map f (range_with_len from (n + 1 - from)))
same_number f from n start before after low first second =
    let done = range_with_len from (n - from) in
    same_then after (start ++ (flat_map f done ++ f n)) (start ++ flat_map f (range_with_len from (n + 1 - from)))
    (same_more start (flat_map f done) (f n) before after first second)
    (same_refl _ _ (ap (λ v. start ++ v)
    (ap (λ v. flat_map f done ++ v) (sym (append-nil (f n))) ∙ sym (flat_map-append f done (n ∷ []))
    ∙ ap (flat_map f) (sym (further from n low)))))

-- ---- the last number again

or_false : (b : Bool) → (b || false) ≡ b
or_false true = refl
or_false false = refl

pub same_last : (xs : List ℕ) (last row : ℕ) → slice_get xs (length xs - 1) ≡ Some last → last ≡ row
    → HaveSame xs (xs ++ row ∷ [])
same_last xs last row there is n = sym (append_taken n xs (row ∷ []) ∙ elim (cases_Bool (row == n)) [
  | inl here ↦
      let found : is_taken n xs ≡ true =
      list_any_at (λ t. t == n) xs (length xs - 1) last (slice_get_within xs (length xs - 1) last there)
      (ap (λ t. t == n) (get_or_from_slice_get xs (length xs - 1) last last there ∙ is) ∙ here) in
      ap (λ b. b || is_taken n (row ∷ [])) found ∙ sym found
  | inr apart ↦ ap (λ b. is_taken n xs || (b || false)) apart ∙ or_false (is_taken n xs)
])
