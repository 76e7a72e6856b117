-- The digits of a number between the zeros at its ends.
use Rattle.decimal.proofs.Common.{◌≡◌, ◌≢◌, ℕ, suc, ◌+◌, ◌-◌, ◌*◌, ◌^◌, ◌%◌, ◌<◌, ◌≤◌, true, List, [], ◌∷◌, ◌++◌}
use Rattle.decimal.proofs.Common.{length, take, drop, get_or, refl, sym, ap, subst, ◌∙◌, arith, pow-suc}
use Rattle.decimal.proofs.Common.{mul-le-mul_right, zero-mul, inl, inr, is_ascii_digit, digit_value, prefix_len}
use Rattle.decimal.proofs.Common.{suffix_len, digits_value, digits_value_after, eqb-true, cases_lt, get_or-drop}
use Rattle.decimal.proofs.Common.{length-drop, length-take-le, take-append-drop, prefix_len-le-length}
use Rattle.decimal.proofs.Common.{digits_value_more}
use Rattle.std.proofs.Common.{reverse}
use Rattle.std.proofs.lemmas.Bool.{eqb-false}
use Rattle.std.proofs.lemmas.List.{get_or-take, get_or-reverse, length-reverse, drop-drop, drop_more}
use Rattle.std.proofs.lemmas.List.Sums.{prefix_len_passes, prefix_len_stops}
use Rattle.decimal.specs.Spelling.{are_digits}
use Rattle.decimal.specs.Cutting.{is_zero}
use Rattle.decimal.proofs.DigitLists.{digit_at, digit_value_is, digit_range, ten_le}

pub digits_after_append : (n : ℕ) (xs ys : List ℕ)
    → digits_value_after 10 n (xs ++ ys) ≡ digits_value_after 10 (digits_value_after 10 n xs) ys
digits_after_append n [] ys = refl
digits_after_append n (x ∷ xs) ys = digits_after_append (n * 10 + digit_value x) xs ys

abbrev pub AreZeros : List ℕ → Type 0
AreZeros ys = (k : ℕ) → k < length ys → get_or ys k 0 ≡ 48

-- zeros at the end of a number multiply it by ten each
pub digits_after_zeros : (n : ℕ) (ys : List ℕ) → AreZeros ys → digits_value_after 10 n ys ≡ n * 10 ^ length ys
digits_after_zeros n [] h = omega arith
digits_after_zeros n (y ∷ ys) h =
    let first : y ≡ 48 = h 0 (omega arith) in
    let more = digits_after_zeros (n * 10) ys (λ k lt. h (suc k) (omega arith)) in
    let shift : n * 10 + digit_value y ≡ n * 10 = rw first (omega arith) in
    rw (shift, more, pow-suc) (omega arith)

-- and a number is no less for more digits
pub digits_after_ge : (n : ℕ) (ys : List ℕ) → n * 10 ^ length ys ≤ digits_value_after 10 n ys
digits_after_ge n [] = omega arith
digits_after_ge n (y ∷ ys) =
    let more = digits_after_ge (n * 10 + digit_value y) ys in
    let wider : n * 10 * 10 ^ length ys ≤ (n * 10 + digit_value y) * 10 ^ length ys =
    mul-le-mul_right (10 ^ length ys) (omega arith) in
    let next : n * 10 ^ suc (length ys) ≡ n * 10 * 10 ^ length ys = rw pow-suc (omega arith) in
    omega (arith, more, wider, next)

-- ---- the zeros at either end

pub front_zeros : (xs : List ℕ) → AreZeros (take (prefix_len is_zero xs) xs)
front_zeros xs = λ k lt.
    let within = prefix_len-le-length is_zero xs in
    let below : k < prefix_len is_zero xs = rw length-take-le at lt in
    get_or-take (prefix_len is_zero xs) xs k 0 below ∙ eqb-true _ 48 (prefix_len_passes is_zero xs k 0 below)

front_stops : (xs : List ℕ) → prefix_len is_zero xs < length xs → get_or xs (prefix_len is_zero xs) 0 ≢ 48
front_stops xs lt = eqb-false _ 48 (prefix_len_stops is_zero xs 0 lt)

at_back : (xs : List ℕ) (k : ℕ) → k < length xs → get_or (reverse xs) k 0 ≡ get_or xs (length xs - 1 - k) 0
at_back xs k lt = get_or-reverse xs k 0 lt

back_zero : (xs : List ℕ) (i : ℕ) → i < length xs → length xs ≤ i + suffix_len is_zero xs → get_or xs i 0 ≡ 48
back_zero xs i lt late =
    let k : ℕ = length xs - 1 - i in
    let there : length xs - 1 - (length xs - 1 - i) ≡ i = omega arith in
    let passes = prefix_len_passes is_zero (reverse xs) (length xs - 1 - i) 0 (omega arith) in
    ap (λ n. get_or xs n 0) (sym there) ∙ sym (at_back xs (length xs - 1 - i) (omega arith)) ∙ eqb-true _ 48 passes

back_stops : (xs : List ℕ) (end : ℕ) → suc end + suffix_len is_zero xs ≡ length xs → get_or xs end 0 ≢ 48
back_stops xs end e =
    let there : length xs - 1 - suffix_len is_zero xs ≡ end = omega arith in
    let stops = eqb-false _ 48 (prefix_len_stops is_zero (reverse xs) 0 (omega (arith, length-reverse xs))) in
    λ z. stops (at_back xs (suffix_len is_zero xs) (omega arith) ∙ ap (λ n. get_or xs n 0) there ∙ z)

pub back_zeros : (xs : List ℕ) (end : ℕ) → end + suffix_len is_zero xs ≡ length xs → AreZeros (drop end xs)
back_zeros xs end e = λ k lt.
    let inside : end + k < length xs = omega (arith, rw length-drop at lt) in
    get_or-drop end xs k 0 ∙ back_zero xs (end + k) inside (omega arith)

-- ---- the digits between them

abbrev pub core : List ℕ → ℕ → List ℕ
core xs end = take (end - prefix_len is_zero xs) (drop (prefix_len is_zero xs) xs)

pub front_before_end : (xs : List ℕ) (end : ℕ) → suc end + suffix_len is_zero xs ≡ length xs
    → prefix_len is_zero xs ≤ end
front_before_end xs end e =
    elim (cases_lt end (prefix_len is_zero xs)) [
      | inl early ↦ absurd (back_stops xs end e (eqb-true _ 48 (prefix_len_passes is_zero xs end 0 early)))
      | inr le ↦ le
    ]

-- the digits are zeros, the core, and zeros
in_parts : (xs : List ℕ) (end : ℕ) → prefix_len is_zero xs ≤ end
    → xs ≡ take (prefix_len is_zero xs) xs ++ (core xs end ++ drop end xs)
in_parts xs end le =
    let a = prefix_len is_zero xs in
    let there : a + (end - a) ≡ end = omega arith in
    let rest : drop a xs ≡ core xs end ++ drop end xs =
    sym (take-append-drop (end - a) (drop a xs))
    ∙ ap (λ ys. core xs end ++ ys) (drop-drop (end - a) a xs ∙ ap (λ n. drop n xs) there) in
    sym (take-append-drop a xs) ∙ ap (λ ys. take a xs ++ ys) rest

pub core_value : (xs : List ℕ) (end : ℕ) → prefix_len is_zero xs ≤ end → end + suffix_len is_zero xs ≡ length xs
    → digits_value 10 xs ≡ digits_value 10 (core xs end) * 10 ^ suffix_len is_zero xs
core_value xs end le e =
    let a = prefix_len is_zero xs in
    let front : digits_value_after 10 0 (take a xs) ≡ 0 = digits_after_zeros 0 (take a xs) (front_zeros xs)
    ∙ zero-mul (10 ^ length (take a xs)) in
    let back : length (drop end xs) ≡ suffix_len is_zero xs = omega (arith, length-drop end xs) in
    ap (digits_value 10) (in_parts xs end le)
    ∙ digits_after_append 0 (take a xs) (core xs end ++ drop end xs)
    ∙ ap (λ n. digits_value_after 10 n (core xs end ++ drop end xs)) front
    ∙ digits_after_append 0 (core xs end) (drop end xs)
    ∙ digits_after_zeros (digits_value 10 (core xs end)) (drop end xs) (back_zeros xs end e)
    ∙ ap (λ n. digits_value 10 (core xs end) * 10 ^ n) back

-- a digit other than 0
some_digit : (c : ℕ) → is_ascii_digit c ≡ true → c ≢ 48 → (0 < digit_value c) × (digit_value c < 10)
some_digit c digit ne =
    let value = digit_value_is c digit in
    let (low, high) = digit_range c digit in
    (omega (arith, value, low, ne), omega (arith, value, high))

last_digit : (m d : ℕ) → 0 < d → d < 10 → (m * 10 + d) % 10 ≢ 0
last_digit m d some small = λ e. omega (arith, e)

pub core_stripped : (xs : List ℕ) (end : ℕ) → are_digits xs ≡ true → prefix_len is_zero xs ≤ end
    → suc end + suffix_len is_zero xs ≡ length xs → digits_value 10 (core xs (suc end)) % 10 ≢ 0
core_stripped xs end digits le e =
    let a = prefix_len is_zero xs in
    let next : suc end - a ≡ end - a + 1 = omega arith in
    let more = digits_value_more 10 (drop a xs) (end - a) (rw length-drop (omega arith)) in
    let there : a + (end - a) ≡ end = omega arith in
    let at : get_or (drop a xs) (end - a) 0 ≡ get_or xs end 0 = get_or-drop a xs (end - a) 0
    ∙ ap (λ n. get_or xs n 0) there in
    let digit = some_digit (get_or xs end 0) (digit_at xs end digits (omega arith)) (back_stops xs end e) in
    rw (next, more, at) (last_digit (digits_value 10 (take (end - a) (drop a xs))) (digit_value (get_or xs end 0))
    digit.0 digit.1)

pub core_long : (xs : List ℕ) (end : ℕ) → are_digits xs ≡ true → prefix_len is_zero xs < end → end ≤ length xs
    → 36 < end - prefix_len is_zero xs → 10 ^ 36 ≤ digits_value 10 (core xs end)
core_long xs end digits lt within long =
    let a = prefix_len is_zero xs in
    let first = drop_more xs a 0 (omega arith) in
    let digit = some_digit (get_or xs a 0) (digit_at xs a digits (omega arith)) (front_stops xs (omega arith)) in
    let next : end - a ≡ suc (end - a - 1) = omega arith in
    let size : length (take (end - a - 1) (drop (a + 1) xs)) ≡ end - a - 1 =
    length-take-le _ _ (rw length-drop (omega arith)) in
    let more = digits_after_ge (digit_value (get_or xs a 0)) (take (end - a - 1) (drop (a + 1) xs)) in
    let top = ten_le 36 (length (take (end - a - 1) (drop (a + 1) xs))) (omega (arith, size)) in
    let one : 1 * 10 ^ length (take (end - a - 1) (drop (a + 1) xs)) ≤ digit_value (get_or xs a 0) * 10 ^ length
    (take (end - a - 1) (drop (a + 1) xs)) =
    mul-le-mul_right (10 ^ length (take (end - a - 1) (drop (a + 1) xs))) (omega (arith, digit.0)) in
    let below : 10 ^ 36 ≤ digits_value_after 10 (digit_value (get_or xs a 0)) (take (end - a - 1) (drop (a + 1) xs)) =
    omega (arith, top, one, more) in
    let start : digit_value (get_or xs a 0) ≡ 0 * 10 + digit_value (get_or xs a 0) = omega arith in
    rw (first, next) (subst (λ (d : ℕ). 10 ^ 36 ≤ digits_value_after 10 d (take (end - a - 1) (drop (a + 1) xs))) start
    below)
