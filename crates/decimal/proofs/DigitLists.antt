-- Lists of digits, and the numbers that they write.
use Rattle.decimal.proofs.Common.{◌≡◌, ℕ, zero, suc, ◌+◌, ◌-◌, ◌*◌, ◌^◌, ◌<◌, ◌≤◌, min, true, List, [], ◌∷◌, length}
use Rattle.decimal.proofs.Common.{take, drop, get_or, refl, sym, ap, ◌∙◌, arith, add-one, pow-suc, is_ascii_digit}
use Rattle.decimal.proofs.Common.{digit_value, digits_value, get_or-drop, length-drop, and_parts, nat_tests}
use Rattle.decimal.proofs.Common.{digits_value_more}
use Rattle.std.proofs.Math.Nat.{pow-le-pow_right}
use Rattle.decimal.specs.Spelling.{are_digits}

pub digit_range : (c : ℕ) → is_ascii_digit c ≡ true → (48 ≤ c) × (c ≤ 57)
digit_range c h = grind (arith, nat_tests)

pub digit_value_is : (c : ℕ) → is_ascii_digit c ≡ true → digit_value c ≡ c - 48
digit_value_is c h = grind (arith, nat_tests)

pub digit_at : (xs : List ℕ) (i : ℕ) → are_digits xs ≡ true → i < length xs → is_ascii_digit (get_or xs i 0) ≡ true
digit_at [] i h lt = absurd (omega (arith, lt))
digit_at (x ∷ xs) zero h lt = (and_parts (is_ascii_digit x) (are_digits xs) h).0
digit_at (x ∷ xs) (suc i) h lt = digit_at xs i (and_parts (is_ascii_digit x) (are_digits xs) h).1 (omega arith)

-- one more digit, to a number that stops at a greatest value
pub capped_more : (xs : List ℕ) (i v r greatest : ℕ) → are_digits xs ≡ true → i < length xs
    → v ≡ min (digits_value 10 (take i xs)) greatest → r ≡ min (v * 10 + (get_or xs i 0 - 48)) greatest
    → r ≡ min (digits_value 10 (take (i + 1) xs)) greatest
capped_more xs i v r greatest digits lt before now =
    let more = digits_value_more 10 xs i lt in
    let value = digit_value_is (get_or xs i 0) (digit_at xs i digits lt) in
    omega (arith, more, value)

digit_value_between : (c : ℕ) → 48 ≤ c → c ≤ 57 → digit_value c ≡ c - 48
digit_value_between c low high = grind (arith, nat_tests)

-- one more digit of those from an index on
pub digits_from_more : (xs : List ℕ) (start i v c : ℕ) → start ≤ i → i < length xs → 48 ≤ c → c ≤ 57 → c ≡ get_or xs i 0
    → v ≡ digits_value 10 (take (i - start) (drop start xs))
    → v * 10 + (c - 48) ≡ digits_value 10 (take (i + 1 - start) (drop start xs))
digits_from_more xs start i v c from lt low high is before =
    let k = i - start in
    let at : get_or (drop start xs) (i - start) 0 ≡ get_or xs i 0 = get_or-drop start xs (i - start) 0
    ∙ ap (λ n. get_or xs n 0) (omega arith) in
    let inside : i - start < length (drop start xs) = rw length-drop (omega arith) in
    let more = digits_value_more 10 (drop start xs) (i - start) inside in
    let next : i + 1 - start ≡ i - start + 1 = omega arith in
    let value = digit_value_between c low high in
    let same : digit_value (get_or (drop start xs) (i - start) 0) ≡ digit_value c = ap digit_value (at ∙ sym is) in
    rw (next, more, same, value, before) refl

pub ten_le : (k n : ℕ) → k ≤ n → 10 ^ k ≤ 10 ^ n
ten_le k n le = pow-le-pow_right (omega arith) le

-- a number of fewer than 36 digits, and one digit more
pub one_more_digit : (k v d : ℕ) → k < 36 → v < 10 ^ k → d < 10 → (v * 10 + d < 10 ^ (k + 1)) × (v * 10 + d < 10 ^ 36)
one_more_digit k v d short lt digit =
    let next : 10 ^ (k + 1) ≡ 10 ^ k * 10 = rw add-one (pow-suc 10 k) in
    let top = ten_le (k + 1) 36 (omega arith) in
    (omega (arith, next), omega (arith, next, top))
