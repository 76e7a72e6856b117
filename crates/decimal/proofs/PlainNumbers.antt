-- Numbers of few digits, without an exponent.
use Rattle.decimal.proofs.Common.{◌≡◌, ◌≢◌, ℕ, suc, ◌+◌, ◌-◌, ◌*◌, ◌/◌, ◌^◌, ◌%◌, ◌<◌, ◌≤◌, Bool, true, List, [], ◌∷◌}
use Rattle.decimal.proofs.Common.{◌++◌, length, take, drop, get_or, refl, sym, ap, subst, ◌∙◌, arith, add-one, pow-suc}
use Rattle.decimal.proofs.Common.{mul-one, pos, neg_ℤ, mul-le-mul_right, is_ascii_digit, digit_value, prefix_len}
use Rattle.decimal.proofs.Common.{digits_value, digits_value_after, ints, append-nil, length-take-le, take-append-drop}
use Rattle.decimal.proofs.Common.{prefix_len-le-length}
use Rattle.std.proofs.Math.Nat.{le-mul_of_pos_right}
use Rattle.std.proofs.lemmas.List.{take_all, take_more}
use Rattle.decimal.specs.Spelling.{IsNumberToken, Writes, are_digits, is_fraction, signed}
use Rattle.decimal.proofs.DigitLists.{digit_value_is}
use Rattle.decimal.proofs.Readings.{writes}
use Rattle.decimal.proofs.Significant.{digits_after_append}
use Rattle.decimal.proofs.Tokens.{numeral_from, prefix_all}
use Rattle.decimal.proofs.Values.{ten_pos}

ten_more : (q z : ℕ) → q * 10 ^ (z + 1) ≡ q * 10 * 10 ^ z
ten_more q z = rw (add-one, pow-suc) (omega arith)

-- one zero at the end less
pub ten_out : (n left z : ℕ) → n ≡ left * 10 ^ z → left % 10 ≡ 0 → n ≡ left / 10 * 10 ^ (z + 1)
ten_out n left z e last =
    let whole : left ≡ left / 10 * 10 = omega arith in
    e ∙ ap (λ m. m * 10 ^ z) whole ∙ sym (ten_more (left / 10) z)

-- one digit more
pub digit_more : (n : ℕ) (bs : List ℕ) (i v b : ℕ) → i < length bs → b ≡ get_or bs i 0 → is_ascii_digit b ≡ true
    → v ≡ digits_value_after 10 n (take i bs) → v * 10 + (b - 48) ≡ digits_value_after 10 n (take (i + 1) bs)
digit_more n bs i v b lt is digit before =
    let more : digits_value_after 10 n (take (i + 1) bs) ≡ digits_value_after 10 n (take i bs) * 10 + digit_value
    (get_or bs i 0) =
    ap (digits_value_after 10 n) (take_more bs i 0 lt) ∙ digits_after_append n (take i bs) (get_or bs i 0 ∷ []) in
    let value : digit_value (get_or bs i 0) ≡ b - 48 = ap digit_value (sym is) ∙ digit_value_is b digit in
    omega (arith, more, value, before)

-- so many digits more leave a number in a word
abbrev HasRoom : ℕ → ℕ → Type 0
HasRoom n more = (n + 1) * 10 ^ more ≤ 10 ^ 19

pub room_after : (n d k i : ℕ) → i < k → d < 10 → HasRoom n (k - i) → HasRoom (n * 10 + d) (k - (i + 1))
room_after n d k i lt small room =
    let next : k - i ≡ k - (i + 1) + 1 = omega arith in
    let wider = ten_more (n + 1) (k - (i + 1)) in
    let le : (n * 10 + d + 1) * 10 ^ (k - (i + 1)) ≤ (n + 1) * 10 * 10 ^ (k - (i + 1)) =
    mul-le-mul_right (10 ^ (k - (i + 1))) (omega arith) in
    let before : (n + 1) * 10 ^ (k - (i + 1) + 1) ≤ 10 ^ 19 = subst (λ (m : ℕ). (n + 1) * 10 ^ m ≤ 10 ^ 19) next room in
    omega (arith, wider, le, before)

pub room_left : (n k : ℕ) → HasRoom n k → n < 10 ^ 19
room_left n k room =
    let le = le-mul_of_pos_right {m = 10 ^ k} (n + 1) (ten_pos k) in
    omega (arith, le, room)

-- ---- what the bytes write

plain_token : (bs : List ℕ) (n : ℕ) → n ≡ prefix_len is_ascii_digit bs → n ≢ 0 → is_fraction (drop n bs) ≡ true
    → IsNumberToken bs (record { whole = take n bs; fraction = drop n bs; exponent = [] })
plain_token bs n is some fraction =
    let within = prefix_len-le-length is_ascii_digit bs in
    let size : length (take n bs) ≡ n = length-take-le n bs (omega (arith, is, within)) in
    record {
      parts = sym (ap (λ xs. take n bs ++ xs) (append-nil (drop n bs)) ∙ take-append-drop n bs);
      whole = numeral_from (take n bs) (omega (arith, size, some))
          (subst (λ (k : ℕ). are_digits (take k bs) ≡ true) (sym is) (prefix_all is_ascii_digit bs));
      fraction = fraction;
      exponent = refl;
    }

plain_writes : (bs : List ℕ) (n v k : ℕ) → n ≡ prefix_len is_ascii_digit bs → n ≢ 0 → is_fraction (drop n bs) ≡ true
    → v ≡ digits_value 10 (take n bs ++ drop 1 (drop n bs)) → k ≡ length (drop 1 (drop n bs)) → (negative : Bool)
    → Writes negative bs (record { mantissa = signed negative v; exponent = neg_ℤ (pos k) })
plain_writes bs n v k is some fraction value size negative =
    writes negative bs (record { whole = take n bs; fraction = drop n bs; exponent = [] })
    (plain_token bs n is some fraction) v 0 (neg_ℤ (pos k)) (sym value ∙ sym (mul-one v))
    (omega (arith, ints, size))

nothing : (xs : List ℕ) → length xs < 1 → xs ≡ []
nothing [] few = refl
nothing (x ∷ xs) few = absurd (let some : suc (length xs) < 1 = few in omega arith)

-- digits alone
pub whole_writes : (bs rest : List ℕ) (n v : ℕ) → n ≡ prefix_len is_ascii_digit bs → n ≢ 0
    → v ≡ digits_value_after 10 0 (take n bs) → rest ≡ drop n bs → length rest < 1 → (negative : Bool)
    → Writes negative bs (record { mantissa = signed negative v; exponent = neg_ℤ (pos 0) })
whole_writes bs rest n v is some value back few =
    let end : drop n bs ≡ [] = sym back ∙ nothing rest few in
    plain_writes bs n v 0 is some (ap is_fraction end)
    (value ∙ sym (ap (λ xs. digits_value 10 (take n bs ++ drop 1 xs)) end
    ∙ ap (digits_value 10) (append-nil (take n bs)))) (sym (ap (λ xs. length (drop 1 xs)) end))

-- what follows the first byte of some
abbrev after_first : List ℕ → List ℕ
after_first xs = take (length xs - 1) (drop 1 xs)

with_point : (xs : List ℕ) → 1 ≤ length xs → get_or xs 0 0 ≡ 46 → xs ≡ 46 ∷ after_first xs
with_point [] some point = absurd (omega (arith, some))
with_point (x ∷ xs) some point = λ t. point t ∷ sym (take_all (suc (length xs) - 1) xs (omega arith)) t

-- a point, and digits to the end
pub point_writes : (bs rest : List ℕ) (n m u v : ℕ) → n ≡ prefix_len is_ascii_digit bs → n ≢ 0
    → u ≡ digits_value_after 10 0 (take n bs) → rest ≡ drop n bs → 1 ≤ length rest → get_or rest 0 0 ≡ 46
    → m ≡ prefix_len is_ascii_digit (after_first rest) → length (after_first rest) ≤ m
    → v ≡ digits_value_after 10 u (take m (after_first rest)) → (negative : Bool)
    → Writes negative bs (record { mantissa = signed negative v; exponent = neg_ℤ (pos m) })
point_writes bs rest n m u v is some first back more byte all long second =
    let digits = after_first rest in
    let point : drop n bs ≡ 46 ∷ after_first rest = sym back ∙ with_point rest more byte in
    let within = prefix_len-le-length is_ascii_digit digits in
    let whole : take m (after_first rest) ≡ after_first rest = take_all m digits long in
    let passes : are_digits (after_first rest) ≡ true =
    subst (λ (xs : List ℕ). are_digits xs ≡ true) (ap (λ k. take k digits) (sym all) ∙ whole)
    (prefix_all is_ascii_digit digits) in
    let value : v ≡ digits_value 10 (take n bs ++ after_first rest) = second ∙ ap (digits_value_after 10 u) whole
    ∙ ap (λ k. digits_value_after 10 k digits) first ∙ sym (digits_after_append 0 (take n bs) digits) in
    plain_writes bs n v m is some (ap is_fraction point ∙ passes)
    (value ∙ sym (ap (λ xs. digits_value 10 (take n bs ++ drop 1 xs)) point))
    (let size = ap (λ xs. length (drop 1 xs)) point in omega (arith, size, all, long, within))
