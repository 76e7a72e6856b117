-- Numbers of more than 36 digits.
use Rattle.dbc_lint.proofs.Common.{◌≡◌, ◌<◌, ◌≤◌, ℕ, Bool, true, false, cond, not, ◌&&◌, ℤ, ◌-ℤ◌, unsigned_abs, arith}
use Rattle.dbc_lint.proofs.Common.{refl, sym, ap, subst, ◌∙◌, Some, None, Option, FitsSigned, w16, w128, ints}
use Rattle.dbc_lint.proofs.Common.{to_z-of_z, Number, Signal}
use Rattle.std.proofs.Common.{◌⊎◌, inl, inr, ◌-◌, ◌*◌, ◌^◌, zero, suc, pos, negsuc, neg_ℤ, ◌*ℤ◌, int_le, ◌+ℤ◌}
use Rattle.std.proofs.Common.{option_map, to_z, of_z}
use Rattle.std.specs.Prelude.{int_lt, nat_lt, if◌then◌else◌}
use Rattle.std.specs.Int.{int_min}
use Rattle.std.proofs.lemmas.Bool.{le-ltb, ltb-false, ltb-true, lt-ltb}
use Rattle.std.proofs.lemmas.Int.{fits_signed_from_abs, unsigned_abs-mul}
use Rattle.std.proofs.Math.IntN.{*ℤ-one, zero-*ℤ}
use Rattle.std.proofs.Math.Nat.{mul-le-mul_right, pow-le-pow_right}
use Rattle.decimal.specs.Number.{IsDecimal, mantissa_at}
use Rattle.dbc_lint.specs.Numbers.{are_among, is_above, is_among, physical, scaled_at, scaled_of, short, written}
use Rattle.dbc_lint.specs.declared.range.Scaled.{Scaled}

-- ---- what is short

short_if : (z : ℤ) → unsigned_abs z < 10 ^ 36 → short z ≡ Some z
short_if z lt = rw (lt-ltb (unsigned_abs z) (10 ^ 36) lt) refl

long_if : (z : ℤ) → 10 ^ 36 ≤ unsigned_abs z → short z ≡ None
long_if z le = rw (le-ltb (unsigned_abs z) (10 ^ 36) le) refl

of_test : (b : Bool) (z x : ℤ) → Some x ≡ (if b then Some z else None) → z ≡ x
of_test true z x e = cc
of_test false z x e = absurd cc

-- what it is, if it is short
pub is_itself : (z x : ℤ) → Some x ≡ short z → z ≡ x
is_itself z x e = of_test (nat_lt (unsigned_abs z) (10 ^ 36)) z x e

test_fails : (b : Bool) (z : ℤ) → None ≡ (if b then Some z else None) → b ≡ false
test_fails true z e = absurd cc
test_fails false z e = refl

pub is_long : (z : ℤ) → None ≡ short z → 10 ^ 36 ≤ unsigned_abs z
is_long z e =
    ltb-false (unsigned_abs z) (10 ^ 36) (test_fails (nat_lt (unsigned_abs z) (10 ^ 36)) z e)

-- ---- products

by_size : (z : ℤ) → (FitsSigned w128 z → ⊥) → (b : Bool) → nat_lt (unsigned_abs z) (10 ^ 36) ≡ b → short z ≡ None
by_size z unfit true e =
    absurd (unfit (fits_signed_from_abs w128 z (let lt = ltb-true (unsigned_abs z) (10 ^ 36) e in omega (arith, lt))))
by_size z unfit false e = rw e refl

-- what doesn't fit in 128 bits is long
pub unfit_is_long : (z : ℤ) → (FitsSigned w128 z → ⊥) → short z ≡ None
unfit_is_long z unfit = by_size z unfit (nat_lt (unsigned_abs z) (10 ^ 36)) refl

pub ten_few : (k : ℕ) → k ≤ 36 → 10 ^ k ≤ 10 ^ 36
ten_few k le = pow-le-pow_right (omega arith) le

pub two_few : (k : ℕ) → k ≤ 64 → 2 ^ k ≤ 2 ^ 64
two_few k le = pow-le-pow_right (omega arith) le

size_of : (m : ℤ) → (m ≡ pos 0 → ⊥) → 1 ≤ unsigned_abs m
size_of (pos zero) some = absurd (some refl)
size_of (pos (suc n)) some = omega arith
size_of (negsuc n) some = omega arith

product_long : (s p : ℕ) → 1 ≤ s → 10 ^ 36 ≤ p → 10 ^ 36 ≤ s * p
product_long s p some long = let more = mul-le-mul_right {m = 1} {n = s} p some in omega (arith, more, long)

-- 0 with zeros after it
pub of_nothing : (m : ℤ) (k : ℕ) → m ≡ pos 0 → short (m *ℤ pos (10 ^ k)) ≡ Some (pos 0)
of_nothing m k e = ap short (ap (λ (z : ℤ). z *ℤ pos (10 ^ k)) e ∙ zero-*ℤ (pos (10 ^ k)))

-- another number with more than 36 zeros after it
pub of_many : (m : ℤ) (k : ℕ) → (m ≡ pos 0 → ⊥) → 36 < k → short (m *ℤ pos (10 ^ k)) ≡ None
of_many m k some many =
    let longer : 10 ^ 36 ≤ 10 ^ k = pow-le-pow_right (omega arith) {i = 36} {j = k} (omega (arith, many)) in
    long_if (m *ℤ pos (10 ^ k))
    (subst (λ (n : ℕ). 10 ^ 36 ≤ n) (sym (unsigned_abs-mul m (pos (10 ^ k))))
    (product_long (unsigned_abs m) (10 ^ k) (size_of m some) longer))

pub ruleset zeros_after = (of_nothing, of_many)

-- ---- which of two numbers is greater

self_minus : (z : ℤ) → z -ℤ z ≡ pos 0
self_minus z = omega (arith, ints)

at_own : (n : Number) → mantissa_at n n.exponent ≡ n.mantissa
unfolding lib.IntN.one
at_own n =
    ap (λ (e : ℤ). n.mantissa *ℤ pos (10 ^ unsigned_abs e)) (self_minus n.exponent) ∙ *ℤ-one n.mantissa

below_it : (a : ℕ) (b : ℤ) → unsigned_abs b < a → int_le (pos a) b ≡ false
below_it a b lt = grind (arith, ints)

above_it : (a : ℕ) (b : ℤ) → unsigned_abs b < a → int_le (neg_ℤ (pos a)) b ≡ true
above_it a b lt = grind (arith, ints)

above_all : (a : ℕ) (b : ℤ) → unsigned_abs b < a → int_le b (pos a) ≡ true
above_all a b lt = grind (arith, ints)

below_all : (a : ℕ) (b : ℤ) → unsigned_abs b < a → int_le b (neg_ℤ (pos a)) ≡ false
below_all a b lt = grind (arith, ints)

positive : (n : ℕ) → int_lt (pos 0) (pos (suc n)) ≡ true
positive n = lt-ltb 0 (suc n) (omega arith)

not_negative : (n : ℕ) → int_lt (pos (suc n)) (pos 0) ≡ false
not_negative n = le-ltb (suc n) 0 (omega arith)

first_by_size : (m b : ℤ) (p : ℕ) → unsigned_abs b < 10 ^ 36 → 10 ^ 36 ≤ unsigned_abs (m *ℤ pos p)
    → int_lt (pos 0) m ≡ not (int_le (m *ℤ pos p) b)
first_by_size (pos zero) b p small long =
    absurd (let size = unsigned_abs-mul (pos zero) (pos p) in omega (arith, size, long))
first_by_size (pos (suc n)) b p small long =
    positive n ∙ sym (ap not (below_it (suc n * p) b (omega (arith, small, long))))
first_by_size (negsuc n) b p small long =
    let size = unsigned_abs-mul (negsuc n) (pos p) in
    sym (ap not (above_it (suc n * p) b (omega (arith, small, long, size))))

second_by_size : (m a : ℤ) (p : ℕ) → unsigned_abs a < 10 ^ 36 → 10 ^ 36 ≤ unsigned_abs (m *ℤ pos p)
    → int_lt m (pos 0) ≡ not (int_le a (m *ℤ pos p))
second_by_size (pos zero) a p small long =
    absurd (let size = unsigned_abs-mul (pos zero) (pos p) in omega (arith, size, long))
second_by_size (pos (suc n)) a p small long =
    not_negative n ∙ sym (ap not (above_all (suc n * p) a (omega (arith, small, long))))
second_by_size (negsuc n) a p small long =
    let size = unsigned_abs-mul (negsuc n) (pos p) in
    sym (ap not (below_all (suc n * p) a (omega (arith, small, long, size))))

one_of : (b : Bool) (x y : ℤ) → (cond b y x ≡ x) ⊎ (cond b y x ≡ y)
one_of true x y = inr refl
one_of false x y = inl refl

own_is_short : (n : Number) (k : ℤ) → IsDecimal n → k ≡ n.exponent → unsigned_abs (mantissa_at n k) < 10 ^ 36
own_is_short n k decimal e =
    rw e (subst (λ (z : ℤ). unsigned_abs z < 10 ^ 36) (sym (at_own n)) decimal.digits)

first_at : (m n : Number) (k : ℤ) → IsDecimal m → IsDecimal n → (k ≡ m.exponent) ⊎ (k ≡ n.exponent)
    → 10 ^ 36 ≤ unsigned_abs (mantissa_at m k) → int_lt (pos 0) m.mantissa ≡ not (int_le (mantissa_at m k) (mantissa_at n k))
first_at m n k of_m of_n (inl e) long = absurd (let short = own_is_short m k of_m e in omega (arith, short, long))
first_at m n k of_m of_n (inr e) long =
    first_by_size m.mantissa (mantissa_at n k) (10 ^ unsigned_abs (m.exponent -ℤ k)) (own_is_short n k of_n e) long

second_at : (m n : Number) (k : ℤ) → IsDecimal m → IsDecimal n → (k ≡ m.exponent) ⊎ (k ≡ n.exponent)
    → 10 ^ 36 ≤ unsigned_abs (mantissa_at n k) → int_lt n.mantissa (pos 0) ≡ not (int_le (mantissa_at m k) (mantissa_at n k))
second_at m n k of_m of_n (inl e) long =
    second_by_size n.mantissa (mantissa_at m k) (10 ^ unsigned_abs (n.exponent -ℤ k)) (own_is_short m k of_m e) long
second_at m n k of_m of_n (inr e) long = absurd (let short = own_is_short n k of_n e in omega (arith, short, long))

abbrev lesser : Number → Number → ℤ
lesser m n = int_min m.exponent n.exponent

pub first_long : (m n : Number) → IsDecimal m → IsDecimal n → None ≡ written m (int_min m.exponent n.exponent)
    → is_above m n ≡ int_lt (pos 0) m.mantissa
first_long m n of_m of_n e =
    sym (first_at m n (lesser m n) of_m of_n (one_of (int_lt n.exponent m.exponent) m.exponent n.exponent)
    (is_long (mantissa_at m (lesser m n)) e))

pub second_long : (m n : Number) → IsDecimal m → IsDecimal n → None ≡ written n (int_min m.exponent n.exponent)
    → is_above m n ≡ int_lt n.mantissa (pos 0)
second_long m n of_m of_n e =
    sym (second_at m n (lesser m n) of_m of_n (one_of (int_lt n.exponent m.exponent) m.exponent n.exponent)
    (is_long (mantissa_at n (lesser m n)) e))

greater : (x y : ℤ) → int_lt y x ≡ not (int_le x y)
greater x y = grind (arith, ints)

pub both_short : (m n : Number) (x y : ℤ) → Some x ≡ written m (int_min m.exponent n.exponent)
    → Some y ≡ written n (int_min m.exponent n.exponent) → is_above m n ≡ int_lt y x
both_short m n x y e f =
    sym (greater x y
    ∙ ap (λ (z : ℤ). not (int_le z y)) (sym (is_itself (mantissa_at m (lesser m n)) x e))
    ∙ ap (λ (z : ℤ). not (int_le (mantissa_at m (lesser m n)) z)) (sym (is_itself (mantissa_at n (lesser m n)) y f)))

pub ruleset above = (first_long, second_long, both_short)

-- ---- as they are passed

wide : (z : ℤ) → unsigned_abs z < 10 ^ 36 → to_z w128 (of_z w128 z) ≡ z
wide z small = omega (arith, ints, small)

-- the mantissa of a number, with the zeros that the exponent wants after it
pub as_written : (n : Number) (k m : ℤ) (zeros : ℕ) (r : Option ℤ) → IsDecimal n → m ≡ n.mantissa
    → zeros ≡ unsigned_abs (n.exponent -ℤ k) → r ≡ short (to_z w128 (of_z w128 m) *ℤ pos (10 ^ zeros))
    → r ≡ written n k
as_written n k m zeros r decimal of_m of_zeros of_r =
    of_r
    ∙ ap (λ (z : ℤ). short (z *ℤ pos (10 ^ zeros)))
    (ap (λ (z : ℤ). to_z w128 (of_z w128 z)) of_m ∙ wide n.mantissa decimal.digits)
    ∙ ap (λ (z : ℕ). short (n.mantissa *ℤ pos (10 ^ z))) of_zeros

-- the sign of a first number that is too long
pub first_passes : (m n : Number) (x : Option ℤ) (r : ℤ) → IsDecimal m → IsDecimal n → x ≡ None
    → x ≡ written m (int_min m.exponent n.exponent) → r ≡ m.mantissa
    → int_lt (pos 0) (to_z w128 (of_z w128 r)) ≡ is_above m n
first_passes m n x r of_m of_n none is of_r =
    ap (int_lt (pos 0)) (ap (λ (z : ℤ). to_z w128 (of_z w128 z)) of_r ∙ wide m.mantissa of_m.digits)
    ∙ sym (first_long m n of_m of_n (sym none ∙ is))

by_test : (b : Bool) (z x : ℤ) → nat_lt (unsigned_abs z) (10 ^ 36) ≡ b → Some x ≡ (if b then Some z else None)
    → unsigned_abs x < 10 ^ 36
by_test true z x e is =
    let same : z ≡ x = cc in
    subst (λ (y : ℤ). unsigned_abs y < 10 ^ 36) same (ltb-true (unsigned_abs z) (10 ^ 36) e)
by_test false z x e is = absurd cc

few_digits : (z x : ℤ) → Some x ≡ short z → unsigned_abs x < 10 ^ 36
few_digits z x is = by_test (nat_lt (unsigned_abs z) (10 ^ 36)) z x refl is

sum_passes : (x y : ℤ) → unsigned_abs x < 10 ^ 36 → unsigned_abs y < 10 ^ 36
    → to_z w128 (of_z w128 (to_z w128 (of_z w128 x) +ℤ to_z w128 (of_z w128 y))) ≡ x +ℤ y
sum_passes x y few small = omega (arith, ints, few, small)

pub as_physical : (n : Scaled) (raw product : ℤ) → unsigned_abs n.offset < 10 ^ 36 → FitsSigned w128 raw
    → FitsSigned w128 n.factor
    → Some product ≡ short (to_z w128 (of_z w128 raw) *ℤ to_z w128 (of_z w128 n.factor))
    → Some (to_z w128 (of_z w128 (to_z w128 (of_z w128 product) +ℤ to_z w128 (of_z w128 n.offset))))
    ≡ physical n raw
as_physical n raw product small raw_fits factor_fits is =
    let plain : Some product ≡ short (raw *ℤ n.factor) =
    is ∙ ap (λ (z : ℤ). short (z *ℤ to_z w128 (of_z w128 n.factor))) (to_z-of_z w128 raw raw_fits)
    ∙ ap (λ (z : ℤ). short (raw *ℤ z)) (to_z-of_z w128 n.factor factor_fits) in
    ap Some (sum_passes product n.offset (few_digits (raw *ℤ n.factor) product plain) small)
    ∙ ap (option_map (λ (p : ℤ). p +ℤ n.offset)) plain

-- all numbers of a signal at one exponent
pub as_scaled : (s : Signal) (k e : ℤ) (a b c d : Option ℤ) (r : Option Scaled) → FitsSigned w16 e → e ≡ k
    → a ≡ written s.factor (to_z w16 (of_z w16 e)) → b ≡ written s.offset (to_z w16 (of_z w16 e))
    → c ≡ written s.minimum (to_z w16 (of_z w16 e)) → d ≡ written s.maximum (to_z w16 (of_z w16 e))
    → r ≡ scaled_of a b c d → r ≡ scaled_at s k
as_scaled s k e a b c d r fits of_e of_a of_b of_c of_d of_r =
    let back : to_z w16 (of_z w16 e) ≡ k = to_z-of_z w16 e fits ∙ of_e in
    of_r ∙ ap (λ (o : Option ℤ). scaled_of o b c d) (of_a ∙ ap (written s.factor) back)
    ∙ ap (λ (o : Option ℤ). scaled_of (written s.factor k) o c d) (of_b ∙ ap (written s.offset) back)
    ∙ ap (λ (o : Option ℤ). scaled_of (written s.factor k) (written s.offset k) o d)
    (of_c ∙ ap (written s.minimum) back)
    ∙ ap (scaled_of (written s.factor k) (written s.offset k) (written s.minimum k))
    (of_d ∙ ap (written s.maximum) back)

pub lesser_passes : (x y a b r : ℤ) → FitsSigned w16 x → FitsSigned w16 y → x ≡ a → y ≡ b
    → r ≡ int_min (to_z w16 (of_z w16 x)) (to_z w16 (of_z w16 y)) → r ≡ int_min a b
lesser_passes x y a b r x_fits y_fits of_x of_y of_r =
    of_r ∙ ap (λ (z : ℤ). int_min z (to_z w16 (of_z w16 y))) (to_z-of_z w16 x x_fits ∙ of_x)
    ∙ ap (int_min a) (to_z-of_z w16 y y_fits ∙ of_y)

both : (x y p q : Bool) → x ≡ p → x ≡ true → y ≡ q → y ≡ (p && q)
both x y true q of_x is of_y = of_y
both x y false q of_x is of_y = absurd (let never : true ≡ false = sym is ∙ of_x in cc)

pub among_passes : (a b z : ℤ) (r : Bool) → FitsSigned w128 a → FitsSigned w128 b → FitsSigned w128 z
    → r ≡ is_among (to_z w128 (of_z w128 a)) (to_z w128 (of_z w128 b)) (to_z w128 (of_z w128 z)) → r ≡ is_among a b z
among_passes a b z r a_fits b_fits z_fits of_r =
    of_r ∙ ap (λ (x : ℤ). is_among x (to_z w128 (of_z w128 b)) (to_z w128 (of_z w128 z))) (to_z-of_z w128 a a_fits)
    ∙ ap (λ (x : ℤ). is_among a x (to_z w128 (of_z w128 z))) (to_z-of_z w128 b b_fits)
    ∙ ap (is_among a b) (to_z-of_z w128 z z_fits)

-- the second of two tests, where the first one holds
pub second_among : (n : Scaled) (a b : ℤ) (first second : Bool) → FitsSigned w128 a → FitsSigned w128 b
    → FitsSigned w128 n.minimum → FitsSigned w128 n.maximum
    → first ≡ is_among (to_z w128 (of_z w128 a)) (to_z w128 (of_z w128 b)) (to_z w128 (of_z w128 n.minimum))
    → first ≡ true
    → second ≡ is_among (to_z w128 (of_z w128 a)) (to_z w128 (of_z w128 b)) (to_z w128 (of_z w128 n.maximum))
    → second ≡ are_among n a b
second_among n a b first second a_fits b_fits low_fits high_fits of_first is of_second =
    both first second (is_among a b n.minimum) (is_among a b n.maximum)
    (among_passes a b n.minimum first a_fits b_fits low_fits of_first) is
    (among_passes a b n.maximum second a_fits b_fits high_fits of_second)

-- ---- raw values

-- one less than a number other than 0
minus_one : (n : ℕ) → 1 ≤ n → pos n -ℤ pos 1 ≡ pos (n - 1)
minus_one n some = omega (arith, ints)

two_some : (k : ℕ) → 1 ≤ 2 ^ k
two_some k = pow-le-pow_right {n = 2} (omega arith) {i = 0} {j = k} (omega arith)

pub one_less : (k : ℕ) → pos (2 ^ k) -ℤ pos 1 ≡ pos (2 ^ k - 1)
one_less k = minus_one (2 ^ k) (two_some k)
