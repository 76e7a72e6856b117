-- When two numbers are one value.
use Rattle.decimal.proofs.Common.{Bool, ◌↔◌, ◌≡◌, ℕ, zero, suc, ◌+◌, ◌-◌, ◌*◌, ◌^◌, ◌%◌, ◌<◌, ◌≤◌, ◌⊎◌, inl, inr, refl}
use Rattle.decimal.proofs.Common.{sym, ap, subst, ◌∙◌, arith, ℤ, pos, negsuc, neg_ℤ, ◌+ℤ◌, ◌-ℤ◌, ◌*ℤ◌, ◌≤ℤ◌}
use Rattle.decimal.proofs.Common.{unsigned_abs, ◌&&◌, pow-suc, ints}
use Rattle.std.proofs.Common.{IsTrue, int_eq, mul_assoc}
use Rattle.std.specs.Int.{int_min}
use Rattle.std.proofs.lemmas.Int.{clamps, unsigned_abs-mul}
use Rattle.std.proofs.lemmas.Nat.{pow-add}
use Rattle.std.specs.Bool.{Decides}
use Rattle.std.proofs.lemmas.Bool.{cases_eq}
use Rattle.std.proofs.lemmas.Bool.Decides.{Decides-and, Decides-int_eq}
use Rattle.std.proofs.Math.Nat.{eq_of_mul-eq-mul_right}
use Rattle.std.proofs.Math.IntN.{zero-*ℤ}
use Rattle.decimal.specs.Reading.{IsStripped}
use Rattle.decimal.specs.Number.{Number, SameValue, IsDecimal}

pub ten_pos : (k : ℕ) → 0 < 10 ^ k
ten_pos zero = omega arith
ten_pos (suc k) = rw pow-suc (omega (arith, ten_pos k))

-- ---- a signed number times a natural one

pub neg-times : (n k : ℕ) → neg_ℤ (pos n) *ℤ pos k ≡ neg_ℤ (pos (n * k))
neg-times zero k = omega (arith, ints)
neg-times (suc n) k = refl

pub times-times : (z : ℤ) (a b : ℕ) → z *ℤ pos a *ℤ pos b ≡ z *ℤ pos (a * b)
times-times (pos n) a b = ap pos (mul_assoc n a b)
times-times (negsuc n) a b = neg-times (suc n * a) b ∙ ap (λ x. neg_ℤ (pos x)) (mul_assoc (suc n) a b)

same_size : (k : ℕ) → 0 < k → (y z : ℤ) → y *ℤ pos k ≡ z *ℤ pos k → unsigned_abs y ≡ unsigned_abs z
same_size k some y z e =
    eq_of_mul-eq-mul_right k some _ _
    (sym (unsigned_abs-mul y (pos k)) ∙ ap unsigned_abs e ∙ unsigned_abs-mul z (pos k))

pub times_cancel : (k : ℕ) → 0 < k → (y z : ℤ) → y *ℤ pos k ≡ z *ℤ pos k → y ≡ z
times_cancel k some (pos a) (pos b) e = ap pos (same_size k some (pos a) (pos b) e)
times_cancel k some (pos a) (negsuc b) e =
    let size : a ≡ suc b = same_size k some (pos a) (negsuc b) e in
    absurd (omega (arith, ints))
times_cancel k some (negsuc a) (pos b) e =
    let size : suc a ≡ b = same_size k some (negsuc a) (pos b) e in
    absurd (omega (arith, ints))
times_cancel k some (negsuc a) (negsuc b) e =
    let size : suc a ≡ suc b = same_size k some (negsuc a) (negsuc b) e in
    ap negsuc (omega arith)

-- ---- lowest terms

one_up : (n j : ℕ) → n * 10 ^ suc j ≡ 10 * (n * 10 ^ j)
one_up n j = rw pow-suc (omega arith)

pub same_lowest : (i j m n : ℕ) → (m % 10 ≡ 0 → ⊥) → (n % 10 ≡ 0 → ⊥) → m * 10 ^ i ≡ n * 10 ^ j → (m ≡ n) × (i ≡ j)
same_lowest zero zero m n p q e = (omega (arith, e), refl)
same_lowest zero (suc j) m n p q e = absurd (p (omega (arith, one_up n j)))
same_lowest (suc i) zero m n p q e = absurd (q (omega (arith, one_up m i)))
same_lowest (suc i) (suc j) m n p q e =
    let r = same_lowest i j m n p q (omega (arith, one_up m i, one_up n j)) in
    (r.0, ap suc r.1)

-- ---- one value, at exponents below both

pub record MeetAt (m n : Number) (i j : ℕ) : Type 0 where
  pub mantissas : m.mantissa *ℤ pos (10 ^ i) ≡ n.mantissa *ℤ pos (10 ^ j)
  pub exponents : m.exponent +ℤ pos j ≡ n.exponent +ℤ pos i

gap_is : (e k : ℤ) → k ≤ℤ e → pos (unsigned_abs (e -ℤ k)) ≡ e -ℤ k
gap_is e k h = omega (arith, ints, clamps)

-- how far the exponent is above the lesser of the two
abbrev gap : Number → Number → ℕ
gap m n = unsigned_abs (m.exponent -ℤ int_min m.exponent n.exponent)

min_turns : (e f : ℤ) → int_min e f ≡ int_min f e
min_turns e f = omega (arith, ints, clamps)

pub meet_from_same : (m n : Number) → SameValue m n → (i : ℕ) × (j : ℕ) × MeetAt m n i j
meet_from_same m n same =
    let k = int_min m.exponent n.exponent in
    let below_m : k ≤ℤ m.exponent = omega (arith, ints, clamps) in
    let below_n : k ≤ℤ n.exponent = omega (arith, ints, clamps) in
    let p = gap_is m.exponent k below_m in
    let q = gap_is n.exponent k below_n in (
      unsigned_abs (m.exponent -ℤ k),
      unsigned_abs (n.exponent -ℤ k),
      record { mantissas = same.equal; exponents = omega (arith, ints, p, q) },
    )

-- scaled further down, they meet again
pub meet_lower : (m n : Number) (i j k : ℕ) → MeetAt m n i j → MeetAt m n (i + k) (j + k)
meet_lower m n i j k meet = record {
  mantissas = rw (
    pow-add 10 i k,
    pow-add 10 j k,
    ← times-times m.mantissa (10 ^ i) (10 ^ k),
    ← times-times n.mantissa (10 ^ j) (10 ^ k),
    meet.mantissas,
  ) refl;
  exponents = let h = meet.exponents in omega (arith, ints, h);
}

-- and where they meet, they meet at the lesser exponent
same_at : (m n : Number) (i j a b k : ℕ) → i ≡ a + k → j ≡ b + k
    → m.mantissa *ℤ pos (10 ^ i) ≡ n.mantissa *ℤ pos (10 ^ j) → m.mantissa *ℤ pos (10 ^ a) ≡ n.mantissa *ℤ pos (10 ^ b)
same_at m n i j a b k p q e =
    times_cancel (10 ^ k) (ten_pos k) _ _
    (times-times m.mantissa (10 ^ a) (10 ^ k) ∙ ap (λ x. m.mantissa *ℤ pos x) (sym (pow-add 10 a k))
    ∙ ap (λ x. m.mantissa *ℤ pos (10 ^ x)) (sym p) ∙ e ∙ ap (λ x. n.mantissa *ℤ pos (10 ^ x)) q
    ∙ ap (λ x. n.mantissa *ℤ pos x) (pow-add 10 b k) ∙ sym (times-times n.mantissa (10 ^ b) (10 ^ k)))

pub same_from_meet : (m n : Number) (i j : ℕ) → MeetAt m n i j → SameValue m n
same_from_meet m n i j meet =
    let k = int_min m.exponent n.exponent in
    let below_m : k ≤ℤ m.exponent = omega (arith, ints, clamps) in
    let below_n : k ≤ℤ n.exponent = omega (arith, ints, clamps) in
    let p = gap_is m.exponent k below_m in
    let q = gap_is n.exponent k below_n in
    let a = unsigned_abs (m.exponent -ℤ k) in
    let b = unsigned_abs (n.exponent -ℤ k) in
    let h = meet.exponents in
    let up : a ≤ i = omega (arith, ints, clamps, p, q, h) in
    record { equal = same_at m n i j a b (i - a) (omega arith) (omega (arith, ints, clamps, p, q, h)) meet.mantissas }

pub same_refl : (m : Number) → SameValue m m
same_refl m = record { equal = refl }

pub same_sym : (m n : Number) → SameValue m n → SameValue n m
same_sym m n same =
    let (i, j, meet) = meet_from_same m n same in
    same_from_meet n m j i (record { mantissas = sym meet.mantissas; exponents = sym meet.exponents })

turn : (i k : ℕ) → i + k ≡ k + i
turn i k = omega arith

pub same_trans : (m n p : Number) → SameValue m n → SameValue n p → SameValue m p
same_trans m n p first second =
    let (i, j, one) = meet_from_same m n first in
    let (k, l, two) = meet_from_same n p second in
    let low_one = meet_lower m n i j k one in
    let low_two = meet_lower n p k l j two in
    let e = one.exponents in
    let f = two.exponents in
    same_from_meet m p (i + k) (l + j) (record {
      mantissas = low_one.mantissas ∙ ap (λ x. n.mantissa *ℤ pos (10 ^ x)) (turn j k) ∙ low_two.mantissas;
      exponents = omega (arith, ints, e, f);
    })

-- ---- each value has at most one number in lowest terms, and one decimal

sizes_meet : (m n : Number) (i j : ℕ) → MeetAt m n i j
    → unsigned_abs m.mantissa * 10 ^ i ≡ unsigned_abs n.mantissa * 10 ^ j
sizes_meet m n i j meet = sym (unsigned_abs-mul m.mantissa (pos (10 ^ i))) ∙ ap unsigned_abs meet.mantissas
    ∙ unsigned_abs-mul n.mantissa (pos (10 ^ j))

pub same_stripped : (m n : Number) → IsStripped m → IsStripped n → SameValue m n → m ≡ n
same_stripped m n p q same =
    let (i, j, meet) = meet_from_same m n same in
    let r = same_lowest i j (unsigned_abs m.mantissa) (unsigned_abs n.mantissa) p.stripped q.stripped
    (sizes_meet m n i j meet) in
    let turned : m.mantissa *ℤ pos (10 ^ i) ≡ n.mantissa *ℤ pos (10 ^ i) = meet.mantissas
    ∙ ap (λ x. n.mantissa *ℤ pos (10 ^ x)) (sym r.1) in
    let mantissas = times_cancel (10 ^ i) (ten_pos i) m.mantissa n.mantissa turned in
    let e = meet.exponents in
    let exponents : m.exponent ≡ n.exponent = omega (arith, ints, r.1, e) in
    λ t. record { mantissa = mantissas t; exponent = exponents t }

zero_times : (z : ℤ) → z ≡ pos 0 → (k : ℕ) → unsigned_abs z * k ≡ 0
zero_times z e k = rw e (omega arith)

-- what has the value of zero has the mantissa 0
pub same_zero : (m n : Number) → m.mantissa ≡ pos 0 → SameValue m n → n.mantissa ≡ pos 0
same_zero m n zero_m same =
    let (i, j, meet) = meet_from_same m n same in
    let e : pos 0 *ℤ pos (10 ^ j) ≡ n.mantissa *ℤ pos (10 ^ j) = zero-*ℤ (pos (10 ^ j)) ∙ sym (zero-*ℤ (pos (10 ^ i)))
    ∙ ap (λ x. x *ℤ pos (10 ^ i)) (sym zero_m) ∙ meet.mantissas in
    sym (times_cancel (10 ^ j) (ten_pos j) (pos 0) n.mantissa e)

pub zero_same : (m n : Number) → m.mantissa ≡ pos 0 → n.mantissa ≡ pos 0 → SameValue m n
zero_same m n p q =
    let k = int_min m.exponent n.exponent in
    record {
      equal = ap (λ x. x *ℤ pos (10 ^ unsigned_abs (m.exponent -ℤ k))) p
          ∙ zero-*ℤ (pos (10 ^ unsigned_abs (m.exponent -ℤ k)))
          ∙ sym (zero-*ℤ (pos (10 ^ unsigned_abs (n.exponent -ℤ k))))
          ∙ ap (λ x. x *ℤ pos (10 ^ unsigned_abs (n.exponent -ℤ k))) (sym q);
    }

pub zero_or_stripped : (m : Number) → IsDecimal m → ((m.mantissa ≡ pos 0) × (m.exponent ≡ pos 0)) ⊎ IsStripped m
zero_or_stripped m d = elim (cases_eq (unsigned_abs m.mantissa % 10) 0)
    [ inl h ↦ inl (d.stripped h) | inr h ↦ inr (record { stripped = h }) ]

pub zero_stripped : (m : Number) → m.mantissa ≡ pos 0 → IsStripped m → ⊥
zero_stripped m e h = h.stripped (rw e refl)

pub same_decimal : (m n : Number) → IsDecimal m → IsDecimal n → SameValue m n → m ≡ n
same_decimal m n p q same =
    elim (zero_or_stripped m p) [
      | inl zero_m ↦ elim (zero_or_stripped n q) [
        | inl zero_n ↦ (λ t. record { mantissa = (zero_m.0 ∙ sym zero_n.0) t; exponent = (zero_m.1 ∙ sym zero_n.1) t })
        | inr h ↦ absurd (zero_stripped n (same_zero m n zero_m.0 same) h)
      ]
      | inr g ↦ elim (zero_or_stripped n q) [
        | inl zero_n ↦ absurd (zero_stripped m (same_zero n m zero_n.0 (same_sym m n same)) g)
        | inr h ↦ same_stripped m n g h same
      ]
    ]

-- decimals are equal exactly where their values are
pub equal_by_value : (r : Bool) (m n : Number) → IsDecimal m → IsDecimal n → (IsTrue r ↔ (m ≡ n))
    → (IsTrue r ↔ SameValue m n)
equal_by_value r m n p q (to, from) =
    (λ t. subst (λ (x : Number). SameValue m x) (to t) (same_refl m), λ same. from (same_decimal m n p q same))

-- and exactly where their mantissas and their exponents are
pub equal_by_parts : (m n : Number) → Decides (int_eq m.mantissa n.mantissa && int_eq m.exponent n.exponent) (m ≡ n)
equal_by_parts m n =
    let parts = Decides-and _ _ (Decides-int_eq m.mantissa n.mantissa) (Decides-int_eq m.exponent n.exponent) in (
      λ h t. record { mantissa = (parts.0 h).0 t; exponent = (parts.0 h).1 t },
      λ e. parts.1 (ap (λ x. x.mantissa) e, ap (λ x. x.exponent) e),
    )
