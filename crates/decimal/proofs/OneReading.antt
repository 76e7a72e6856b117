-- Bytes are read in one way.
use Rattle.decimal.proofs.Common.{◌≡◌, ℕ, Bool, List, inl, inr, refl, ap, subst, arith, unsigned_abs, Result, Ok, Err}
use Rattle.decimal.specs.Number.{Number, SameValue, IsInRange, IsDecimal}
use Rattle.decimal.specs.Spelling.{Writes, number_of}
use Rattle.decimal.specs.Reading.{IsStripped, ReadsNumber}
use Rattle.decimal.specs.declared.fault.DecimalFault.{DecimalFault}
use Rattle.decimal.specs.declared.fault.DecimalFault.TheVariants.{NotNumber, TooManyDigits, ExponentRange}
use Rattle.decimal.proofs.Tokens.{same_token}
use Rattle.decimal.proofs.Values.{same_sym, same_trans, same_decimal, same_stripped, same_zero, zero_or_stripped}
use Rattle.decimal.proofs.Values.{zero_stripped}

pub same_written : (negative : Bool) (bytes : List ℕ) (m n : Number) → Writes negative bytes m → Writes negative bytes n
    → SameValue m n
same_written negative bytes m n p q =
    let one : number_of negative p.spelling ≡ number_of negative q.spelling =
    ap (number_of negative) (same_token bytes p.spelling q.spelling p.token q.token) in
    let there : SameValue m (number_of negative q.spelling) = subst (λ (x : Number). SameValue m x) one p.value in
    same_trans m (number_of negative q.spelling) n there (same_sym n (number_of negative q.spelling) q.value)

decimal_stripped : (m n : Number) → IsDecimal m → IsStripped n → SameValue m n → m ≡ n
decimal_stripped m n p q same =
    elim (zero_or_stripped m p) [
      | inl zero_m ↦ absurd (zero_stripped n (same_zero m n zero_m.0 same) q)
      | inr h ↦ same_stripped m n h q same
    ]

not_long : (negative : Bool) (bytes : List ℕ) (m : Number) → ReadsNumber negative bytes (Ok m)
    → ReadsNumber negative bytes (Err TooManyDigits) → ⊥
not_long negative bytes m p (n, w, h, long) =
    let e = decimal_stripped m n p.1 h (same_written negative bytes m n p.0 w) in
    let short = p.1.digits in
    let size = ap (λ (x : Number). unsigned_abs x.mantissa) e in
    omega (arith, short, size, long)

not_far : (negative : Bool) (bytes : List ℕ) (m : Number) → ReadsNumber negative bytes (Ok m)
    → ReadsNumber negative bytes (Err ExponentRange) → ⊥
not_far negative bytes m p (n, w, h, short, far) =
    let e = decimal_stripped m n p.1 h (same_written negative bytes m n p.0 w) in
    far (subst (λ (x : Number). IsInRange x.exponent) e p.1.range)

not_both : (negative : Bool) (bytes : List ℕ) → ReadsNumber negative bytes (Err TooManyDigits)
    → ReadsNumber negative bytes (Err ExponentRange) → ⊥
not_both negative bytes (m, v, g, long) (n, w, h, short, far) =
    let size = ap (λ (x : Number). unsigned_abs x.mantissa)
    (same_stripped m n g h (same_written negative bytes m n v w)) in
    omega (arith, short, size, long)

pub reads_once : (negative : Bool) (bytes : List ℕ) (r q : Result Number DecimalFault) → ReadsNumber negative bytes r
    → ReadsNumber negative bytes q → r ≡ q
reads_once negative bytes (Ok m) (Ok n) p q = ap Ok (same_decimal m n p.1 q.1 (same_written negative bytes m n p.0 q.0))
reads_once negative bytes (Ok m) (Err NotNumber) p q = absurd (q p.0.spelling p.0.token)
reads_once negative bytes (Ok m) (Err TooManyDigits) p q = absurd (not_long negative bytes m p q)
reads_once negative bytes (Ok m) (Err ExponentRange) p q = absurd (not_far negative bytes m p q)
reads_once negative bytes (Err NotNumber) (Ok n) p q = absurd (p q.0.spelling q.0.token)
reads_once negative bytes (Err NotNumber) (Err NotNumber) p q = refl
reads_once negative bytes (Err NotNumber) (Err TooManyDigits) p q = absurd (p q.1.spelling q.1.token)
reads_once negative bytes (Err NotNumber) (Err ExponentRange) p q = absurd (p q.1.spelling q.1.token)
reads_once negative bytes (Err TooManyDigits) (Ok n) p q = absurd (not_long negative bytes n q p)
reads_once negative bytes (Err TooManyDigits) (Err NotNumber) p q = absurd (q p.1.spelling p.1.token)
reads_once negative bytes (Err TooManyDigits) (Err TooManyDigits) p q = refl
reads_once negative bytes (Err TooManyDigits) (Err ExponentRange) p q = absurd (not_both negative bytes p q)
reads_once negative bytes (Err ExponentRange) (Ok n) p q = absurd (not_far negative bytes n q p)
reads_once negative bytes (Err ExponentRange) (Err NotNumber) p q = absurd (q p.1.spelling p.1.token)
reads_once negative bytes (Err ExponentRange) (Err TooManyDigits) p q = absurd (not_both negative bytes q p)
reads_once negative bytes (Err ExponentRange) (Err ExponentRange) p q = refl
