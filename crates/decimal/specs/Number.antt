-- Numbers as a whole mantissa times a power of ten, and when two of them have the same value.
use Rattle.std.specs.Prelude.{◌≡◌, ◌^◌, ◌<◌, ◌%◌, ℤ, pos, negsuc, ◌*ℤ◌, ◌-ℤ◌, ◌≤ℤ◌, unsigned_abs}
use Rattle.std.specs.Int.{int_min}

-- the mantissa times ten to the exponent
pub record Number : Type 0 where
  pub mantissa : ℤ
  pub exponent : ℤ

-- the mantissa that writes the number at the exponent k, which is no greater than its own
abbrev pub mantissa_at : Number → ℤ → ℤ
mantissa_at n k = n.mantissa *ℤ pos (10 ^ unsigned_abs (n.exponent -ℤ k))

-- Two numbers have the same value if their mantissas, scaled to the lesser of their exponents, are equal.
pub record SameValue (m n : Number) : Type 0 where
  pub equal : mantissa_at m (int_min m.exponent n.exponent) ≡ mantissa_at n (int_min m.exponent n.exponent)

-- an exponent that a decimal may have
pub record IsInRange (exponent : ℤ) : Type 0 where
  pub low : negsuc 399 ≤ℤ exponent
  pub high : exponent ≤ℤ pos 400

-- A decimal: at most 36 digits, an exponent in range, and a zero at the end of the mantissa only in
-- zero itself, which is 0 times ten to the 0.
pub record IsDecimal (n : Number) : Type 0 where
  pub digits : unsigned_abs n.mantissa < 10 ^ 36
  pub range : IsInRange n.exponent
  pub stripped : unsigned_abs n.mantissa % 10 ≡ 0 → (n.mantissa ≡ pos 0) × (n.exponent ≡ pos 0)
