-- A power that is cut to a greatest one leaves the same exponents in range.
use Rattle.decimal.proofs.Common.{◌≡◌, ℕ, suc, ◌^◌, ◌<◌, ◌⊎◌, inl, inr, arith, ℤ, pos, negsuc, neg_ℤ, ◌+ℤ◌, ◌-ℤ◌, ◌≤ℤ◌}
use Rattle.decimal.proofs.Common.{ints, cases_lt}
use Rattle.decimal.specs.Number.{IsInRange}
use Rattle.decimal.specs.Cutting.{capped_power}

pub capped_power_low : (z : ℤ) → neg_ℤ (pos (10 ^ 20)) ≤ℤ capped_power z
capped_power_low (pos n) = omega (arith, ints)
capped_power_low (negsuc n) = omega (arith, ints)

pub capped_power_high : (z : ℤ) → capped_power z ≤ℤ pos (10 ^ 20)
capped_power_high (pos n) = omega (arith, ints)
capped_power_high (negsuc n) = omega (arith, ints)

-- the power is its own cap, or no move of the point brings either into range
pub capped_power_or_out : (z : ℤ) (down up : ℕ) → down < 2 ^ 64 → up < 2 ^ 64 → (capped_power z ≡ z)
    ⊎ ((IsInRange (z -ℤ pos down +ℤ pos up) → ⊥) × (IsInRange (capped_power z -ℤ pos down +ℤ pos up) → ⊥))
capped_power_or_out (pos n) down up d u =
    elim (cases_lt (10 ^ 20) n) [
      | inl far ↦ inr (
        λ r. let h = r.high in absurd (omega (arith, ints, h)),
        λ r. let h = r.high in
            absurd (omega (arith, ints, h)),
      )
      | inr le ↦ inl (omega (arith, ints))
    ]
capped_power_or_out (negsuc n) down up d u =
    elim (cases_lt (10 ^ 20) (suc n)) [
      | inl far ↦ inr (
        λ r. let h = r.low in absurd (omega (arith, ints, h)),
        λ r. let h = r.low in
            absurd (omega (arith, ints, h)),
      )
      | inr le ↦ inl (omega (arith, ints))
    ]
