use Rattle.std.proofs.Common.{◌<◌, ◌≤◌, ◌^◌, ℕ, arith}
use Rattle.std.proofs.Math.Nat.{pow-le-pow_right}
use Rattle.office_types.proofs.sought.hexadecimal.Goals as goal

-- a number of at most 8 hexadecimal digits has 32 bits
below : (n i : ℕ) → n < 16 ^ i → i ≤ 8 → n < 4294967296
below n i small few =
    let base : 0 < 16 = omega arith in
    let most : 16 ^ i ≤ 4294967296 = pow-le-pow_right base few in
    omega arith

pub overflow_mul-number : goal.overflow_mul-number
overflow_mul-number c =
    omega (arith, below c.loop-byte.number c.loop-byte.byte-index c.loop-byte.invariant.small (omega arith))

pub overflow_add-number : goal.overflow_add-number
overflow_add-number c =
    omega (
      arith,
      below c.loop-byte.number c.loop-byte.byte-index c.loop-byte.invariant.small (omega arith),
      c.from-in-loop-byte.type_inv,
      c.from-in-loop-byte.ensures,
      c.in_ok-digit.ensures.value.0,
      c.in_ok-digit.ensures.value.1,
    )

pub overflow_cast-result : goal.overflow_cast-result
overflow_cast-result c =
    omega (arith, below c.loop-byte.number c.loop-byte.byte-index c.loop-byte.invariant.small (omega arith))
