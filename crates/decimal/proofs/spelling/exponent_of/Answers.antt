use Rattle.decimal.proofs.Common.{drop, arith, inl, inr, ints}
use Rattle.decimal.specs.Spelling.{power_of}
use Rattle.decimal.proofs.Powers.{capped_power_low, capped_power_high, capped_power_or_out}
use Rattle.decimal.proofs.spelling.exponent_of.Goals as goal
use Rattle.decimal.proofs.spelling.exponent_of.Goals.{else-stripped_exponent-via-then-stripped_exponent+else-stripped_exponent-le-GREATEST_EXPONENT}
use Rattle.decimal.proofs.spelling.exponent_of.Goals.{else-stripped_exponent-via-else-stripped_exponent}

pub overflow_add-stripped_exponent : goal.overflow_add-stripped_exponent
overflow_add-stripped_exponent c =
    let low = capped_power_low (power_of (drop 1 c.args.exponent.now)) in
    let high = capped_power_high (power_of (drop 1 c.args.exponent.now)) in
    omega (arith, ints, low, high, c.power.ensures)

pub returns-then-stripped_exponent-le-GREATEST_EXPONENT : goal.returns-then-stripped_exponent-le-GREATEST_EXPONENT
returns-then-stripped_exponent-le-GREATEST_EXPONENT c =
    let low = capped_power_low (power_of (drop 1 c.args.exponent.now)) in
    let high = capped_power_high (power_of (drop 1 c.args.exponent.now)) in
    let is = c.power.ensures in
    elim (capped_power_or_out (power_of (drop 1 c.args.exponent.now)) c.args.fraction_digits c.args.zeros (omega arith)
    (omega arith)) [
      | inl same ↦ (
        record {
          low = omega (arith, ints, low, high, is, same);
          high =
              omega (arith, ints, low, high, is, same);
        },
        omega (arith, ints, low, high, is, same),
      )
      | inr out ↦ absurd (out.1
          (record { low = omega (arith, ints, low, high, is); high = omega (arith, ints, low, high, is) }))
    ]

pub returns-else-stripped_exponent : goal.returns-else-stripped_exponent
returns-else-stripped_exponent c = λ range.
    let low = capped_power_low (power_of (drop 1 c.args.exponent.now)) in
    let high = capped_power_high (power_of (drop 1 c.args.exponent.now)) in
    let is = c.power.ensures in
    let least = range.low in
    let most = range.high in
    elim (capped_power_or_out (power_of (drop 1 c.args.exponent.now)) c.args.fraction_digits c.args.zeros (omega arith)
    (omega arith)) [
      | inl same ↦ elim c.else-stripped_exponent.branch [
        | else-stripped_exponent-via-then-stripped_exponent+else-stripped_exponent-le-GREATEST_EXPONENT w ↦ omega
            (arith, ints, low, high, is, same, least, most)
        | else-stripped_exponent-via-else-stripped_exponent w ↦ omega (arith, ints, low, high, is, same, least, most)
      ]
      | inr out ↦ absurd (out.0 range)
    ]
