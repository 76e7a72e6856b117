use Rattle.dbc_lint.proofs.Common.{◌≡◌, ◌-ℤ◌, unsigned_abs, arith, ints}
use Rattle.dbc_lint.proofs.LongNumbers.{as_written}
use Rattle.dbc_lint.proofs.numbers.written.Goals as goal

pub returns-clause-value : goal.returns-clause-value
returns-clause-value c =
    let own = c.from.ensures in
    let other = c.from-2.ensures in
    let size = c.unsigned_abs.ensures.value in
    let exponent = c.exponent.ensures.value in
    let low = c.exponent.ensures.decimal.range.low in
    let high = c.exponent.ensures.decimal.range.high in
    let fits = c.ranges.exponent in
    let zeros : c.unsigned_abs.result ≡ unsigned_abs (c.args.number.now.exponent -ℤ c.args.exponent) =
    omega (arith, ints, own, other, size, exponent, low, high, fits) in
    as_written c.args.number.now c.args.exponent c.mantissa.result c.unsigned_abs.result c.with_zeros.result
    c.mantissa.ensures.decimal c.mantissa.ensures.value zeros c.with_zeros.ensures.value
