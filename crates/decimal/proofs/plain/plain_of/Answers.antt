use Rattle.decimal.proofs.Common.{arith}
use Rattle.decimal.proofs.PlainNumbers.{whole_writes, point_writes}
use Rattle.decimal.proofs.plain.plain_of.Goals as goal

pub returns-in-empty-clause-value : goal.returns-in-empty-clause-value
returns-in-empty-clause-value c =
    let whole = c.leading_digits-whole in
    whole_writes c.args.bytes.now c.split_at.result.1.now whole.result.len whole.result.number whole.ensures.len
    c.if-whole-eq0.false whole.ensures.number c.split_at.ensures.back c.in-empty.len_below

pub returns-else-fraction-digits-clause-value : goal.returns-else-fraction-digits-clause-value
returns-else-fraction-digits-clause-value c =
    let whole = c.leading_digits-whole in
    let fraction = c.leading_digits-fraction in
    point_writes c.args.bytes.now c.split_at.result.1.now whole.result.len fraction.result.len whole.result.number
    fraction.result.number whole.ensures.len c.if-whole-eq0.false whole.ensures.number c.split_at.ensures.back
    c.in-46.len_at_least (omega arith) fraction.ensures.len c.if-fraction-digits.false fraction.ensures.number
