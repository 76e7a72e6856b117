use Rattle.decimal.proofs.Common.{arith, ◌≡◌, ◌+◌, ◌-◌}
use Rattle.decimal.proofs.DigitLists.{digits_from_more, one_more_digit}
use Rattle.decimal.proofs.digits.Digits.value.Goals as goal

pub overflow_mul-value : goal.overflow_mul-value
overflow_mul-value c =
    let bound = one_more_digit (c.loop-i.i - c.args.start) c.loop-i.value 0 (omega arith) c.loop-i.invariant.1
    (omega arith) in
    omega (arith, bound)

pub overflow_add-value : goal.overflow_add-value
overflow_add-value c =
    let bound = one_more_digit (c.loop-i.i - c.args.start) c.loop-i.value c.from.result (omega arith)
    c.loop-i.invariant.1 (omega (arith, c.from.ensures)) in
    omega (arith, bound)

pub loop-i-preserved : goal.loop-i-preserved
loop-i-preserved c =
    let bound = one_more_digit (c.loop-i.i - c.args.start) c.loop-i.value c.from.result (omega arith)
    c.loop-i.invariant.1 (omega (arith, c.from.ensures)) in
    let more = digits_from_more c.args.self.now c.args.start c.loop-i.i c.loop-i.value c.at.result (omega arith)
    (omega arith) c.at.ensures.low c.at.ensures.high c.at.ensures.value c.loop-i.invariant.0 in
    let next : c.loop-i.i + 1 - c.args.start ≡ c.loop-i.i - c.args.start + 1 = omega arith in
    (rw c.from.ensures more, rw next bound.0)
