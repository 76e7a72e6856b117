use Rattle.std.proofs.Common.{arith, ap}
use Rattle.std.proofs.lemmas.Bool.Decides.{nat_tests}
use Rattle.std.specs.Char.{digit_value}
use Rattle.base.proofs.Digits.{past_limit, all_read}
use Rattle.base.proofs.numbers.digits_number.Goals as goal

pub returns-then-next-from : goal.returns-then-next-from
returns-then-next-from c =
    past_limit c.loop-byte.number c.loop-byte.byte-index c.args.bytes.now (omega arith) c.loop-byte.invariant.value
    (omega (
      arith,
      c.if-next-from.true,
      c.in_ok-digit.ensures.value.1,
      ap digit_value c.from.ensures,
      c.from-in-loop-byte.ensures,
      c.from-in-loop-byte-2.ensures,
      c.from-in-loop-byte-3.ensures,
    ))

pub returns : goal.returns
returns c =
    all_read c.loop-byte.number c.loop-byte.byte-index c.args.bytes.now (omega arith) (grind (arith, nat_tests))
    c.loop-byte.invariant.small c.loop-byte.invariant.digits c.loop-byte.invariant.value
