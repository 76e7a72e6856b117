use Rattle.decimal.proofs.Common.{◌≡◌, ◌*◌, ◌^◌}
use Rattle.decimal.proofs.plain.without_zeros.Given as goal

abbrev pub invariant-loop-zeros : goal.invariant-loop-zeros
invariant-loop-zeros l = l.number ≡ l.left * 10 ^ l.zeros
