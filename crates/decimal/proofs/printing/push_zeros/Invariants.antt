use Rattle.decimal.proofs.Common.{◌≡◌, ◌++◌, replicate}
use Rattle.decimal.proofs.printing.push_zeros.Given as goal

abbrev pub invariant-loop : goal.invariant-loop
invariant-loop l = l.text.bytes ≡ l.initial.text.bytes ++ replicate l.counter 48
