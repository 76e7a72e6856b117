use Rattle.dbc_read.proofs.Common.{◌≡◌, ◌++◌, drop}
use Rattle.dbc_read.specs.Numbers.{line_numbers}
use Rattle.dbc_read.proofs.numbers.numbers_of.Given as goal

abbrev pub invariant-loop-line : goal.invariant-loop-line
invariant-loop-line l = l.set.keys ++ line_numbers (drop l.line-index l.lines) ≡ line_numbers l.lines
