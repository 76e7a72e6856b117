use Rattle.office_import.proofs.Sides.{Rises}
use Rattle.office_import.proofs.numbers.are_rising.Given as goal

abbrev pub invariant-loop-i : goal.invariant-loop-i
invariant-loop-i l = Rises l.blocks l.i
