use Rattle.dbc_advice.proofs.Common.{◌≤◌}
use Rattle.dbc_advice.proofs.faulty_lines.statement_start.Given as goal

abbrev pub invariant-loop-start : goal.invariant-loop-start
invariant-loop-start l = l.start ≤ l.at

abbrev pub decreases-loop-start : goal.decreases-loop-start
decreases-loop-start l = l.start
