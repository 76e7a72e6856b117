use Rattle.dbc_advice.proofs.Common.{◌≤◌, ◌-◌, length}
use Rattle.dbc_advice.proofs.faulty_lines.keyword_line_between.Given as goal

abbrev pub invariant-loop-before : goal.invariant-loop-before
invariant-loop-before l = record {
  from : l.start ≤ l.before;
  within : l.before ≤ length l.front;
  front : length l.front ≤ length l.text;
}

abbrev pub decreases-loop-before : goal.decreases-loop-before
decreases-loop-before l = length l.front - l.before
