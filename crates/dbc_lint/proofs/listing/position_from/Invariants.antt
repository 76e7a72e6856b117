use Rattle.dbc_lint.proofs.Common.{◌≡◌, ◌≤◌, ◌+◌}
use Rattle.dbc_advice.specs.Position.{position_at}
use Rattle.dbc_lint.proofs.listing.position_from.Given as goal

abbrev pub invariant-loop-next : goal.invariant-loop-next
invariant-loop-next l = record {
  is : record { line = l.line; column = l.column } ≡ position_at l.text l.next;
  line : l.line ≤ l.next + 1;
  column : l.column ≤ l.next + 1;
}
