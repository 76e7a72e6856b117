use Rattle.dbc_lint.proofs.Common.{◌≡◌, ◌≤◌, take, count_by}
use Rattle.dbc_lint.specs.OfMessage.{is_over_8}
use Rattle.dbc_lint.proofs.whole.count_over_8.Given as goal

abbrev pub invariant-loop-message : goal.invariant-loop-message
invariant-loop-message l = record {
  counted : l.count ≡ count_by is_over_8 (take l.message-index l.messages);
  few : l.count ≤ l.message-index;
}
