use Rattle.dbc_compare.proofs.Common.{◌≡◌, ◌+◌, drop}
use Rattle.dbc_compare.specs.Differences.{below}
use Rattle.dbc_compare.proofs.messages.below.Given as goal

-- as many as were passed, and those of the messages that are left
abbrev pub invariant-loop-message : goal.invariant-loop-message
invariant-loop-message l = record {
  passed : l.count ≡ l.message-index;
  left : below l.number l.messages ≡ l.count + below l.number (drop l.message-index l.messages);
}
