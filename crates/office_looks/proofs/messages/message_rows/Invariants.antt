use Rattle.office_looks.proofs.Common.{◌≡◌, ◌++◌, ◌+◌, ◌≤◌, drop, filter, map, option_copied, signal_count, owned}
use Rattle.std.proofs.Common.{◌*◌}
use Rattle.office_looks.specs.Messages.{is_wanted, message_row}
use Rattle.office_looks.proofs.messages.message_rows.Given as goal

-- those so far, and those of the messages that are left, each of which has 4,096 signals at most
abbrev pub invariant-loop-index : goal.invariant-loop-index
invariant-loop-index l = record {
  listed : map (message_row l.view) (filter (is_wanted (option_copied l.team)) (owned l.view))
      ≡ l.rows ++ map (message_row l.view) (filter (is_wanted (option_copied l.team)) (drop l.index (owned l.view)));
  counted : signal_count (map (λ p. p.0) (filter (is_wanted (option_copied l.team)) (owned l.view)))
      ≡ l.signals
      + signal_count (map (λ p. p.0) (filter (is_wanted (option_copied l.team)) (drop l.index (owned l.view))));
  few : l.signals ≤ 4096 * l.index;
}
