use Rattle.page_messages.proofs.Common.{◌≡◌, ◌≤◌, range_with_len}
use Rattle.std.specs.List.{count_by}
use Rattle.page_messages.specs.Used.{has_position}
use Rattle.page_messages.proofs.used.used_bits.Given as goal

abbrev pub invariant-loop-position : goal.invariant-loop-position
invariant-loop-position l = record {
  counted : l.count ≡ count_by (has_position l.message.signals) (range_with_len 0 l.position);
  few : l.count ≤ l.position;
}
