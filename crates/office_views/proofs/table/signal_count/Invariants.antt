use Rattle.std.proofs.Common.{◌≡◌, ◌+◌, ◌*◌, ◌≤◌, ℕ, List, drop}
use Rattle.dbc_sheet.specs.declared.message.Message.{Message}
use Rattle.office_views.specs.Table.{signal_count}
use Rattle.office_views.proofs.table.signal_count.Given as goal

-- the later ones are still to be counted, and each message has 4,096 at most
pub record Counted (count index : ℕ) (messages : List Message) : Type 0 where
  pub whole : count + signal_count (drop index messages) ≡ signal_count messages
  pub bound : count ≤ 4096 * index

abbrev pub invariant-loop-message : goal.invariant-loop-message
invariant-loop-message l = Counted l.count l.message-index l.message-items
