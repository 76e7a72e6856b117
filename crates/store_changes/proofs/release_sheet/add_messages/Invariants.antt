use Rattle.store_changes.proofs.Common.{◌≡◌}
use Rattle.store_changes.proofs.release_sheet.add_messages.Given as goal

abbrev pub invariant-loop-message : goal.invariant-loop-message
invariant-loop-message l = l.sheet ≡ record l.initial.sheet { messages = l.sheet.messages }
