use Rattle.page_changes.proofs.Common.{◌≡◌, ◌++◌, filter, length, map}
use Rattle.page_changes.specs.Changes.{is_beside, is_of_message, list_of, messages_in}
use Rattle.page_changes.specs.Parts.{parts_by}
use Rattle.page_changes.proofs.changes.message_changes.Given as goal

abbrev pub invariant-loop-first : goal.invariant-loop-first
invariant-loop-first l =
    map list_of l.messages.items ++ filter is_of_message (parts_by is_beside l.rest) ≡ messages_in l.differences

abbrev pub decreases-loop-first : goal.decreases-loop-first
decreases-loop-first l = length l.rest
