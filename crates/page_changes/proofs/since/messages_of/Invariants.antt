use Rattle.page_changes.proofs.Common.{◌≡◌, ◌++◌, drop, map}
use Rattle.page_changes.specs.Changes.{changes_in, list_of}
use Rattle.page_changes.specs.Fates.{of_fate}
use Rattle.page_changes.proofs.since.messages_of.Given as goal

abbrev pub invariant-loop-message : goal.invariant-loop-message
invariant-loop-message l =
    map list_of l.messages.items ++ of_fate l.fate (map list_of (drop l.message-index l.changes.messages.items))
    ≡ of_fate l.fate (changes_in l.changes)
