use Rattle.page_changes.proofs.Common.{take}
use Rattle.page_changes.specs.Changes.{AreByNumber, changes_in}
use Rattle.page_changes.specs.Marks.{AreMarks}
use Rattle.page_changes.proofs.marks.message_marks.Given as goal

abbrev pub invariant-loop-message : goal.invariant-loop-message
invariant-loop-message l =
    AreByNumber l.changes
    → AreMarks l.releases (changes_in l.changes) (take l.message-index l.messages) l.marks.items
