use Rattle.page_changes.proofs.Common.{List, subst, ℕ, Difference, number_of}
use Rattle.page_changes.specs.Changes.{change_at, changes_in}
use Rattle.page_changes.specs.Marks.{IsMark}
use Rattle.page_changes.proofs.MarkRows.{zip_more}
use Rattle.page_changes.proofs.marks.message_marks.Goals as goal

pub loop-message-preserved : goal.loop-message-preserved
loop-message-preserved c sorted =
    let releases = c.args.releases.now in
    let changes = changes_in c.args.changes.now in
    let m = c.message-item.result in
    let mark = c.in_ok-mark.mark in
    zip_more (λ m mark. IsMark releases (number_of m) (change_at changes (number_of m)) mark)
    c.args.messages.now c.loop-message.marks.items c.push.new.self.items c.loop-message.message-index m mark
    c.loop-message-test.true c.message-item.is c.in_ok-push.ensures.items (c.loop-message.invariant sorted)
    (subst (λ (n : ℕ). IsMark releases n (change_at changes n) mark) c.number-number.ensures
    (subst (λ (ds : List Difference). IsMark releases c.number-number.result ds mark) (c.find.ensures sorted)
    c.in_ok-mark.ensures))
