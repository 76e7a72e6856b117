use Rattle.page_messages.proofs.Common.{Bool, ap, ◌∙◌}
use Rattle.page_parts.specs.Marks.{has_changed}
use Rattle.page_messages.specs.Signals.{Listed}
use Rattle.page_messages.proofs.Listed.{listed_more}
use Rattle.page_messages.proofs.shown.shown_signals.Goals as goal

pub loop-index-preserved : goal.loop-index-preserved
loop-index-preserved c =
    let marks = c.args.marks.now in
    let message = c.args.message in
    let i = c.loop-index.index in
    let signal = c.index-signals-index.result in
    let row : Bool → Listed = λ b. record { index = i; signal = signal; is_changed = b } in
    listed_more marks message c.args.signals.now i signal c.loop-index.shown.items c.push.new.self.items _
    c.loop-index-test.true c.index-signals-index.is
    (ap row (c.has_changed-has_changed.ensures ∙ ap (has_changed marks message) c.as_bytes.ensures.bytes))
    c.in_ok-push.ensures.items c.loop-index.invariant
