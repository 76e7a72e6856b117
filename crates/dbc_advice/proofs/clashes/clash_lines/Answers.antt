use Rattle.dbc_advice.proofs.Common.{ℕ, List, ◌++◌, ap, ◌∙◌}
use Rattle.dbc_advice.specs.Clashes.{IsClashLine}
use Rattle.dbc_advice.specs.declared.reasons.ClashReason.{ClashReason}
use Rattle.dbc_advice.proofs.ReportedLines.{line_after}
use Rattle.dbc_advice.proofs.clashes.clash_lines.Goals as goal

pub loop-reason-preserved : goal.loop-reason-preserved
loop-reason-preserved c =
    line_after (λ (r : ClashReason). IsClashLine c.args.source.name.now c.args.source.text.now (c.args.message.now, r))
    c.args.reasons.now c.loop-reason.reason-index _ c.loop-reason.lines.items c.in_ok-line.line.items
    c.extend_from_slice.new.self.items
    c.loop-reason-test.true c.loop-reason.invariant c.in_ok-line.ensures
    (c.in_ok-extend_from_slice.ensures.items
    ∙ ap (λ (v : List ℕ). c.loop-reason.lines.items ++ v) c.deref.ensures.value)
