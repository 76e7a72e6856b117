use Rattle.dbc_advice.proofs.Common.{ℕ, List, ◌++◌, ap, subst, ◌∙◌}
use Rattle.dbc_advice.specs.Explained.{IsFaultLine}
use Rattle.dbc_advice.specs.declared.findings.Reported.{Reported}
use Rattle.dbc_advice.proofs.ReportedLines.{line_after}
use Rattle.dbc_advice.proofs.explaining.fault_lines.Goals as goal

pub loop-one-preserved : goal.loop-one-preserved
loop-one-preserved c =
    line_after (IsFaultLine c.args.source.name.now c.args.source.text.now) c.args.reported.now c.loop-one.one-index
    c.one-item.result c.loop-one.lines.items c.in_ok-line.line.items c.extend_from_slice.new.self.items
    c.loop-one-test.true c.loop-one.invariant
    (subst (λ (t : Reported). IsFaultLine c.args.source.name.now c.args.source.text.now t c.in_ok-line.line.items)
    c.one-item.is c.in_ok-line.ensures)
    (c.in_ok-extend_from_slice.ensures.items ∙ ap (λ (v : List ℕ). c.loop-one.lines.items ++ v) c.deref.ensures.value)
