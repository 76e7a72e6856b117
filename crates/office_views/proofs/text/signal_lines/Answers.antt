use Rattle.std.proofs.Common.{ℕ, List, ◌++◌, ap, ◌∙◌}
use Rattle.office_views.specs.Text.{signal_line}
use Rattle.columns.proofs.Pieces.{numbered_more}
use Rattle.office_views.proofs.text.signal_lines.Goals as goal

pub loop-index-preserved : goal.loop-index-preserved
loop-index-preserved c =
    let signals = c.args.signals.now in
    let i = c.loop-index.index in
    numbered_more (λ p. signal_line p.0 p.1) signals i c.index-signals-index.result c.loop-index.lines.items
    c.in_ok-signal_line.field-0.items c.extend_from_slice.new.self.items
    c.loop-index-test.true c.loop-index.invariant
    (c.in_ok-signal_line.ensures ∙ ap (signal_line i) c.index-signals-index.is)
    (c.in_ok-extend_from_slice.ensures.items ∙ ap (λ (v : List ℕ). c.loop-index.lines.items ++ v) c.deref.ensures.value)
