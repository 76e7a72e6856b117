use Rattle.std.proofs.Common.{ℕ, List, ◌++◌, ap, ◌∙◌}
use Rattle.office_views.specs.Text.{byte_line}
use Rattle.columns.proofs.Pieces.{numbers_more}
use Rattle.office_views.proofs.text.byte_lines.Goals as goal

pub loop-byte-preserved : goal.loop-byte-preserved
loop-byte-preserved c =
    numbers_more (byte_line c.args.signals.now) c.loop-byte.byte c.loop-byte.lines.items c.in_ok-byte_line.field-0.items
    c.extend_from_slice.new.self.items
    c.loop-byte.invariant c.in_ok-byte_line.ensures
    (c.in_ok-extend_from_slice.ensures.items ∙ ap (λ (v : List ℕ). c.loop-byte.lines.items ++ v) c.deref.ensures.value)
