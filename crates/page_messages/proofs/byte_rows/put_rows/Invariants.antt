use Rattle.page_messages.specs.Layouts.{AreInOrder}
use Rattle.page_messages.proofs.RowsDrawn.{RowsLeft}
use Rattle.page_messages.proofs.byte_rows.put_rows.Given as goal

abbrev pub invariant-loop-bit : goal.invariant-loop-bit
invariant-loop-bit l = AreInOrder l.held l.length
    → RowsLeft l.held l.length l.bit-index l.next l.initial.page l.page
