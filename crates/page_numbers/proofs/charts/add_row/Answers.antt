use Rattle.page_numbers.proofs.Common.{sym}
use Rattle.page_numbers.proofs.SameRows.{same_last}
use Rattle.page_numbers.proofs.charts.add_row.Goals as goal

pub returns : goal.returns
returns c =
    same_last c.args.rows.now.items c.in-Some.last.now c.args.row
    (sym (rw c.deref.ensures.value at c.in-Some.ensures.value)) c.if-last-row.true
