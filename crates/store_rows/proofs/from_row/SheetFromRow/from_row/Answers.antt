use Rattle.store_rows.proofs.Common.{IfOk-weaker}
use Rattle.store_rows.proofs.from_row.SheetFromRow.from_row.Goals as goal

pub returns : goal.returns
returns c =
    IfOk-weaker c.sheet_at.result _ _ (λ it found other shows. found shows.text other shows.body shows.reads)
    c.sheet_at.ensures
