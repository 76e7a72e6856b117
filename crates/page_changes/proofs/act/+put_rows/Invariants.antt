use Rattle.page_changes.proofs.Common.{length}
use Rattle.page_changes.proofs.act.+put_rows.Given as goal

abbrev pub decreases-put_rows : goal.decreases-put_rows
decreases-put_rows l = length l.losses.now
