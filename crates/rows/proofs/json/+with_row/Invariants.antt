use Rattle.rows.proofs.Common.{length}
use Rattle.rows.proofs.json.+with_row.Given as goal

abbrev pub decreases-with_row : goal.decreases-with_row
decreases-with_row l = length l.cells.now
