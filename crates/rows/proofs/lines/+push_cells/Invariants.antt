use Rattle.rows.proofs.Common.{length}
use Rattle.rows.proofs.lines.+push_cells.Given as goal

abbrev pub decreases-push_cells : goal.decreases-push_cells
decreases-push_cells l = length l.cells.now
