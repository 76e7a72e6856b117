use Rattle.page_numbers.proofs.Common.{take, flat_map, Becomes, adding}
use Rattle.page_numbers.specs.Spns.{row_item}
use Rattle.page_numbers.proofs.spns.put_rows.Given as goal

abbrev pub invariant-loop-row : goal.invariant-loop-row
invariant-loop-row l = Becomes l.page (adding (flat_map row_item (take l.row-index l.rows)) l.initial.page)
