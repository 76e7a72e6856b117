use Rattle.office_looks.proofs.Common.{◌≡◌, ◌++◌, drop, filter, map, block_row}
use Rattle.office_looks.specs.Who.{block_rows, has_one}
use Rattle.office_looks.proofs.who.block_rows.Given as goal

-- those so far, and those of the blocks that are left
abbrev pub invariant-loop-granted : goal.invariant-loop-granted
invariant-loop-granted l = block_rows l.sought l.view
    ≡ l.rows ++ map (block_row l.view) (filter (has_one l.wanted.items) (drop l.granted-index l.view.blocks))
