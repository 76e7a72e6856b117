use Rattle.office_blocks.proofs.Common.{◌≡◌, map, take, filter, option_copied}
use Rattle.office_blocks.specs.Blocks.{block_row, is_wanted}
use Rattle.office_blocks.proofs.blocks.block_rows.Given as goal

abbrev pub invariant-loop-granted : goal.invariant-loop-granted
invariant-loop-granted l = l.rows
    ≡ map (block_row l.view) (filter (is_wanted (option_copied l.team)) (take l.granted-index l.granted-items))
