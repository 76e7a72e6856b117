use Rattle.office_blocks.proofs.Common.{◌∙◌}
use Rattle.office_blocks.proofs.Remaining.{count_is, room, runs_are}
use Rattle.office_blocks.proofs.free.left_between.Goals as goal

pub overflow_sub-result : goal.overflow_sub-result
overflow_sub-result c =
    rw c.numbers-range.ensures
    (room c.args.taken.now c.part_in-part.result.now c.args.block c.part_in-part.ensures.range
    c.part_in-part.ensures.part c.requires)

pub returns-clause-count : goal.returns-clause-count
returns-clause-count c =
    rw c.numbers-range.ensures
    (count_is c.args.taken.now c.part_in-part.result.now c.args.block c.part_in-part.ensures.range
    c.part_in-part.ensures.part c.requires)

pub returns-clause-runs : goal.returns-clause-runs
returns-clause-runs c =
    (rw c.numbers-range.ensures at c.in_ok-gaps.ensures)
    ∙ runs_are c.args.taken.now c.part_in-part.result.now c.args.block c.part_in-part.ensures.range
    c.part_in-part.ensures.part c.requires
