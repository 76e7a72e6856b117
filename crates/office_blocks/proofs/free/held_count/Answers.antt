use Rattle.office_blocks.proofs.Common.{◌∙◌}
use Rattle.office_blocks.proofs.Remaining.{held_is}
use Rattle.office_blocks.proofs.free.held_count.Goals as goal

pub returns : goal.returns
returns c =
    c.count_beside.ensures
    ∙ held_is c.args.numbers.now.taken c.part_in.result.now c.args.block c.part_in.ensures.range
    c.part_in.ensures.part c.args.numbers.now.live
