use Rattle.office_blocks.proofs.Parts.{part_is}
use Rattle.office_blocks.proofs.free.part_of.Goals as goal

pub returns : goal.returns
returns c =
    part_is c.args.numbers.now c.count_below-start.result c.count_below-end.result c.args.first c.args.last
    c.requires.rising c.requires.some c.count_below-start.ensures c.count_below-end.ensures
