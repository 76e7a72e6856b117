use Rattle.office_blocks.proofs.Remaining.{live_is}
use Rattle.office_blocks.proofs.free.live_count.Goals as goal

pub returns : goal.returns
returns c =
    live_is c.args.numbers.now.live c.part_in.result.now c.args.block
    c.part_in.ensures.range c.part_in.ensures.part
