use Rattle.page_numbers.proofs.Common.{◌∙◌}
use Rattle.page_numbers.specs.Tally.{is_beside}
use Rattle.page_numbers.proofs.InBlocks.{counted_in}
use Rattle.page_numbers.proofs.tally.held_in.Goals as goal

pub returns : goal.returns
returns c =
    c.count_beside.ensures
    ∙ counted_in c.args.numbers.now.taken c.part_in.result.now c.args.block c.part_in.ensures.range
    c.part_in.ensures.part (is_beside c.args.numbers.now.live c.args.form)
