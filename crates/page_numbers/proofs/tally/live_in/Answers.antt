use Rattle.page_numbers.proofs.Common.{◌∙◌, has_form}
use Rattle.page_numbers.proofs.InBlocks.{counted_in}
use Rattle.page_numbers.proofs.tally.live_in.Goals as goal

pub returns : goal.returns
returns c =
    c.count_formed.ensures
    ∙ counted_in c.args.numbers.now.live c.part_in.result.now c.args.block c.part_in.ensures.range
    c.part_in.ensures.part (has_form c.args.form)
