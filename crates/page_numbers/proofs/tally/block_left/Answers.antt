use Rattle.page_numbers.proofs.Common.{◌∙◌, sym}
use Rattle.page_numbers.proofs.InBlocks.{one_form}
use Rattle.page_numbers.proofs.tally.block_left.Goals as goal

pub whole_left-requires : goal.whole_left-requires
whole_left-requires c = record {
  one = one_form c.args.block.form c.args.form c.requires (sym c.is_group.ensures ∙ c.if-is_group.false);
  whole = sym c.is_group.ensures ∙ c.if-is_group.false;
}
