use Rattle.page_numbers.proofs.Common.{codes, flat_map}
use Rattle.markup.specs.declared.tag.Tag.TheVariants as tag
use Rattle.page_numbers.specs.Left.{block_item}
use Rattle.page_numbers.proofs.Closing.{closed}
use Rattle.page_numbers.proofs.left.put_list.Goals as goal

pub returns : goal.returns
returns c =
    closed c.args.page.now tag.List (codes " class=\"cols\"") (flat_map (block_item c.args.letters.now) c.args.blocks.now)
    c.open.ensures c.put_items.ensures c.close.ensures
