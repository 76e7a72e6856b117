use Rattle.page_numbers.proofs.Common.{codes, flat_map}
use Rattle.markup.specs.declared.tag.Tag.TheVariants as tag
use Rattle.page_numbers.specs.Spns.{row_item}
use Rattle.page_numbers.proofs.Closing.{closed}
use Rattle.page_numbers.proofs.spns.put_list.Goals as goal

pub returns : goal.returns
returns c =
    closed c.args.page.now tag.List (codes " class=\"cols\"") (flat_map row_item c.args.rows.now) c.open.ensures
    c.put_rows.ensures c.close.ensures
