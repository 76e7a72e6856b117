use Rattle.page_numbers.proofs.Common.{codes}
use Rattle.markup.specs.declared.tag.Tag.TheVariants as tag
use Rattle.page_numbers.proofs.Closing.{closed}
use Rattle.page_numbers.proofs.spns.put_where.Goals as goal

pub returns-in-Gone : goal.returns-in-Gone
returns-in-Gone c =
    rw c.in-Gone.is (closed c.args.page.now tag.Span (codes " class=\"q\"") _ c.open.ensures c.put_gone_place.ensures
    c.close.ensures)
