use Rattle.page_numbers.proofs.Common.{◌++◌, [], ap, codes, added}
use Rattle.markup.specs.declared.tag.Tag.TheVariants as tag
use Rattle.page_parts.specs.Letters.{class_in}
use Rattle.page_parts.specs.declared.letters.Shade.TheVariants as shade
use Rattle.page_numbers.specs.Elements.{around}
use Rattle.page_numbers.specs.Left.{share_html, bar_cell}
use Rattle.page_numbers.proofs.Closing.{closed, instead}
use Rattle.page_numbers.proofs.left.put_bar.Goals as goal

pub returns : goal.returns
unfolding bar_cell
returns c =
    let names = c.args.letters.now in
    let team = c.args.team.now in
    let tally = c.args.tally.now in
    let live = share_html (class_in shade.Live names team) tally.live in
    let held = share_html (class_in shade.Held names team) tally.held in
    let free = share_html (class_in shade.Free names team) tally.free in
    let bar = live ++ (held ++ free) in
    closed c.args.page.now tag.Cell [] (around tag.Division (codes " class=\"bar\"") bar) c.open.ensures
    (closed c.open.new.self tag.Division (codes " class=\"bar\"") bar c.open-2.ensures
    (added c.open-2.new.self live (held ++ free)
    (instead c.open-2.new.self _ live (ap (λ v. share_html v tally.live) c.class_of.ensures) c.put_share.ensures)
    (added c.put_share.new.page held free
    (instead c.put_share.new.page _ held (ap (λ v. share_html v tally.held) c.class_of-2.ensures) c.put_share-2.ensures)
    (instead c.put_share-2.new.page _ free (ap (λ v. share_html v tally.free) c.class_of-3.ensures)
    c.put_share-3.ensures)))
    c.close.ensures) c.close-2.ensures
