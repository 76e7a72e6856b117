use Rattle.page_numbers.proofs.Common.{◌++◌, ◌∙◌, ap, codes, refl, with_part, whole, added}
use Rattle.markup.specs.declared.tag.Tag.TheVariants as tag
use Rattle.page_numbers.specs.Elements.{around, part_html}
use Rattle.page_numbers.specs.Map.{whose}
use Rattle.page_numbers.proofs.Closing.{closed, part_closed}
use Rattle.page_numbers.proofs.map.put_whole.Goals as goal

pub returns : goal.returns
returns c =
    let legend = whole c.legend_of.result in
    let body = c.in_ok-put_charts.ensures in
    let grid = around tag.Division (codes " class=\"grid\"") body.0 in (
      part_html (codes "map") (codes "Map of the numbers") (whose c.args.subject.now) (legend ++ grid),
      (
        record { legend = legend; body = body.0; are = body.1.0; is = refl },
        part_closed c.args.page.now (codes "map") (codes "Map of the numbers") (whose c.args.subject.now) (legend ++ grid)
            (λ h. c.open_part.ensures h
            ∙ ap (λ small. with_part (codes "map") (codes "Map of the numbers") small c.args.page.now) c.whose_words-whose.ensures)
            (added c.open_part.new.page legend grid c.put.ensures.added
            (closed c.put.new.self tag.Division (codes " class=\"grid\"") body.0 c.open.ensures body.1.1 c.close.ensures))
            c.close-2.ensures,
      ),
    )
