use Rattle.page_numbers.proofs.Common.{◌≡◌, ◌++◌, [], append-nil, map, refl, words, whole}
use Rattle.markup.specs.declared.tag.Tag.TheVariants as tag
use Rattle.page_numbers.specs.CellHtml.{link_to, part_kind}
use Rattle.page_numbers.specs.Elements.{around, classed}
use Rattle.page_numbers.specs.Index.{message_at}
use Rattle.page_numbers.proofs.Closing.{closed, with_attributes}
use Rattle.page_numbers.proofs.cells.put_live.Goals as goal

pub returns : goal.returns
returns c =
    let first = message_at c.args.first.now in
    let others = map message_at c.args.others.now in
    let title = words c.in_ok-title.title.items in
    let class = c.class_of-class.result.now in
    let letters = whole c.owners_of.result in
    let link = link_to (part_kind others) first.name title in
    let attributes : link_to c.part_kind.result.now c.name.result.now (words c.deref.result.now) ≡ link =
    λ i. link_to (c.part_kind.ensures i) (c.name.ensures i) (words (c.deref.ensures.value i)) in (
      around tag.Cell (classed class) (around tag.Link link letters),
      (
        record {
          class = class;
          title = title;
          is_title = c.in_ok-title.ensures;
          letters = letters;
          is = refl;
        },
        closed c.args.page.now tag.Cell (classed class) (around tag.Link link letters)
            (with_attributes c.args.page.now tag.Cell (classed class ++ []) (classed class) (append-nil (classed class))
            c.open.ensures)
            (closed c.open.new.self tag.Link link letters
            (with_attributes c.open.new.self tag.Link _ link attributes c.open_link.ensures) c.put.ensures.added
            c.close.ensures) c.close-2.ensures,
      ),
    )
