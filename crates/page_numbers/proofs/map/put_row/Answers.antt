use Rattle.page_numbers.proofs.Common.{◌++◌, [], refl, added}
use Rattle.markup.specs.declared.tag.Tag.TheVariants as tag
use Rattle.page_numbers.specs.Elements.{around}
use Rattle.page_numbers.specs.Map.{row_head}
use Rattle.page_numbers.proofs.Closing.{closed}
use Rattle.page_numbers.proofs.map.put_row.Goals as goal

pub returns : goal.returns
returns c =
    let head = row_head c.args.facts.now.chart c.args.row in
    let cells = c.in_ok-put_cells.ensures in (
      around tag.Row [] (head ++ cells.0),
      (
        record { cells = cells.0; are = cells.1.0; is = refl },
        closed c.args.page.now tag.Row [] (head ++ cells.0) c.open.ensures
            (added c.open.new.self head cells.0 c.put_row_head.ensures cells.1.1) c.close.ensures,
      ),
    )
