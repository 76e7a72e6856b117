use Rattle.page_numbers.proofs.Common.{◌++◌, [], codes, refl, whole, added}
use Rattle.markup.specs.declared.tag.Tag.TheVariants as tag
use Rattle.page_numbers.specs.Elements.{around}
use Rattle.page_numbers.proofs.Closing.{closed}
use Rattle.page_numbers.proofs.map.put_table.Goals as goal

pub returns : goal.returns
returns c =
    let head = whole c.head_of.result in
    let rows = c.in_ok-put_rows.ensures in
    let body = around tag.TableBody [] rows.0 in (
      around tag.Table (codes " class=\"map\"") (head ++ body),
      (
        record { head = head; body = rows.0; are = rows.1.0; is = refl },
        closed c.args.page.now tag.Table (codes " class=\"map\"") (head ++ body) c.open.ensures
            (added c.open.new.self head body c.put.ensures.added
            (closed c.put.new.self tag.TableBody [] rows.0 c.open-2.ensures rows.1.1 c.close.ensures)) c.close-2.ensures,
      ),
    )
