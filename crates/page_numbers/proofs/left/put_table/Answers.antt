use Rattle.page_numbers.proofs.Common.{codes, ap, flat_map, names_of}
use Rattle.page_numbers.specs.Counts.{known_in}
use Rattle.page_numbers.specs.Elements.{table_html}
use Rattle.page_numbers.specs.Left.{all_rows, heads, team_rows}
use Rattle.page_numbers.proofs.Closing.{instead, table_closed, wide_closed}
use Rattle.page_numbers.proofs.left.put_table.Goals as goal

pub returns : goal.returns
returns c =
    let subject = c.args.subject.now in
    let known = known_in c.args.numbers.now in
    let rows = all_rows known subject in
    wide_closed c.args.page.now (codes "Numbers left") (table_html (codes "nums lot") heads rows) c.open_wide.ensures
    (table_closed c.open_wide.new.page (codes "nums lot") heads rows c.open_table.ensures
    (instead c.open_table.new.page _ rows
    (ap (flat_map (team_rows known subject.blocks.now (names_of subject))) c.names.ensures.names)
    c.in_ok-put_rows.ensures) c.close.ensures c.close-2.ensures) c.close-3.ensures
