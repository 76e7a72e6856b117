use Rattle.office_page.proofs.Written.{sheet_page}
use Rattle.office_page.proofs.sheet_page.page_about.Goals as goal

pub returns : goal.returns
returns c =
    sheet_page c.args.subject.now c.args.checked.now c.none-marks.result c.in_ok-spns.spns.rows.items c.open.new.self c.put_parts.new.page
    c.into_page.result c.into_page.ensures.written c.into_page.ensures.well_formed c.into_page.ensures.kept
    c.none-marks.ensures.marks c.none-marks.ensures.releases c.in_ok-spns.ensures c.in_ok-put_parts.ensures
