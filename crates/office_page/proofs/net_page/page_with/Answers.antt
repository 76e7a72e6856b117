use Rattle.office_page.proofs.Written.{net_page}
use Rattle.office_page.proofs.net_page.page_with.Goals as goal

pub returns : goal.returns
returns c =
    let shown = c.args.shown.now in
    net_page shown.subject.now shown.checked.now shown.marks.now shown.spns.now.rows.items c.open.new.self c.put_parts.new.page
    shown.view.now shown.changes.now c.into_page.result c.into_page.ensures.written c.into_page.ensures.well_formed
    c.into_page.ensures.kept c.in_ok-put_parts.ensures
