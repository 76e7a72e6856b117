use Rattle.page_numbers.proofs.Common.{◌∙◌, [], None, true, false, ap, codes, cond, sym}
use Rattle.page_numbers.specs.Elements.{part_html, wide_html}
use Rattle.page_numbers.specs.Held.{held_html, held_table}
use Rattle.page_numbers.proofs.Closing.{instead, part_closed, unchanged, wide_closed}
use Rattle.page_numbers.proofs.held.put_held.Goals as goal

pub returns-then-is_empty : goal.returns-then-is_empty
returns-then-is_empty c =
    let subject = c.args.subject.now in
    let releases = c.args.view.now.releases in
    let whole =
    part_html (codes "held") (codes "Held for good") None (wide_html (codes "Held") (held_table subject releases)) in
    unchanged c.args.page.now (held_html subject releases)
    (ap (λ b. cond b [] whole) (sym c.is_empty.ensures ∙ c.if-is_empty.true))

pub returns : goal.returns
returns c =
    let subject = c.args.subject.now in
    let releases = c.args.view.now.releases in
    let table = held_table subject releases in
    let whole = part_html (codes "held") (codes "Held for good") None (wide_html (codes "Held") table) in
    instead c.args.page.now whole (held_html subject releases)
    (sym (ap (λ b. cond b [] whole) (sym c.is_empty.ensures ∙ c.if-is_empty.false)))
    (part_closed c.args.page.now (codes "held") (codes "Held for good") None (wide_html (codes "Held") table)
    c.open_part.ensures
    (wide_closed c.open_part.new.page (codes "Held") table c.open_wide.ensures c.in_ok-put_table.ensures c.close.ensures)
    c.close-2.ensures)
