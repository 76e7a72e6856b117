use Rattle.page_numbers.proofs.Common.{◌≡◌, ◌∙◌, [], None, ap, codes, cond, length, sym, with_fold}
use Rattle.std.proofs.Common.{nat_le}
use Rattle.page_numbers.specs.Elements.{fold_html, part_html}
use Rattle.page_numbers.specs.Spns.{list_html, spns_html, summary_html}
use Rattle.page_numbers.proofs.Closing.{fold_closed, instead, part_closed, unchanged}
use Rattle.page_numbers.proofs.spns.put_spns.Goals as goal

pub returns-then-is_empty : goal.returns-then-is_empty
returns-then-is_empty c =
    let rows = c.args.rows.now.rows.items in
    let fold = fold_html (nat_le (length rows) 256) (summary_html rows) (list_html rows) in
    unchanged c.args.page.now (spns_html rows)
    (ap (λ b. cond b [] (part_html (codes "spns") (codes "SPNs") None fold)) (sym c.is_empty.ensures ∙ c.if-is_empty.true))

pub returns : goal.returns
returns c =
    let rows = c.args.rows.now.rows.items in
    let a = c.args.page.now in
    let is_open = nat_le (length rows) 256 in
    let fold = fold_html is_open (summary_html rows) (list_html rows) in
    let whole = part_html (codes "spns") (codes "SPNs") None fold in
    let size : c.len.result ≡ length rows =
    c.len.ensures ∙ (sym c.deref.ensures.len ∙ ap length c.deref.ensures.value) in
    instead a whole (spns_html rows)
    (sym (ap (λ b. cond b [] whole) (sym c.is_empty.ensures ∙ c.if-is_empty.false)))
    (part_closed a (codes "spns") (codes "SPNs") None fold c.open_part.ensures
    (fold_closed c.open_part.new.page is_open (summary_html rows) (list_html rows)
    (λ h. c.open_fold.ensures h ∙ ap (λ k. with_fold (nat_le k 256) c.open_part.new.page) size)
    (instead c.open_fold.new.page _ (summary_html rows) (ap summary_html c.deref.ensures.value) c.put_summary.ensures)
    c.close.ensures
    (instead c.close.new.self _ (list_html rows) (ap list_html c.deref-2.ensures.value) c.put_list.ensures)
    c.close-2.ensures) c.close-3.ensures)
