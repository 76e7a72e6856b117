use Rattle.page_messages.proofs.Common.{◌≡◌, ◌==◌, ◌&&◌, ◌++◌, ◌∙◌, true, ap, codes, cond, sym, vec_len}
use Rattle.page_messages.specs.Remarks.{remarks_line, remarks_link, unclear_html}
use Rattle.page_messages.proofs.Adding.{added_as}
use Rattle.page_messages.proofs.remarks.put_remarks_line.Goals as goal

pub returns-then-is_empty-2 : goal.returns-then-is_empty-2
returns-then-is_empty-2 c =
    let checked = c.args.checked.now in
    let none : (vec_len checked.clashes == 0 && vec_len checked.remarks == 0) ≡ true =
    ap (λ b. b && vec_len checked.remarks == 0) (sym c.is_empty.ensures ∙ c.if-is_empty.true)
    ∙ (sym c.is_empty-then-is_empty.ensures ∙ c.if-is_empty-2.true) in
    added_as (codes "no clash, no remark") (remarks_line checked) c.args.page.now c.text.new.self
    (sym (ap (λ b. cond b (codes "no clash, no remark")
    (unclear_html (vec_len checked.clashes) ++ (codes " " ++ remarks_link (vec_len checked.remarks)))) none))
    c.text.ensures
