use Rattle.page_numbers.proofs.Common.{◌∷◌, [], ◌++◌, ◌∙◌, ap, cond, sym, on_ok_weaker, is_taken}
use Rattle.page_numbers.specs.Charts.{row_of}
use Rattle.page_numbers.proofs.SameRows.{same_kept}
use Rattle.page_numbers.proofs.charts.add_own.Goals as goal

pub returns-then-has : goal.returns-then-has
returns-then-has c =
    let old = c.args.rows.now.items in
    on_ok_weaker c.add_row.result
    (λ same n. same n
    ∙ ap (is_taken n) (ap (λ r. old ++ r ∷ []) c.row_of.ensures
    ∙ sym (ap (λ b. old ++ cond b (row_of c.args.chart c.args.number ∷ []) []) (sym c.has.ensures ∙ c.if-has.true))))
    c.add_row.ensures

pub returns : goal.returns
returns c =
    same_kept c.args.rows.now.items _
    (ap (λ b. cond b (row_of c.args.chart c.args.number ∷ []) []) (sym c.has.ensures ∙ c.if-has.false))
