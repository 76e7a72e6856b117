use Rattle.page_numbers.proofs.Common.{◌∷◌, [], ◌++◌, ◌∙◌, ap, cond, sym, on_ok_weaker, is_taken}
use Rattle.page_numbers.specs.Charts.{row_of}
use Rattle.page_numbers.proofs.SameRows.{same_kept}
use Rattle.page_numbers.proofs.charts.add_shown.Goals as goal

pub returns-then-shows : goal.returns-then-shows
returns-then-shows c =
    let old = c.args.rows.now.items in
    on_ok_weaker c.add_row.result
    (λ same n. same n
    ∙ ap (is_taken n) (ap (λ r. old ++ r ∷ []) c.row_of.ensures
    ∙ sym (ap (λ b. old ++ cond b (row_of c.args.chart c.args.number ∷ []) []) (sym c.shows.ensures ∙ c.if-shows.true))))
    c.add_row.ensures

pub returns : goal.returns
returns c =
    same_kept c.args.rows.now.items _
    (ap (λ b. cond b (row_of c.args.chart c.args.number ∷ []) []) (sym c.shows.ensures ∙ c.if-shows.false))
