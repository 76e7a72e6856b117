use Rattle.page_numbers.proofs.Common.{◌++◌, ◌∙◌, ap, sym, on_ok_weaker, is_taken, BlockForm}
use Rattle.page_numbers.specs.Index.{number_of}
use Rattle.page_numbers.specs.Rows.{row_if}
use Rattle.page_numbers.proofs.SameRows.{same_kept}
use Rattle.page_numbers.proofs.charts.add_ident.Goals as goal

pub returns-in-Some : goal.returns-in-Some
returns-in-Some c =
    let old = c.args.rows.now.items in
    let row = row_if c.args.chart c.args.is_j1939 c.args.blocks.now in
    on_ok_weaker c.add_shown.result
    (λ same n. same n
    ∙ ap (λ o. is_taken n (old ++ row o))
    (c.in-Some.ensures ∙ ap (λ (f : BlockForm). number_of f c.args.ident) c.form.ensures))
    c.add_shown.ensures

pub returns-in-None : goal.returns-in-None
returns-in-None c =
    let row = row_if c.args.chart c.args.is_j1939 c.args.blocks.now in
    same_kept c.args.rows.now.items _
    (sym (ap row (c.in-None.ensures ∙ ap (λ (f : BlockForm). number_of f c.args.ident) c.form.ensures)))
