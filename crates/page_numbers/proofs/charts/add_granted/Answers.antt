use Rattle.page_numbers.proofs.Common.{◌≡◌, ◌++◌, ◌∙◌, [], true, false, ap, cond, sym, on_ok_weaker, same_form}
use Rattle.page_numbers.proofs.Common.{is_taken}
use Rattle.page_numbers.specs.Charts.{form_of}
use Rattle.page_numbers.specs.Rows.{block_rows}
use Rattle.page_numbers.proofs.SameRows.{same_kept}
use Rattle.page_numbers.proofs.charts.add_granted.Goals as goal

pub returns-then-is_of : goal.returns-then-is_of
returns-then-is_of c =
    let old = c.args.rows.now.items in
    let g = c.args.granted.now in
    let on : same_form g.block.form (form_of c.args.chart) ≡ true =
    sym (c.is_of.ensures ∙ ap (same_form g.block.form) c.form.ensures) ∙ c.if-is_of.true in
    on_ok_weaker c.add_block.result
    (λ same n. same n ∙ ap (is_taken n) (sym (ap (λ b. old ++ cond b (block_rows c.args.chart g.block) []) on)))
    c.add_block.ensures

pub returns : goal.returns
returns c =
    let g = c.args.granted.now in
    let off : same_form g.block.form (form_of c.args.chart) ≡ false =
    sym (c.is_of.ensures ∙ ap (same_form g.block.form) c.form.ensures) ∙ c.if-is_of.false in
    same_kept c.args.rows.now.items _ (ap (λ b. cond b (block_rows c.args.chart g.block) []) off)
