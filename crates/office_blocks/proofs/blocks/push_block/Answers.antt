use Rattle.office_blocks.proofs.Common.{◌++◌, [], ◌∷◌, ◌∙◌, ap}
use Rattle.office_blocks.specs.Blocks.{row_with}
use Rattle.office_blocks.specs.Numbers.{of_form}
use Rattle.office_blocks.proofs.Same.{row_is}
use Rattle.std.proofs.lemmas.Result.{on_ok_weaker}
use Rattle.office_blocks.proofs.blocks.push_block.Goals as goal

pub returns : goal.returns
returns c =
    let before = c.args.rows.now in
    let granted = c.args.granted.now in
    let numbers = c.args.numbers.now in
    on_ok_weaker c.push_with.result
    (λ is view are.
    is
    ∙ ap (λ n. before ++ row_with n.live n.taken granted ∷ []) c.of_form.ensures
    ∙ ap (λ f. before ++ row_with (of_form f numbers).live (of_form f numbers).taken granted ∷ []) c.form.ensures.form
    ∙ ap (λ r. before ++ r ∷ []) (row_is view numbers granted are))
    c.push_with.ensures
