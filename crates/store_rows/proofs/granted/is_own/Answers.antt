use Rattle.store_rows.proofs.Common.{not, ap, ◌∙◌}
use Rattle.std.proofs.Common.{◌==◌}
use Rattle.store_rows.proofs.Reading.{own_form}
use Rattle.store_rows.proofs.granted.is_own.Goals as goal

pub returns : goal.returns
returns c =
    ap (λ n. not (c.in_ok-form.form == n)) (c.from.ensures ∙ c.number.ensures.number)
    ∙ own_form c.args.row.now c.in_ok-form.form c.in_ok-form.ensures
