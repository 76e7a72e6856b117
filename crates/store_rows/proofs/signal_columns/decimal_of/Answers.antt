use Rattle.store_rows.proofs.Common.{ap, sym, subst, ◌∙◌, IfOk-weaker}
use Rattle.store_rows.specs.SignalShowing.{without_sign}
use Rattle.store_rows.proofs.Decimals.{ReadsSigned, text_reads_signed}
use Rattle.store_rows.proofs.signal_columns.decimal_of.Goals as goal

pub returns : goal.returns
returns c =
    IfOk-weaker c.decimal_read.result _ _
    (λ d h other is same. h other
    (subst (λ p. ReadsSigned p other) (sym (c.without_sign-negative.ensures ∙ ap without_sign same))
    (text_reads_signed other is)))
    c.decimal_read.ensures
