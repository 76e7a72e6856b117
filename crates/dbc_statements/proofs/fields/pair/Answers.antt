use Rattle.dbc_statements.proofs.Common.{◌∷◌, [], err_from_is_err_and}
use Rattle.dbc_statements.proofs.Marked.{no_first, no_second}
use Rattle.dbc_statements.proofs.fields.pair.Goals as goal

pub returns-in_err-decimal_with : goal.returns-in_err-decimal_with
returns-in_err-decimal_with c =
    let p = err_from_is_err_and c.from_residual-in_err-decimal_with.result
    c.from_residual-in_err-decimal_with.ensures.1 in
    rw (p.1, p.2) (λ memory. no_first (c.args.left ∷ []) (c.args.between ∷ []) (c.args.right ∷ []) c.args.tokens.now
    c.mark.new.tokens c.in_ok-mark.ensures (c.in_err-decimal_with.ensures memory))

pub returns-in_err-decimal_with-2 : goal.returns-in_err-decimal_with-2
returns-in_err-decimal_with-2 c =
    let p = err_from_is_err_and c.from_residual-in_err-decimal_with-2.result
    c.from_residual-in_err-decimal_with-2.ensures.1 in
    rw (p.1, p.2) (λ memory. no_second (c.args.left ∷ []) (c.args.between ∷ []) (c.args.right ∷ []) c.args.tokens.now
    c.mark.new.tokens c.in_ok-mark.ensures c.decimal_with.new.decimal c.decimal_with.new.tokens
    c.in_ok-decimal_with.ensures (c.in_err-decimal_with-2.ensures memory))
