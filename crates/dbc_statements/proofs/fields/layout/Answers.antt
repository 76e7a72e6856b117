use Rattle.dbc_statements.proofs.Common.{err_from_is_err_and}
use Rattle.dbc_statements.proofs.Marked.{no_size, no_order, no_sign}
use Rattle.dbc_statements.proofs.fields.layout.Goals as goal

pub returns-in_err-size : goal.returns-in_err-size
returns-in_err-size c =
    let p = err_from_is_err_and c.from_residual-in_err-size.result c.from_residual-in_err-size.ensures.1 in
    rw (p.1, p.2) (λ memory. no_size c.args.tokens.now c.in_ok-start.start c.start.new.tokens c.in_ok-start.ensures
    (c.in_err-size.ensures memory))

pub returns-in_err-order : goal.returns-in_err-order
returns-in_err-order c =
    let p = err_from_is_err_and c.from_residual-in_err-order.result c.from_residual-in_err-order.ensures.1 in
    rw (p.1, p.2) (λ memory. no_order c.args.tokens.now c.in_ok-start.start c.start.new.tokens c.in_ok-start.ensures
    c.in_ok-size.size c.size.new.tokens c.in_ok-size.ensures (c.in_err-order.ensures memory))

pub returns-in_err-signed : goal.returns-in_err-signed
returns-in_err-signed c =
    let p = err_from_is_err_and c.from_residual-in_err-signed.result c.from_residual-in_err-signed.ensures.1 in
    rw (p.1, p.2) (λ memory. no_sign c.args.tokens.now c.in_ok-start.start c.start.new.tokens c.in_ok-start.ensures
    c.in_ok-size.size c.size.new.tokens c.in_ok-size.ensures c.in_ok-order.order c.order.new.tokens
    c.in_ok-order.ensures (c.in_err-signed.ensures memory))
