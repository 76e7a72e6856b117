use Rattle.dbc_statements.proofs.Common.{◌≡◌, subst, List, err_from_is_err_and, lexed, Token, tokens_without_fault}
use Rattle.dbc_statements.specs.Tokens.{IsReached}
use Rattle.dbc_statements.specs.Statement.{statements_of}
use Rattle.dbc_statements.proofs.WholeText.{is_divided, no_division, no_tokens, whole}
use Rattle.dbc_statements.proofs.reading.statements_of.Goals as goal

pub fault_after-requires : goal.fault_after-requires
fault_after-requires c =
    subst (λ (ts : List Token). IsReached ts c.all_statements-read.new.reached) c.of-tokens.ensures
    c.all_statements-read.ensures.reached

pub returns-in_err-fault_after-clause-err : goal.returns-in_err-fault_after-clause-err
returns-in_err-fault_after-clause-err c =
    let p = err_from_is_err_and c.from_residual.result c.from_residual.ensures.1 in
    rw (p.1, p.2) (λ memory. no_tokens c.args.source.now _ c.in_err-fault_after.ensures.err)

pub returns-in_err-statements-clause-err : goal.returns-in_err-statements-clause-err
returns-in_err-statements-clause-err c =
    let p = err_from_is_err_and c.from_residual-in_err-statements.result c.from_residual-in_err-statements.ensures.1 in
    let read : lexed 0 c.args.source.now ≡ tokens_without_fault c.of-tokens.result =
    whole c.args.source.now c.of-tokens.result c.of-tokens.ensures c.in_ok-fault_after.ensures.ok in
    rw (p.1, p.2) (λ memory. no_division c.args.source.now c.of-tokens.result read
    (c.in_err-statements.ensures.err memory))

pub returns-clause-ok : goal.returns-clause-ok
returns-clause-ok c =
    let read : lexed 0 c.args.source.now ≡ tokens_without_fault c.of-tokens.result =
    whole c.args.source.now c.of-tokens.result c.of-tokens.ensures c.in_ok-fault_after.ensures.ok in
    is_divided c.args.source.now c.of-tokens.result read (statements_of c.in_ok-statements.statements.items)
    c.in_ok-statements.ensures.ok
