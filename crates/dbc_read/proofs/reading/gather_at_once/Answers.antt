use Rattle.dbc_read.proofs.Common.{◌≡◌, ◌∙◌, IfSome_then, IfOk-weaker, err_from_is_err_and, is_divided, no_division}
use Rattle.dbc_read.proofs.Divided.{all_tokens, no_tokens_left}
use Rattle.dbc_read.proofs.reading.gather_at_once.Goals as goal

pub returns-in_err-token_fault-clause-err : goal.returns-in_err-token_fault-clause-err
returns-in_err-token_fault-clause-err c =
    let p = err_from_is_err_and c.from_residual.result c.from_residual.ensures.1 in
    let source : c.gather_one_by_one-read.new.statements.source ≡ c.args.source.now =
    c.gather_one_by_one-read.ensures.source ∙ c.of-statements.ensures.source in
    rw (p.1, p.2) (λ memory. no_tokens_left c.args.source.now c.gather_one_by_one-read.new.statements.source _ source
    c.in_err-token_fault.ensures.err)

pub returns-in_err-found-clause-err : goal.returns-in_err-found-clause-err
returns-in_err-found-clause-err c =
    let p = err_from_is_err_and c.from_residual-in_err-found.result c.from_residual-in_err-found.ensures.1 in
    let source = c.gather_one_by_one-read.ensures.source ∙ c.of-statements.ensures.source in
    let read = all_tokens c.args.source.now c.gather_one_by_one-read.new.statements.source c.of-statements.result.tokens
    c.of-statements.ensures.tokens source c.in_ok-token_fault.ensures.ok in
    rw (p.1, p.2) (λ memory. no_division c.args.source.now c.of-statements.result.tokens read
    (c.in_err-found.ensures.err memory))

pub returns-in-Some-All-clause-ok : goal.returns-in-Some-All-clause-ok
returns-in-Some-All-clause-ok c =
    let source = c.gather_one_by_one-read.ensures.source ∙ c.of-statements.ensures.source in
    let read = all_tokens c.args.source.now c.gather_one_by_one-read.new.statements.source c.of-statements.result.tokens
    c.of-statements.ensures.tokens source c.in_ok-token_fault.ensures.ok in
    let of = rw c.in-Some-All.field-0-is at (rw c.in-Some-All.is at c.in_ok-found.ensures.ok) in
    record {
      stated = of.stated;
      divided = is_divided c.args.source.now c.of-statements.result.tokens read of.stated
          of.read;
      gathered = of.gathered;
    }

pub returns-else-is_some-clause-ok : goal.returns-else-is_some-clause-ok
returns-else-is_some-clause-ok c =
    let source = c.gather_one_by_one-read.ensures.source ∙ c.of-statements.ensures.source in
    let read = all_tokens c.args.source.now c.gather_one_by_one-read.new.statements.source c.of.result.tokens
    c.of.ensures.tokens source c.in_ok-token_fault.ensures.ok in
    IfOk-weaker c.gather_late.result _ _ (λ found all.
    IfSome_then found all (λ g of.
    record {
      stated = of.stated;
      divided = is_divided c.args.source.now c.of.result.tokens read of.stated of.read;
      gathered = of.gathered;
    })) c.gather_late.ensures.ok
