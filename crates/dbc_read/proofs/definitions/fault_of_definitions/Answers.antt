use Rattle.dbc_read.proofs.Common.{◌≡◌, ◌∙◌, IfSome_then, err_from_is_err_and, is_divided, no_division}
use Rattle.dbc_read.proofs.DefinitionsAlone.{fault_is_found, fault_of_text}
use Rattle.dbc_read.proofs.Divided.{all_tokens, no_tokens_left, stated_at}
use Rattle.dbc_read.proofs.FaultsAt.{none_weaker}
use Rattle.dbc_read.proofs.definitions.fault_of_definitions.Goals as goal

pub returns-in_err-token_fault-clause-err : goal.returns-in_err-token_fault-clause-err
returns-in_err-token_fault-clause-err c =
    let p = err_from_is_err_and c.from_residual.result c.from_residual.ensures.1 in
    let source : c.definitions_of-read.new.statements.source ≡ c.args.source.now = c.definitions_of-read.ensures.source
    ∙ c.of-statements.ensures.source in
    rw (p.1, p.2) (λ memory. no_tokens_left c.args.source.now c.definitions_of-read.new.statements.source _ source
    c.in_err-token_fault.ensures.err)

pub returns-in_err-gathered-clause-err : goal.returns-in_err-gathered-clause-err
returns-in_err-gathered-clause-err c =
    let p = err_from_is_err_and c.from_residual-in_err-gathered.result c.from_residual-in_err-gathered.ensures.1 in
    let source = c.definitions_of-read.ensures.source ∙ c.of-statements.ensures.source in
    let read = all_tokens c.args.source.now c.definitions_of-read.new.statements.source c.of-statements.result.tokens
    c.of-statements.ensures.tokens source c.in_ok-token_fault.ensures.ok in
    rw (p.1, p.2) (λ memory. no_division c.args.source.now c.of-statements.result.tokens read
    (c.in_err-gathered.ensures.err memory))

pub returns-in-None-clause-many : goal.returns-in-None-clause-many
returns-in-None-clause-many c =
    let source = c.definitions_of-read.ensures.source ∙ c.of-statements.ensures.source in
    let read = all_tokens c.args.source.now c.definitions_of-read.new.statements.source c.of-statements.result.tokens
    c.of-statements.ensures.tokens source c.in_ok-token_fault.ensures.ok in
    λ never stated divided. (rw c.in-None.is at c.in_ok-gathered.ensures.many) stated
    (stated_at c.args.source.now c.of-statements.result.tokens read stated divided)

pub returns-in_ok-fault-in-Some-clause-fault : goal.returns-in_ok-fault-in-Some-clause-fault
returns-in_ok-fault-in-Some-clause-fault c =
    let of = rw c.in-Some.is at c.in_ok-gathered.ensures.ok in
    let source = c.definitions_of-read.ensures.source ∙ c.of-statements.ensures.source in
    let read = all_tokens c.args.source.now c.definitions_of-read.new.statements.source c.of-statements.result.tokens
    c.of-statements.ensures.tokens source c.in_ok-token_fault.ensures.ok in
    let divided = is_divided c.args.source.now c.of-statements.result.tokens read of.stated of.read in
    IfSome_then c.in_ok-fault-in-Some.fault c.in_ok-fault-in-Some.ensures.fault
    (λ fault is. fault_of_text of.stated c.in-Some.gathered of.are c.args.source.now divided of.few fault is)

pub returns-in_ok-fault-in-Some-clause-many : goal.returns-in_ok-fault-in-Some-clause-many
returns-in_ok-fault-in-Some-clause-many c =
    let of = rw c.in-Some.is at c.in_ok-gathered.ensures.ok in
    let source = c.definitions_of-read.ensures.source ∙ c.of-statements.ensures.source in
    let read = all_tokens c.args.source.now c.definitions_of-read.new.statements.source c.of-statements.result.tokens
    c.of-statements.ensures.tokens source c.in_ok-token_fault.ensures.ok in
    let divided = is_divided c.args.source.now c.of-statements.result.tokens read of.stated of.read in
    none_weaker c.in_ok-fault-in-Some.fault _ _
    (λ defined never. absurd
    (fault_is_found of.stated c.in-Some.gathered of.are c.args.source.now divided of.few never defined))
    c.in_ok-fault-in-Some.ensures.none
