use Rattle.desk_send.proofs.Common.{◌∙◌, sym, false≢true}
use Rattle.desk_send.proofs.AnswersBack.{is_found, is_unlike}
use Rattle.desk_send.proofs.answer.answer_of.Goals as goal

pub returns-in_default-clause-back : goal.returns-in_default-clause-back
returns-in_default-clause-back c =
    λ a is written. sym c.in_default.is ∙ is_found c.args.status c.args.body.now _ c.in_ok-answer.ensures a is written

pub returns-then-branch-clause-back : goal.returns-then-branch-clause-back
returns-then-branch-clause-back c =
    λ a is written. sym c.in-Some.is ∙ is_found c.args.status c.args.body.now _ c.in_ok-answer.ensures a is written

pub returns-else-branch-clause-back : goal.returns-else-branch-clause-back
returns-else-branch-clause-back c =
    is_unlike c.args.status c.args.body.now c.in-Some.answer (sym c.in-Some.is ∙ c.in_ok-answer.ensures)
    (λ written. false≢true (sym c.if-branch.false ∙ c.in_ok-is_written.ensures.1 written))
