use Rattle.office_decide.proofs.Common.{◌∙◌, ap, sym, subst, IfOk-weaker, AreFacts, reads_book, scope_of}
use Rattle.office_facts.specs.Excerpt.{IsExcerptOf}
use Rattle.office_decide.proofs.ByFacts.{by_action}
use Rattle.office_decide.proofs.deciding.decide_by_excerpt.Goals as goal

pub returns : goal.returns
returns c =
    let team = c.args.team.now in
    let action = c.in-Act.action in
    IfOk-weaker c.decide_by.result _ _
    (λ d h net other has good. by_action team c.args.command.now action net other d c.in-Act.is
    (h net other (subst (λ f. AreFacts team net (scope_of action) f) (sym c.facts.ensures)
    (subst (λ t. IsExcerptOf team net t c.args.excerpt.now) c.in-Act.is has))
    (λ reads. good (ap reads_book c.in-Act.is ∙ reads))))
    c.decide_by.ensures
