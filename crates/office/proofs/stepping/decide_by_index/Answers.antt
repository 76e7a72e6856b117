use Rattle.office.proofs.Common.{◌∙◌, refl, sym, ap, subst, IfOk-weaker, AreFacts}
use Rattle.office_facts.specs.Excerpt.{fits}
use Rattle.office_facts.specs.FactsOf.{facts_of}
use Rattle.office_decide.proofs.ByFacts.{by_action}
use Rattle.office.proofs.stepping.decide_by_index.Goals as goal

pub decide_by-requires : goal.decide_by-requires
decide_by-requires c = ap (λ s. fits s (facts_of c.facts_for-facts.result)) (sym c.scope_of.ensures)
    ∙ c.facts_for-facts.ensures.fits

pub returns-in-Act : goal.returns-in-Act
returns-in-Act c =
    let team = c.args.team.now in
    let net = c.args.net.now in
    IfOk-weaker c.decide_by.result _ _
    (λ d h. by_action team c.args.command.now c.in-Act.action net c.args.book.now d c.in-Act.is
    (h net c.args.book.now (subst (λ s. AreFacts team net s (facts_of c.facts_for-facts.result)) c.scope_of.ensures
    (c.facts_for-facts.ensures.facts team)) (λ reads. refl)))
    c.decide_by.ensures
