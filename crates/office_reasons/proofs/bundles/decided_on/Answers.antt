use Rattle.std.proofs.Common.{◌∙◌, refl, sym, ap, subst}
use Rattle.std.proofs.lemmas.Result.{IfOk-weaker}
use Rattle.office_facts.specs.Excerpt.{AreFacts, fits}
use Rattle.office_facts.specs.FactsOf.{facts_of}
use Rattle.office_reasons.proofs.bundles.decided_on.Goals as goal

pub decide_by-requires : goal.decide_by-requires
decide_by-requires c = ap (λ s. fits s (facts_of c.walk-facts.result)) (sym c.scope_of.ensures)
    ∙ c.walk-facts.ensures.fits

pub returns : goal.returns
returns c =
    let team = c.args.team.now in
    let net = c.args.net.now in
    IfOk-weaker c.decide_by.result _ _
    (λ d h. h net c.args.book.now (subst (λ s. AreFacts team net s (facts_of c.walk-facts.result)) c.scope_of.ensures
    (c.walk-facts.ensures.facts team)) (λ reads. refl))
    c.decide_by.ensures
