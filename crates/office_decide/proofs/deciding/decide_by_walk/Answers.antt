use Rattle.office_decide.proofs.Common.{◌≡◌, ◌∙◌, Option, Some, refl, sym, ap, subst, option_copied, IfOk-weaker, Net}
use Rattle.office_decide.proofs.Common.{AreFacts, facts_of, Decides, acted}
use Rattle.office_facts.specs.Excerpt.{fits}
use Rattle.office_decide.proofs.deciding.decide_by_walk.Goals as goal

pub decide_by-requires : goal.decide_by-requires
decide_by-requires c = ap (λ s. fits s (facts_of c.walk-facts.result)) (sym c.scope_of.ensures)
    ∙ c.walk-facts.ensures.fits

pub returns-in-Some : goal.returns-in-Some
returns-in-Some c =
    let team = c.args.team.now in
    let name = c.args.name.now in
    let book = c.args.book.now in
    let net = c.in-Some.net.now in
    let there : option_copied c.args.net ≡ Some net = ap option_copied c.in-Some.is in
    IfOk-weaker c.decide_by.result _ _
    (λ d h. subst (λ (n : Option Net). Decides name (record { net = n; book = book })
    (acted team name n book c.args.action.now) d) (sym there)
    (h net book (subst (λ s. AreFacts team net s (facts_of c.walk-facts.result)) c.scope_of.ensures
    (c.walk-facts.ensures.facts team)) (λ reads. refl)))
    c.decide_by.ensures
