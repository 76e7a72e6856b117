use Rattle.std.specs.Option.{MatchOption}
use Rattle.office.proofs.Common.{◌≡◌, Option, Some, None, sym, ap, subst, ◌∙◌, Answer, answered, Answered, first_of}
use Rattle.office_history.specs.History.{answer_again}
use Rattle.office.specs.Keyed.{HoldsHistory}
use Rattle.office.proofs.Kept.{again_holds}
use Rattle.office.proofs.keyed_office.KeyedOffice.arrive.Goals as goal

pub returns-in-Some-clause-held : goal.returns-in-Some-clause-held
returns-in-Some-clause-held c h holds =
    let a : Answered = answered c.args.team.now c.args.key.now c.args.request.now c.in-Some.answer in
    let held = subst (HoldsHistory h) (sym c.self.view_is) holds in
    let it = subst (λ (o : Option Answer). MatchOption o (first_of h a ≡ None)
    (λ given. (first : Answered) × (first_of h a ≡ Some first)
    × (given ≡ answer_again first c.as_slice.result.now))) c.in-Some.is
    (c.in_ok-answer.ensures h held.kept a (sym c.in_ok-pair.ensures.team) (sym c.in_ok-pair.ensures.key)) in
    again_holds c.histories_grow.ensures h a it.0 c.args.self.now holds it.1
    (it.2 ∙ ap (answer_again it.0) c.as_slice.ensures.value)
