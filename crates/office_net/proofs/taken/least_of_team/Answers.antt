use Rattle.std.proofs.Common.{◌≡◌, ◌∙◌, ℕ, true, List, Option, ap, sym, subst}
use Rattle.std.specs.Prelude.{IfSome}
use Rattle.std.proofs.lemmas.Result.{IfOk-weaker}
use Rattle.office_types.specs.Free.{has_form, least_free}
use Rattle.office_types.specs.declared.block.Block.{Block}
use Rattle.office_facts.specs.FactsOf.{number_facts_of}
use Rattle.office_facts.proofs.Least.{least_free-formed}
use Rattle.office_net.proofs.taken.least_of_team.Goals as goal

pub returns-clause-least : goal.returns-clause-least
returns-clause-least c =
    let taken = (number_facts_of c.args.facts.now).taken in
    IfOk-weaker c.least_free.result _ _
    (λ o e. e ∙ ap (λ (v : List Block). least_free taken v c.args.form)
    (c.deref.ensures.value ∙ c.in_ok-blocks.ensures))
    c.least_free.ensures

pub returns-clause-formed : goal.returns-clause-formed
returns-clause-formed c =
    IfOk-weaker c.least_free.result _ _
    (λ o e. subst (λ (p : Option ℕ). IfSome p (λ n. has_form c.args.form n ≡ true)) (sym e)
    (least_free-formed (number_facts_of c.args.facts.now).taken c.deref.result.now c.args.form))
    c.least_free.ensures
