use Rattle.office.proofs.Common.{sym, subst, AreFacts}
use Rattle.office_facts.specs.FactsOf.{Numbers, number_facts_of}
use Rattle.office_facts.specs.Scope.{scope_as}
use Rattle.office_facts.specs.declared.scope.Scope.{Scope}
use Rattle.office.proofs.indexed.facts_for.Goals as goal

pub returns-in-Idents-clause-facts : goal.returns-in-Idents-clause-facts
returns-in-Idents-clause-facts c = λ team.
    subst (λ (s : Scope). AreFacts team c.args.net.now (scope_as s) (Numbers (number_facts_of c.ident_facts.result)))
    (sym c.in-Idents.is)
    (c.ident_facts.ensures team)
