use Rattle.dbc_read.proofs.Faultless.{can_be_sheet}
use Rattle.dbc_read.proofs.FaultsAt.{at_none, none_weaker}
use Rattle.dbc_read.proofs.first_fault.first_fault.Goals as goal

pub returns-clause-none : goal.returns-clause-none
returns-clause-none c =
    none_weaker c.earlier.result _ _
    (λ none. can_be_sheet c.args.gathered.now
    (at_none c.in_ok-definition.definition _ none.0 c.in_ok-definition.ensures.none)
    (rw c.as_slice.ensures at (at_none c.values_fault-value.result _ none.1 c.values_fault-value.ensures.none)))
    c.earlier.ensures.none
