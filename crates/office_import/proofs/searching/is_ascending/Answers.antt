use Rattle.office_import.specs.Searching.{number_by}
use Rattle.office_facts.proofs.Searched.{ascends}
use Rattle.office_import.proofs.searching.is_ascending.Goals as goal

pub returns : goal.returns
returns g c = λ _. ascends (number_by g.T.Identified.ident_of) c.args.things.now c.loop-i.i c.loop-i-test.false
    c.loop-i.invariant
