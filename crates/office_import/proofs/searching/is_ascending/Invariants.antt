use Rattle.office_import.specs.Searching.{number_by}
use Rattle.office_facts.proofs.Searched.{Climbs}
use Rattle.office_import.proofs.searching.is_ascending.Given as goal

abbrev pub invariant-loop-i : goal.invariant-loop-i
invariant-loop-i g l = Climbs (number_by g.T.Identified.ident_of) l.things l.i
