use Rattle.dbc_grammar.proofs.Divisions as laws
use Rattle.dbc_grammar.proofs.statement_law.divisions_are_single.Goals as goal

pub returns-clause-one : goal.returns-clause-one
returns-clause-one c = laws.one_division

pub returns-clause-parts : goal.returns-clause-parts
returns-clause-parts c = laws.divisions_are_parts

pub returns-clause-runs : goal.returns-clause-runs
returns-clause-runs c = laws.one_parting
