use Rattle.dbc_grammar.proofs.Divisions as laws
use Rattle.dbc_grammar.proofs.statement_law.statements_are_single.Goals as goal

pub returns-clause-one : goal.returns-clause-one
returns-clause-one c = laws.one_statement

pub returns-clause-runs : goal.returns-clause-runs
returns-clause-runs c = laws.statements_are_runs
