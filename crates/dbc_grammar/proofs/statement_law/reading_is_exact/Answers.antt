use Rattle.dbc_grammar.proofs.Divisions as laws
use Rattle.dbc_grammar.proofs.statement_law.reading_is_exact.Goals as goal

pub returns : goal.returns
returns c = laws.reading_is_exact
