use Rattle.dbc_grammar.proofs.DecimalNumbers as laws
use Rattle.dbc_grammar.proofs.statement_law.numbers_are_decimals.Goals as goal

pub returns : goal.returns
returns c = laws.numbers_are_decimals c.readings_are_computed.ensures
