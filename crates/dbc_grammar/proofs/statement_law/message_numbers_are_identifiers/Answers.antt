use Rattle.dbc_grammar.proofs.Identifiers as laws
use Rattle.dbc_grammar.proofs.statement_law.message_numbers_are_identifiers.Goals as goal

pub returns : goal.returns
returns c = laws.numbers_are_identifiers
