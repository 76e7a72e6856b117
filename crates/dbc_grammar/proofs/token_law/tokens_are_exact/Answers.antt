use Rattle.dbc_grammar.proofs.TokenExact.{exact, fault_exact}
use Rattle.dbc_grammar.proofs.TokenSlices.{are_slices}
use Rattle.dbc_grammar.proofs.TokenTexts.{inside_kept}
use Rattle.dbc_grammar.proofs.TokensOnce.{tokens_once}
use Rattle.dbc_grammar.proofs.token_law.tokens_are_exact.Goals as goal

pub returns-clause-read : goal.returns-clause-read
returns-clause-read c = exact 0

pub returns-clause-one : goal.returns-clause-one
returns-clause-one c = tokens_once 0

pub returns-clause-slices : goal.returns-clause-slices
returns-clause-slices c = are_slices

pub returns-clause-faults : goal.returns-clause-faults
returns-clause-faults c = fault_exact 0

pub returns-clause-insides : goal.returns-clause-insides
returns-clause-insides c = inside_kept
