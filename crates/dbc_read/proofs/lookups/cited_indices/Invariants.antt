use Rattle.dbc_read.proofs.Common.{◌++◌, ℕ, List, Option, drop, statements_of}
use Rattle.dbc_grammar.specs.Statement as dbc
use Rattle.dbc_read.specs.Lookups.{AreCitedIndices, AreLookups}
use Rattle.dbc_read.proofs.lookups.cited_indices.Given as goal

abbrev pub invariant-loop-statement : goal.invariant-loop-statement
invariant-loop-statement l = (all : List dbc.Statement) → AreLookups l.lookups all → (more : List (Option ℕ))
    → AreCitedIndices all (statements_of (drop l.statement-index l.statements)) more
    → AreCitedIndices all (statements_of l.statements) (l.found.items ++ more)
