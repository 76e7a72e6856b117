use Rattle.dbc_read.proofs.Common.{into_iter_items, statements_of}
use Rattle.dbc_read.specs.Lookups.{AreCitedIndices}
use Rattle.dbc_read.specs.Gathering.{Gathers}
use Rattle.dbc_read.proofs.gathered.gathered_of.Given as goal

abbrev pub invariant-loop-statement : goal.invariant-loop-statement
invariant-loop-statement l = record {
  gathers : Gathers (statements_of l.fn.statements.items) l.gathered
      (statements_of (into_iter_items l.statement-iterator));
  indices : AreCitedIndices (statements_of l.fn.statements.items) (statements_of (into_iter_items l.statement-iterator))
      l.indices;
}
