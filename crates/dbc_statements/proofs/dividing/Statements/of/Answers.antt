use Rattle.dbc_statements.proofs.Common.{[], inl, refl, sym}
use Rattle.dbc_statements.proofs.dividing.Statements.of.Goals as goal

pub invariant_of-result : goal.invariant_of-result
invariant_of-result c = record { read = []; whole = sym c.of.ensures; reached = inl refl }
