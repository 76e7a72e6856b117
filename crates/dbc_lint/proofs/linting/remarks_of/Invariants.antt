use Rattle.dbc_lint.proofs.Common.{◌≡◌, ◌++◌, drop}
use Rattle.dbc_statements.specs.Statement.{statements_of}
use Rattle.dbc_lint.specs.OfFile.{of_statements}
use Rattle.dbc_lint.proofs.linting.remarks_of.Given as goal

abbrev pub invariant-loop-statement : goal.invariant-loop-statement
invariant-loop-statement l =
    l.remarks.items ++ of_statements l.text l.whole (statements_of (drop l.statement-index l.statements))
    ≡ of_statements l.text l.whole (statements_of l.statements)
