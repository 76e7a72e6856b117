use Rattle.dbc_lint.proofs.Common.{◌≡◌, ◌++◌, drop}
use Rattle.dbc_statements.specs.Statement.{names_of}
use Rattle.dbc_lint.specs.OfFile.{of_names}
use Rattle.dbc_lint.proofs.of_statement.add_of_names.Given as goal

abbrev pub invariant-loop-node : goal.invariant-loop-node
invariant-loop-node l =
    l.remarks.items ++ of_names l.whole l.lexer.tokens (names_of (drop l.node-index l.nodes))
    ≡ l.initial.remarks.items ++ of_names l.whole l.initial.lexer.tokens (names_of l.nodes)
