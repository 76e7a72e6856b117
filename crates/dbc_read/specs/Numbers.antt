-- The numbers of the messages of a file.
use Rattle.std.specs.Prelude.{ℕ, List, map}
use Rattle.dbc_read.specs.Faults.{line_number}
use Rattle.dbc_statements.specs.declared.statement.MessageLine.{MessageLine}

abbrev pub line_numbers : List MessageLine → List ℕ
line_numbers lines = map line_number lines
