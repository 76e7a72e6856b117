-- Statements that say no sheet.
use Rattle.std.specs.Prelude.{List}
use Rattle.dbc_grammar.specs.Saying.{Says}
use Rattle.dbc_grammar.specs.Statement.{Statement}
use Rattle.dbc_sheet.specs.declared.sheet.Sheet.{Sheet}

abbrev pub SaysNothing : List Statement → Type 0
SaysNothing statements = (s : Sheet) → ¬ Says statements s
