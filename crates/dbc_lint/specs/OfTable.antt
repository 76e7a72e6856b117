-- The remarks on a value table.
use Rattle.std.specs.Prelude.{ℕ, List, ◌++◌}
use Rattle.dbc_sheet.specs.declared.value_texts.ValueText.{ValueText}
use Rattle.dbc_lint.specs.OfSignal.{is_long, values_twice}
use Rattle.dbc_lint.specs.Remark.{remark, when}
use Rattle.dbc_lint.specs.declared.kind.Kind.TheVariants.{LongName}
use Rattle.dbc_lint.specs.declared.remark.Remark.{Remark}

-- the remarks on a value table, in ascending order of their numbers
abbrev pub of_table : List ℕ → List ValueText → ℕ → List Remark
of_table name entries at = when (is_long name) (remark LongName at name) ++ values_twice name at entries 0 entries
