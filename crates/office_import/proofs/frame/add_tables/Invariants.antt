use Rattle.office_import.proofs.Common.{◌≡◌, ◌++◌, into_iter_items, Sheet}
use Rattle.office_import.proofs.frame.add_tables.Given as goal

abbrev pub invariant-loop-table : goal.invariant-loop-table
invariant-loop-table l = record {
  rest : l.sheet.tables ++ into_iter_items l.table-iterator ≡ l.initial.sheet.tables ++ l.fn.tables;
  same : ◌≡◌ {A = Sheet} l.sheet (record l.initial.sheet { tables = l.sheet.tables });
}
