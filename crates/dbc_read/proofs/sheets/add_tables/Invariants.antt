use Rattle.dbc_read.proofs.Common.{◌≡◌, ◌++◌, map, into_iter_items, table_of}
use Rattle.dbc_read.proofs.sheets.add_tables.Given as goal

abbrev pub invariant-loop-line : goal.invariant-loop-line
invariant-loop-line l = record {
  rest : l.sheet.tables ++ map table_of (into_iter_items l.line-iterator) ≡ l.initial.sheet.tables
      ++ map table_of l.fn.lines;
  same : l.sheet ≡ record l.initial.sheet { tables = l.sheet.tables };
}
