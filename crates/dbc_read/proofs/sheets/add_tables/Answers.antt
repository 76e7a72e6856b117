use Rattle.dbc_read.proofs.Common.{◌++◌, ◌∷◌, ◌∙◌, map, ap, into_iter_items, err_from_is_err_and, table_of}
use Rattle.dbc_read.proofs.SheetsFit.{entries_refused, table_refused}
use Rattle.dbc_read.proofs.sheets.add_tables.Goals as goal

pub returns-in_err-table-clause-refused : goal.returns-in_err-table-clause-refused
returns-in_err-table-clause-refused c =
    let p = err_from_is_err_and c.from_residual.result c.from_residual.ensures.1 in
    let e = rw c.in-Some.ensures.steps.0 at c.loop-line.invariant.rest in
    rw (p.1, p.2) (entries_refused c.loop-line.sheet.tables (table_of c.in-Some.line)
    (map table_of (into_iter_items c.next.new.self)) _ _ e c.in_err-table.ensures.refused)

pub returns-in_err-with_table-clause-refused : goal.returns-in_err-with_table-clause-refused
returns-in_err-with_table-clause-refused c =
    let r = c.from_residual-in_err-with_table in
    let p = err_from_is_err_and r.result r.ensures.1 in
    let before = c.loop-line.sheet.tables in
    let after = map table_of (into_iter_items c.next.new.self) in
    let e = ap (λ t. before ++ t ∷ after) c.in_ok-table.ensures.ok
    ∙ rw c.in-Some.ensures.steps.0 at c.loop-line.invariant.rest in
    rw (p.1, p.2) (table_refused before c.in_ok-table.table after _ _ e c.in_err-with_table.ensures.refused)
