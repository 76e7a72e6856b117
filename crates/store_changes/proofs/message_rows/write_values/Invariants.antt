use Rattle.store_changes.proofs.Common.{◌≡◌, ◌++◌, take, AllByRecursion, ValueText, IsDecimal, state, HasCleanDisk}
use Rattle.store_changes.proofs.Common.{WritesAndStaysIn, IsOffice, tables_of, value_rows, going}
use Rattle.store_changes.proofs.message_rows.write_values.Given as goal

abbrev pub invariant-loop-entry : goal.invariant-loop-entry
invariant-loop-entry g l =
    let old = state g.S.Store l.fn.tx.conn.now in
    let now = state g.S.Store l.tx.conn.now in
    record {
      counted : l.index ≡ l.entry-index;
      decimals : AllByRecursion (λ (v : ValueText). IsDecimal v.value) (take l.entry-index l.values);
      frame : WritesAndStaysIn g.S.Store l.fn.tx l.tx going;
      written : HasCleanDisk now → IsOffice old.now
          → tables_of now.now.trees
          ≡ (record (tables_of old.now.trees) {
            sigvalue = (tables_of old.now.trees).sigvalue ++ value_rows l.net l.number l.place 0
                (take l.entry-index l.values);
          });
    }
