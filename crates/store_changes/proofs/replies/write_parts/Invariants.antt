use Rattle.store_changes.proofs.Common.{◌≡◌, ◌+◌, ◌++◌, take, state, HasCleanDisk, WritesAndStaysIn, IsOffice}
use Rattle.store_changes.proofs.Common.{tables_of, going}
use Rattle.store_changes.specs.Kept.{part_rows}
use Rattle.store_changes.proofs.replies.write_parts.Given as goal

abbrev pub invariant-loop-part : goal.invariant-loop-part
invariant-loop-part g l =
    let old = state g.S.Store l.fn.tx.conn.now in
    let now = state g.S.Store l.tx.conn.now in
    record {
      counted : l.place ≡ l.part-index + 1;
      frame : WritesAndStaysIn g.S.Store l.fn.tx l.tx going;
      written : HasCleanDisk now → IsOffice old.now
          → tables_of now.now.trees
          ≡ (record (tables_of old.now.trees)
          { part = (tables_of old.now.trees).part ++ part_rows l.team l.key 1 (take l.part-index l.parts) });
    }
