use Rattle.store_changes.proofs.Common.{◌≡◌, ◌++◌, take, state, HasCleanDisk, WritesAndStaysIn, IsOffice, tables_of}
use Rattle.store_changes.proofs.Common.{receiver_rows, going}
use Rattle.store_changes.proofs.message_rows.write_receivers.Given as goal

abbrev pub invariant-loop-name : goal.invariant-loop-name
invariant-loop-name g l =
    let old = state g.S.Store l.fn.tx.conn.now in
    let now = state g.S.Store l.tx.conn.now in
    record {
      counted : l.index ≡ l.name-index;
      frame : WritesAndStaysIn g.S.Store l.fn.tx l.tx going;
      written : HasCleanDisk now → IsOffice old.now
          → tables_of now.now.trees
          ≡ (record (tables_of old.now.trees) {
            receiver = (tables_of old.now.trees).receiver ++ receiver_rows l.net l.number l.place 0
                (take l.name-index l.receivers);
          });
    }
