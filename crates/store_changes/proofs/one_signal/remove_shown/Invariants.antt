use Rattle.store_changes.proofs.Common.{◌≡◌, take, state, HasCleanDisk, WritesAndStaysIn, IsOffice, tables_of}
use Rattle.store_changes.proofs.Common.{without_places, going}
use Rattle.store_changes.specs.Places.{places_shown}
use Rattle.store_changes.proofs.one_signal.remove_shown.Given as goal

abbrev pub invariant-loop-row : goal.invariant-loop-row
invariant-loop-row g l =
    let old = state g.S.Store l.fn.tx.conn.now in
    let now = state g.S.Store l.tx.conn.now in
    record {
      frame : WritesAndStaysIn g.S.Store l.fn.tx l.tx going;
      removed : HasCleanDisk now → IsOffice old.now
          → tables_of now.now.trees ≡ without_places l.net l.number (places_shown (take l.row-index l.rows))
          (tables_of old.now.trees);
    }
