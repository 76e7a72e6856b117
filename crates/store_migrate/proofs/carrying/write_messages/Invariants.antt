use Rattle.store_migrate.proofs.Common.{take, state, HasCleanDisk, IsOffice, tables_of, going}
use Rattle.store_tables.specs.Frames.{WritesAndStaysIn}
use Rattle.store_migrate.specs.Carried.{AddsLive}
use Rattle.store_migrate.proofs.carrying.write_messages.Given as goal

abbrev pub invariant-loop-message : goal.invariant-loop-message
invariant-loop-message g l =
    let old = state g.S.Store l.fn.tx.conn.now in
    let now = state g.S.Store l.tx.conn.now in
    record {
      frame : WritesAndStaysIn g.S.Store l.fn.tx l.tx going;
      added : HasCleanDisk now → IsOffice old.now
          → AddsLive l.name (take l.message-index l.live) (tables_of old.now.trees) (tables_of now.now.trees);
    }
