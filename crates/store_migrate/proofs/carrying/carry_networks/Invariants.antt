use Rattle.store_migrate.proofs.Common.{take, state, HasCleanDisk, IsOffice, tables_of, going}
use Rattle.store_tables.specs.Frames.{StaysIn}
use Rattle.store_migrate.specs.Carried.{CarriesNets}
use Rattle.store_migrate.proofs.carrying.carry_networks.Given as goal

abbrev pub invariant-loop-name : goal.invariant-loop-name
invariant-loop-name g l =
    let old = state g.S.Store l.fn.tx.conn.now in
    let now = state g.S.Store l.tx.conn.now in
    record {
      frame : StaysIn g.S.Store l.fn.tx l.tx going;
      carried : HasCleanDisk now → IsOffice old.now
          → CarriesNets (take l.name-index l.names) (tables_of old.now.trees) (tables_of now.now.trees);
    }
