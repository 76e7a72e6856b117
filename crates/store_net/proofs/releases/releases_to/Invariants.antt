use Rattle.store_net.proofs.Common.{◌≡◌, Option, take, IsTrue, state, HasCleanDisk, IsUnchanged, KeepsCommit, Survives}
use Rattle.store_net.proofs.Common.{Net, IsOffice, tables_of, IsNetAt}
use Rattle.store_net.specs.Parts.{releases_in}
use Rattle.store_net.proofs.releases.releases_to.Given as goal

abbrev pub invariant-loop-index : goal.invariant-loop-index
invariant-loop-index g l =
    let old = state g.S.Store l.fn.tx.conn.now in
    let now = state g.S.Store l.tx.conn.now in
    record {
      same_reference : l.tx.conn.ghost_name ≡ l.fn.tx.conn.ghost_name;
      now_is : HasCleanDisk now → IsOffice old.now → now.now ≡ old.now;
      same : HasCleanDisk now → IsOffice old.now → IsTrue old.is_open → IsUnchanged old now;
      kept : HasCleanDisk now → IsOffice old.now → KeepsCommit old now;
      survives : Survives old now (λ _. ⊥);
      reported : HasCleanDisk now → IsOffice old.now → (net : Option Net)
          → IsNetAt l.name (tables_of old.now.trees) net → l.read.sheets ≡ take l.index (releases_in net);
    }
