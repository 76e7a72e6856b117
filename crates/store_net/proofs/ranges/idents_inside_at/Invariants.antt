use Rattle.store_net.proofs.Common.{◌≡◌, List, take, IsTrue, state, HasCleanDisk, IsUnchanged, KeepsCommit, Survives}
use Rattle.store_net.proofs.Common.{Ident, IsOffice, tables_of}
use Rattle.store_net.specs.Numbers.{HasTaken, idents_inside}
use Rattle.store_net.proofs.ranges.idents_inside_at.Given as goal

abbrev pub invariant-loop-block : goal.invariant-loop-block
invariant-loop-block g l =
    let old = state g.S.Store l.fn.tx.conn.now in
    let now = state g.S.Store l.tx.conn.now in
    record {
      same_reference : l.tx.conn.ghost_name ≡ l.fn.tx.conn.ghost_name;
      now_is : HasCleanDisk now → IsOffice old.now → now.now ≡ old.now;
      same : HasCleanDisk now → IsOffice old.now → IsTrue old.is_open → IsUnchanged old now;
      kept : HasCleanDisk now → IsOffice old.now → KeepsCommit old now;
      survives : Survives old now (λ _. ⊥);
      read : HasCleanDisk now → IsOffice old.now → (idents : List Ident)
          → HasTaken l.table l.name (tables_of old.now.trees) idents
          → l.idents.items ≡ idents_inside l.form (take l.block-index l.blocks) idents;
    }
