use Rattle.store_net.proofs.Common.{◌≡◌, List, Some, map, take, IsTrue, AllByRecursion, state, HasCleanDisk}
use Rattle.store_net.proofs.Common.{IsUnchanged, KeepsCommit, Survives, Net, IsOffice, tables_of, nets_text, IsNetAt}
use Rattle.store_net.proofs.nets.lines_at.Given as goal

abbrev pub invariant-loop-name : goal.invariant-loop-name
invariant-loop-name g l =
    let old = state g.S.Store l.fn.tx.conn.now in
    let now = state g.S.Store l.tx.conn.now in
    record {
      same_reference : l.tx.conn.ghost_name ≡ l.fn.tx.conn.ghost_name;
      now_is : HasCleanDisk now → IsOffice old.now → now.now ≡ old.now;
      same : HasCleanDisk now → IsOffice old.now → IsTrue old.is_open → IsUnchanged old now;
      kept : HasCleanDisk now → IsOffice old.now → KeepsCommit old now;
      survives : Survives old now (λ _. ⊥);
      reported : HasCleanDisk now → IsOffice old.now → (nets : List Net)
          → AllByRecursion (λ (net : Net). IsNetAt net.name (tables_of old.now.trees) (Some net)) nets
          → l.names ≡ map (λ (net : Net). net.name) nets → l.text.items ≡ nets_text (take l.name-index nets);
    }
