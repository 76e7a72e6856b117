use Rattle.store_looks.proofs.Common.{◌≡◌, List, map, take, IsTrue, AllByRecursion, flat_map, state, HasCleanDisk}
use Rattle.store_looks.proofs.Common.{Answered, asked_of, IsOffice, tables_of, AreKept, AreKeptParts}
use Rattle.sqlite.specs.State.{IsUnchanged, KeepsCommit, Survives}
use Rattle.store_looks.specs.Asked.{IsFirstOf}
use Rattle.store_looks.proofs.requests.requests_under.Given as goal

abbrev pub invariant-loop-key : goal.invariant-loop-key
invariant-loop-key g l =
    let old = state g.S.Store l.fn.tx.conn.now in
    let now = state g.S.Store l.tx.conn.now in
    let tables = tables_of old.now.trees in
    record {
      same_reference : l.tx.conn.ghost_name ≡ l.fn.tx.conn.ghost_name;
      now_is : HasCleanDisk now → IsOffice old.now → now.now ≡ old.now;
      same : HasCleanDisk now → IsOffice old.now → IsTrue old.is_open → IsUnchanged old now;
      kept : HasCleanDisk now → IsOffice old.now → KeepsCommit old now;
      survives : Survives old now (λ _. ⊥);
      reported : HasCleanDisk now → IsOffice old.now → (h : List Answered) → AreKept h tables.reply
          → AreKeptParts h tables.part → (listed : List Answered) → AllByRecursion (IsFirstOf h l.team) listed
          → l.keys ≡ map (λ (a : Answered). a.key) listed
          → l.requests.items ≡ flat_map asked_of (take l.key-index listed);
    }
