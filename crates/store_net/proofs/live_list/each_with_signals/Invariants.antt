use Rattle.store_net.proofs.Common.{◌≡◌, List, map, take, IsTrue, AllByRecursion, dbc_number, state, HasCleanDisk}
use Rattle.store_net.proofs.Common.{IsUnchanged, KeepsCommit, Survives, LiveMessage, IsOffice, tables_of, AreShown}
use Rattle.store_net.proofs.Common.{AreSignalsOf, live_rows, ShowsLive}
use Rattle.store_net.specs.SignalParts.{live_in}
use Rattle.store_net.proofs.live_list.each_with_signals.Given as goal

abbrev pub invariant-loop-row : goal.invariant-loop-row
invariant-loop-row g l =
    let old = state g.S.Store l.fn.tx.conn.now in
    let now = state g.S.Store l.tx.conn.now in
    record {
      same_reference : l.tx.conn.ghost_name ≡ l.fn.tx.conn.ghost_name;
      now_is : HasCleanDisk now → IsOffice old.now → now.now ≡ old.now;
      same : HasCleanDisk now → IsOffice old.now → IsTrue old.is_open → IsUnchanged old now;
      kept : HasCleanDisk now → IsOffice old.now → KeepsCommit old now;
      survives : Survives old now (λ _. ⊥);
      reported : HasCleanDisk now → IsOffice old.now → (live : List LiveMessage) → AreShown ShowsLive live l.rows
          → AllByRecursion (λ (m : LiveMessage). AreSignalsOf l.net (dbc_number m.message.ident)
          (live_rows l.net (tables_of old.now.trees)) m.message.signals) live
          → l.messages.items ≡ map (live_in l.detail) (take l.row-index live);
    }
