use Rattle.store_changes.proofs.Common.{◌≡◌, take, AllByRecursion, state, HasCleanDisk, WritesAndStaysIn, IsOffice}
use Rattle.store_changes.proofs.Common.{tables_of, IsSignal, placed_from, with_signals, going}
use Rattle.store_changes.proofs.message_rows.write_signals.Given as goal

abbrev pub invariant-loop-signal : goal.invariant-loop-signal
invariant-loop-signal g l =
    let old = state g.S.Store l.fn.tx.conn.now in
    let now = state g.S.Store l.tx.conn.now in
    record {
      counted : l.place ≡ l.signal-index;
      signals : AllByRecursion IsSignal (take l.signal-index l.signals);
      frame : WritesAndStaysIn g.S.Store l.fn.tx l.tx going;
      written : HasCleanDisk now → IsOffice old.now
          → tables_of now.now.trees ≡ with_signals l.net l.number (placed_from 0 (take l.signal-index l.signals))
          (tables_of old.now.trees);
    }
