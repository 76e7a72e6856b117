use Rattle.store_changes.proofs.Common.{◌≡◌, ℕ, List, take, Signal, state, HasCleanDisk, WritesAndStaysIn, IsOffice}
use Rattle.store_changes.proofs.Common.{tables_of, AreShown, with_spns, PlacesAscend, ShowsPlaced, going}
use Rattle.store_changes.proofs.one_signal.set_shown_spn.Given as goal

abbrev pub invariant-loop-row : goal.invariant-loop-row
invariant-loop-row g l =
    let old = state g.S.Store l.fn.tx.conn.now in
    let now = state g.S.Store l.tx.conn.now in
    record {
      frame : WritesAndStaysIn g.S.Store l.fn.tx l.tx going;
      written : HasCleanDisk now → IsOffice old.now → (placed : List (ℕ × Signal)) → PlacesAscend placed
          → AreShown ShowsPlaced placed (take l.row-index l.rows)
          → tables_of now.now.trees ≡ with_spns l.net l.number l.spn placed (tables_of old.now.trees);
    }
