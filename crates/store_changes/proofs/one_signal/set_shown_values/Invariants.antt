use Rattle.store_changes.proofs.Common.{◌≡◌, ℕ, List, take, AllByRecursion, Signal, ValueText, IsDecimal, state, Row}
use Rattle.store_changes.proofs.Common.{HasCleanDisk, WritesAndStaysIn, IsOffice, tables_of, AreShown, with_texts}
use Rattle.store_changes.proofs.Common.{PlacesAscend, ShowsPlaced, going}
use Rattle.store_changes.proofs.one_signal.set_shown_values.Given as goal

abbrev pub invariant-loop-row : goal.invariant-loop-row
invariant-loop-row g l =
    let old = state g.S.Store l.fn.tx.conn.now in
    let now = state g.S.Store l.tx.conn.now in
    record {
      decimals : AllByRecursion (λ (x : Row). AllByRecursion (λ (v : ValueText). IsDecimal v.value) l.values)
          (take l.row-index l.rows);
      frame : WritesAndStaysIn g.S.Store l.fn.tx l.tx going;
      written : HasCleanDisk now → IsOffice old.now → (placed : List (ℕ × Signal)) → PlacesAscend placed
          → AreShown ShowsPlaced placed (take l.row-index l.rows)
          → tables_of now.now.trees ≡ with_texts l.net l.number l.values placed (tables_of old.now.trees);
    }
