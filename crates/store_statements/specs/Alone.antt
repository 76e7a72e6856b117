-- What is read outside a transaction, of the tables that an office of whatever form has.
use Rattle.std.specs.Prelude.{◌≡◌, ◌≤◌, false, IfOk, OnOk, Result}
use Rattle.sqlite.specs.Held.{Held, state}
use Rattle.sqlite.specs.State.{HasCleanDisk, IsUnchanged, KeepsCommit, Survives}
use Rattle.sqlite_trees.specs.View.{doubt}
use Rattle.sqlite_trees.specs.declared.store.Store.{Ghosts}
use Rattle.store_tables.specs.Schema.{IsOfficeSchema}
use Rattle.store_tables.specs.Tables.{Tables, tables_of}

-- if it succeeds, this holds of its answer and of the tables
abbrev pub AsksAlone : {S X E : Type 0} → (g : Ghosts S) → Held S → Held S → Result X E → (X → Tables → Type 0) → Type 0
AsksAlone g old new result IsFound = HasCleanDisk (state g new) → IsOfficeSchema (state g old).now.schema
    → IfOk result (λ x. IsFound x (tables_of (state g old).now.trees))

-- it only reads: if it succeeds, it leaves everything as it is, and no transaction is open where none was before
pub record ReadsAlone {S X E : Type 0} (g : Ghosts S) (old new : Held S) (result : Result X E) : Type 0 where
  pub same : HasCleanDisk (state g new) → IsOfficeSchema (state g old).now.schema
      → OnOk result (IsUnchanged (state g old) (state g new))
  pub kept : HasCleanDisk (state g new) → IsOfficeSchema (state g old).now.schema
      → KeepsCommit (state g old) (state g new)
  pub mode : (state g old).in_transaction ≡ false → (state g new).in_transaction ≡ false
  pub survives : IsOfficeSchema (state g old).now.schema → Survives (state g old) (state g new) (λ _. ⊥)
  pub clean : doubt (state g old).is_clean ≤ doubt (state g new).is_clean
