-- Tables that are made beside others: no row changes.
use Rattle.store_tables.proofs.Common.{◌≡◌, ◌∙◌, ℕ, List, [], ◌∷◌, ◌++◌, map, Err, Result, false, refl, ap, subst}
use Rattle.store_tables.proofs.Common.{IsTrue, OnOk, map-append, Error, SqliteFailure, TransactionState, KeepsRows}
use Rattle.store_tables.proofs.Common.{created, next_tree, Schema, Table, Trees, Database, State, ExecutesInside}
use Rattle.std.specs.Prelude.{◌≢◌}
use Rattle.std.proofs.lemmas.Result.{on_ok_weaker}
use Rattle.store_tables.specs.Creating.{declared, schema_before, schema_with, text_of}
use Rattle.store_tables.specs.Schema.{office_schema}
use Rattle.store_tables.specs.Tables.{named, row_by}
use Rattle.store_tables.specs.Statements.{Grows, IsTableAdded, IsOfficeWith, rows_in}
use Rattle.store_tables.specs.declared.office_table.OfficeTable.{OfficeTable}
use Rattle.store_tables.specs.declared.office_table.OfficeTable.TheVariants.{Statistics}
use Rattle.store_tables.proofs.Making.{adds_table, numbered_with, with_is}

rows_kept : (tables : List Table) (old new : Trees) → KeepsRows tables old new → rows_in tables new ≡ rows_in tables old
rows_kept [] old new kept = refl
rows_kept (t ∷ tables) old new kept = ap (λ l. map (row_by t.key) l ∷ rows_in tables new) kept.0
    ∙ ap (λ l. map (row_by t.key) (old t.tree) ∷ l) (rows_kept tables old new kept.1)

rows_added : (schema : Schema) (table : Table) (old : Trees) (new : Database) → IsTableAdded schema table old new
    → rows_in (created schema table).tables new.trees ≡ rows_in schema.tables old ++ [] ∷ []
rows_added schema table old new h =
    map-append (λ (t : Table). map (row_by t.key) (new.trees t.tree)) schema.tables
    (record table { tree = next_tree schema } ∷ [])
    ∙ ap (λ l. rows_in schema.tables new.trees ++ map (row_by table.key) l ∷ []) h.at.empty
    ∙ ap (λ l. l ++ [] ∷ []) (rows_kept schema.tables old new.trees h.at.others)

-- a table that has no row shows what it shows where it isn't there
shows_none : (table : OfficeTable) (old : Trees)
    → named (rows_in (schema_before table).tables old ++ [] ∷ []) ≡ named (rows_in (schema_before table).tables old)
unfolding office_schema
shows_none Statistics old = refl
shows_none table old = refl

grown : (table : OfficeTable) (old new : State) → IsOfficeWith (schema_before table) old.now
    → IsTableAdded (schema_before table) (declared table) old.now.trees new.now → IsTrue new.in_transaction
    → Grows (schema_before table) (created (schema_before table) (declared table)) old new
grown table old new was done inside =
    record {
      office = record {
        schema_is = done.at.schema_is;
        sound = done.sound;
        numbered =
            numbered_with (schema_before table) (declared table) old.now.trees new.now done was.numbered;
      };
      tables_are = ap named (rows_added (schema_before table) (declared table) old.now.trees new.now done)
          ∙ shows_none table old.now.trees;
      inside = inside;
    }

module _ (table : OfficeTable) (ours : table ≢ Statistics) (old new : State) (r : Result ℕ Error)
    (ended : old.in_transaction ≡ false → r ≡ Err (SqliteFailure TransactionState))
    (ran : IsTrue old.in_transaction → ExecutesInside 0 (text_of table) [] old new r) where
  pub grows_table : IsOfficeWith (schema_before table) old.now
      → OnOk r (Grows (schema_before table) (schema_with table) old new)
  grows_table was = subst (λ s. OnOk r (Grows (schema_before table) s old new)) (with_is table)
      (on_ok_weaker r (λ done. grown table old new was done.0 done.1)
      (adds_table table ours old new r ended ran was.schema_is))

  pub extends_table : old.now.schema ≡ schema_before table → OnOk r (new.now.schema ≡ schema_with table)
  extends_table has = subst (λ s. OnOk r (new.now.schema ≡ s)) (with_is table)
      (on_ok_weaker r (λ done. done.0.at.schema_is) (adds_table table ours old new r ended ran has))
