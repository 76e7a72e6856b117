-- Tables of a form as an office's: an earlier office's once those that it lacked are made beside them, and those with
-- statistics.
use Rattle.store_migrate.proofs.Common.{◌≡◌, ◌∙◌, [], ap, inl, refl, sym, subst, on_ok_weaker, Database, Schema}
use Rattle.store_migrate.proofs.Common.{IsOffice, Tables, tables_of, named_rows}
use Rattle.std.specs.Prelude.{Result, drop}
use Rattle.sqlite.specs.Tree.{Trees}
use Rattle.sqlite.specs.State.{State}
use Rattle.sqlite.specs.declared.transaction.Transaction.{Transaction}
use Rattle.sqlite_trees.specs.declared.store.Store.{Ghosts}
use Rattle.store_tables.specs.Frames.{Edits, OnlyWrites}
use Rattle.store_tables.specs.Schema.{IsCurrentSchema, analyzed_schema, office_schema, schema_13, schema_9}
use Rattle.store_tables.specs.Statements.{Grows, IsOfficeWith, rows_in, statistics_in, statistics_of, tables_in}
use Rattle.store_migrate.specs.Carrying.{BecomesOffice}

pub office_with : (schema : Schema) (db : Database) → IsCurrentSchema schema → IsOfficeWith schema db → IsOffice db
office_with schema db current has = record {
  schema = subst IsCurrentSchema (sym has.schema_is) current;
  trees = record { schema = schema; current = current; sound = has.sound; numbered = has.numbered };
  listed = sym has.schema_is;
}

-- the statistics are none of the office's tables
pub named_analyzed : (db : Trees) → tables_of db ≡ tables_in analyzed_schema db
unfolding analyzed_schema office_schema
named_analyzed db = refl

pub grown_office : (schema : Schema) (old new : State) → Grows schema office_schema old new → IsOffice new.now
grown_office schema old new grown = office_with office_schema new.now (inl refl) grown.office

pub grown_tables : (schema : Schema) (old new : State) → Grows schema office_schema old new
    → tables_of new.now.trees ≡ tables_in schema old.now.trees
grown_tables schema old new grown = named_rows new.now.trees ∙ grown.tables_are

-- no statistics are beside the tables of an earlier office, nor beside those that it becomes
pub none_beside : (schema : Schema) → drop 14 schema.tables ≡ [] → (db : Database) → db.schema ≡ schema
    → statistics_of db ≡ []
none_beside schema none db is =
    ap (λ s. statistics_in s db.trees) is ∙ ap (λ tables. rows_in tables db.trees) none

pub none_after_9 : drop 14 schema_9.tables ≡ []
unfolding schema_9
none_after_9 = refl

pub none_after_13 : drop 14 schema_13.tables ≡ []
unfolding schema_13
none_after_13 = refl

pub none_after_14 : drop 14 office_schema.tables ≡ []
unfolding office_schema
none_after_14 = refl

pub grown_statistics : (schema : Schema) (old new : State) → drop 14 schema.tables ≡ [] → IsOfficeWith schema old.now
    → Grows schema office_schema old new → statistics_of new.now ≡ statistics_of old.now
grown_statistics schema old new none was grown =
    none_beside office_schema none_after_14 new.now grown.office.schema_is
    ∙ sym (none_beside schema none old.now was.schema_is)

-- all tables of an office, with statistics or not, of which rows alone are changed
pub edited_office : {S X E : Type 0} (g : Ghosts S) (old new : Transaction S) (result : Result X E) (schema : Schema)
    (made : Tables → Tables) → IsCurrentSchema schema → OnlyWrites g old new → Edits g old new result made
    → BecomesOffice g old new result schema schema
edited_office g old new result schema made current w edits = record {
  same_reference = w.same_reference;
  office = λ clean was. on_ok_weaker result (λ m. m.office) (edits clean (office_with schema _ current was));
  schema_is = λ clean was. on_ok_weaker result (λ m. m.same_schema ∙ was.schema_is)
      (edits clean (office_with schema _ current was));
  statistics = λ clean was. on_ok_weaker result (λ m. m.statistics) (edits clean (office_with schema _ current was));
  inside = λ clean was. on_ok_weaker result (λ m. m.inside) (edits clean (office_with schema _ current was));
  kept = λ clean was. w.kept clean;
  survives = w.survives;
}
