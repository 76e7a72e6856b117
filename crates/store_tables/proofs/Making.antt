-- What the text that makes a table makes of a database.
use Rattle.store_tables.proofs.Common.{◌≡◌, ℕ, List, [], ◌∷◌, ◌++◌, false, None, Ok, Err, Result, refl, sym, ap}
use Rattle.store_tables.proofs.Common.{subst, ◌∙◌, inl, inr, IsTrue, OnOk, AllByRecursion, cases_Bool}
use Rattle.store_tables.proofs.Common.{Error, SqliteFailure, TransactionState, Table, Trees, Schema}
use Rattle.store_tables.proofs.Common.{created, next_tree, KeepsRows, Database, Tally, State, Executes, ExecutesInside}
use Rattle.store_tables.proofs.Common.{IsSound, runs_as, IsShaped}
use Rattle.sqlite.specs.Command.TheVariants.{CreateTable}
use Rattle.sqlite.specs.Does.{lacks_sequence}
use Rattle.sqlite.specs.Listing.{understood}
use Rattle.sqlite.specs.State.{Runs}
use Rattle.sqlite_tied.specs.Compute.{everything}
use Rattle.store_tables.specs.Creating.{Defines, declared, schema_before, schema_with, text_of}
use Rattle.store_tables.specs.Schema.{analyzed_schema, office_schema}
use Rattle.store_tables.specs.declared.office_table.OfficeTable.{OfficeTable}
use Rattle.store_tables.specs.declared.office_table.OfficeTable.TheVariants.{Statistics}
use Rattle.std.specs.Prelude.{◌≢◌}
use Rattle.sqlite_trees.specs.declared.store.Shape.TheVariants as shape
use Rattle.store_tables.specs.Tables.{AreNumbered, IsEmptyWith}
use Rattle.store_tables.specs.Statements.{AreMade, IsTableAdded, IsAt, IsEmptyOffice}
use Rattle.std.proofs.lemmas.Result.{on_ok_weaker}
use Rattle.store_tables.proofs.Inserting.{went, same_value}

all_then : {X : Type 0} (P : X → Type 0) (xs : List X) (x : X) → AllByRecursion P xs → P x
    → AllByRecursion P (xs ++ x ∷ [])
all_then P [] x all one = (one, tt)
all_then P (y ∷ ys) x all one = (all.0, all_then P ys x all.1 one)

still_empty : (old new : Trees) (tables : List Table) → AllByRecursion (λ t. new t.tree ≡ old t.tree) tables
    → AllByRecursion (λ t. old t.tree ≡ []) tables → AllByRecursion (λ t. new t.tree ≡ []) tables
still_empty old new [] same empty = tt
still_empty old new (t ∷ tables) same empty = (same.0 ∙ empty.0, still_empty old new tables same.1 empty.1)

-- ---- a table that is made beside others, whose rows stay

-- inside a transaction, a table was added to those of the schema: it has no row, and the others have those that they
-- had
added : (schema : Schema) (sql : List ℕ) (table : Table) → Defines schema sql table → (old new : State) (count : ℕ)
    → old.now.schema ≡ schema → Executes sql [] old new (Ok count)
    → IsTableAdded schema table old.now.trees new.now
added schema sql table it old new count has h =
    let w = subst (λ t. Runs old new None CreateTable t [] count) it.whole
    (runs_as sql [] old new schema has CreateTable it.command it.plain count h) in
    let all = went w.changed in
    let first = went all.1 in
    let made = first.1 in
    let both : Ok made.table ≡ Ok table = sym made.defined ∙ it.defined in
    let same : made.table ≡ table = cc in
    let after : first.0.schema ≡ created schema table = made.is ∙ ap (λ s. created s made.table) has
    ∙ ap (created schema) same in
    let plain : lacks_sequence first.0.schema ≡ false = ap lacks_sequence after ∙ it.counts in
    let now : new.now ≡ first.0 = ap (λ (p : Tally × Database). p.1) (same_value all.2)
    ∙ same_value (rw plain at first.2) in
    let kept : KeepsRows schema.tables old.now.trees first.0.trees =
    subst (λ (s : Schema). KeepsRows s.tables old.now.trees first.0.trees) has made.others in
    let fresh : first.0.trees (next_tree schema) ≡ [] = subst (λ s. first.0.trees (next_tree s) ≡ []) has made.empty in
    let is : IsAt schema table old.now.trees first.0 = record { schema_is = after; others = kept; empty = fresh } in
    let here : IsAt schema table old.now.trees new.now = subst (IsAt schema table old.now.trees) (sym now) is in
    record { at = here; sound = subst (λ s. IsSound s new.now.trees) here.schema_is w.sound }

pub adds : (schema : Schema) (sql : List ℕ) (table : Table) → Defines schema sql table
    → (old new : State) (r : Result ℕ Error) → old.now.schema ≡ schema
    → (old.in_transaction ≡ false → r ≡ Err (SqliteFailure TransactionState))
    → (IsTrue old.in_transaction → ExecutesInside 0 sql [] old new r)
    → OnOk r (IsTableAdded schema table old.now.trees new.now × IsTrue new.in_transaction)
adds schema sql table it old new (Err e) has ended ran = tt
adds schema sql table it old new (Ok count) has ended ran =
    let mode : IsTrue old.in_transaction =
    elim (cases_Bool old.in_transaction) [ inl t ↦ t | inr f ↦ absurd (let e = ended f in cc) ] in
    let all = ran mode in
    (added schema sql table it old new count has all.0, all.1.mode)

-- where the others have no row, no table has one
made : (schema : Schema) (table : Table) (old new : State) → IsEmptyWith schema old.now
    → IsTableAdded schema table old.now.trees new.now → IsTrue new.in_transaction → AreMade (created schema table) new
made schema table old new none done inside = record {
  empty = record {
    schema_is = done.at.schema_is;
    empty =
        all_then (λ (t : Table). new.now.trees t.tree ≡ []) schema.tables _
        (still_empty old.now.trees new.now.trees schema.tables done.at.others none.empty) done.at.empty;
  };
  sound = done.sound;
  inside = inside;
}

-- the rowids of all tables ascend still
numbered_still : (old new : Trees) (tables : List Table)
    → AllByRecursion (λ (t : Table). new t.tree ≡ old t.tree) tables
    → AllByRecursion (λ (t : Table). IsShaped shape.Table (old t.tree)) tables
    → AllByRecursion (λ (t : Table). IsShaped shape.Table (new t.tree)) tables
numbered_still old new [] same numbered = tt
numbered_still old new (t ∷ tables) same numbered =
    (subst (IsShaped shape.Table) (sym same.0) numbered.0, numbered_still old new tables same.1 numbered.1)

pub numbered_with : (schema : Schema) (table : Table) (old : Trees) (new : Database) → IsTableAdded schema table old new
    → AreNumbered schema old → AreNumbered (created schema table) new.trees
numbered_with schema table old new h numbered =
    all_then (λ (t : Table). IsShaped shape.Table (new.trees t.tree)) schema.tables _
    (numbered_still old new.trees schema.tables h.at.others numbered)
    (subst (IsShaped shape.Table) (sym h.at.empty) (tt, tt))

empty_rows : (old : State) → AreMade office_schema old → IsEmptyOffice old
unfolding office_schema
empty_rows old made =
    let h = made.empty.empty in
    record {
      office = record {
        schema = inl made.empty.schema_is;
        listed = sym made.empty.schema_is;
        trees = record {
          schema = office_schema;
          current = inl refl;
          sound = made.sound;
          numbered = (
            rw h.0 (tt, tt),
            (
              rw h.1.0 (tt, tt),
              (
                rw h.1.1.0 (tt, tt),
                (
                  rw h.1.1.1.0 (tt, tt),
                  (
                    rw h.1.1.1.1.0 (tt, tt),
                    (
                      rw h.1.1.1.1.1.0 (tt, tt),
                      (
                        rw h.1.1.1.1.1.1.0 (tt, tt),
                        (
                          rw h.1.1.1.1.1.1.1.0 (tt, tt),
                          (
                            rw h.1.1.1.1.1.1.1.1.0 (tt, tt),
                            (
                              rw h.1.1.1.1.1.1.1.1.1.0 (tt, tt),
                              (
                                rw h.1.1.1.1.1.1.1.1.1.1.0 (tt, tt),
                                (
                                  rw h.1.1.1.1.1.1.1.1.1.1.1.0 (tt, tt),
                                  (rw h.1.1.1.1.1.1.1.1.1.1.1.1.0 (tt, tt), (rw h.1.1.1.1.1.1.1.1.1.1.1.1.1.0 (tt, tt), tt)),
                                ),
                              ),
                            ),
                          ),
                        ),
                      ),
                    ),
                  ),
                ),
              ),
            ),
          );
        };
      };
      schema_is = made.empty.schema_is;
      tables_are = rw (
        h.0,
        h.1.0,
        h.1.1.0,
        h.1.1.1.0,
        h.1.1.1.1.0,
        h.1.1.1.1.1.0,
        h.1.1.1.1.1.1.0,
        h.1.1.1.1.1.1.1.0,
        h.1.1.1.1.1.1.1.1.0,
        h.1.1.1.1.1.1.1.1.1.0,
        h.1.1.1.1.1.1.1.1.1.1.0,
        h.1.1.1.1.1.1.1.1.1.1.1.0,
        h.1.1.1.1.1.1.1.1.1.1.1.1.0,
        h.1.1.1.1.1.1.1.1.1.1.1.1.1.0,
      ) refl;
      inside = made.inside;
    }

-- the tables of the office, as the last text leaves them
pub all_made : (old : State) {X : Type 0} (r : Result X Error) → OnOk r (AreMade office_schema old)
    → OnOk r (IsEmptyOffice old)
all_made old (Ok x) made = empty_rows old made
all_made old (Err e) made = tt

-- ---- each table of the office

pub defines : (table : OfficeTable) → table ≢ Statistics → Defines (schema_before table) (text_of table) (declared table)
unfolding understood everything analyzed_schema
defines Statistics ours = absurd (ours refl)
defines table ours = record { command = refl; whole = refl; plain = (refl, refl); defined = refl; counts = refl }

-- what is made of the tables before it has it
pub with_is : (table : OfficeTable) → created (schema_before table) (declared table) ≡ schema_with table
unfolding analyzed_schema
with_is Statistics = refl
with_is table = refl

module _ (table : OfficeTable) (ours : table ≢ Statistics) (old new : State) (r : Result ℕ Error)
    (ended : old.in_transaction ≡ false → r ≡ Err (SqliteFailure TransactionState))
    (ran : IsTrue old.in_transaction → ExecutesInside 0 (text_of table) [] old new r) where
  pub adds_table : old.now.schema ≡ schema_before table
      → OnOk r (IsTableAdded (schema_before table) (declared table) old.now.trees new.now × IsTrue new.in_transaction)
  adds_table has = adds (schema_before table) (text_of table) (declared table) (defines table ours) old new r has ended ran

  pub makes_table : IsEmptyWith (schema_before table) old.now → OnOk r (AreMade (schema_with table) new)
  makes_table none = subst (λ s. OnOk r (AreMade s new)) (with_is table)
      (on_ok_weaker r (λ done. made (schema_before table) (declared table) old new none done.0 done.1)
      (adds_table none.schema_is))
