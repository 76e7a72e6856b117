-- What an INSERT of one row makes of a database with no foreign key.
use Rattle.store_tables.proofs.Common.{◌≡◌, ◌⊎◌, inl, inr, ℕ, List, [], length, slice_get, false, Option, Some, None}
use Rattle.store_tables.proofs.Common.{Ok, Err, Result, sym, ap, subst, ◌∙◌, ◌/◌, unwrap_or, Row, Term, Table, Trees}
use Rattle.store_tables.proofs.Common.{Schema, Values, Insert, edit_of, Applies, taken_by, Chosen, Keys, Database}
use Rattle.store_tables.proofs.Common.{value_rows, Tally, Does, Written, stamped, Task, Enforced, understood, State}
use Rattle.store_tables.proofs.Common.{mode_of, Executes, IsPlain, command_of, statement_of, runs_as, one_step}
use Rattle.sqlite.specs.Source.{Source}
use Rattle.sqlite_rules.specs.Action.{works}
use Rattle.sqlite.specs.Effect.{IsSource}
use Rattle.sqlite.specs.Does.{Concludes}
use Rattle.sqlite.specs.Rows.{Inserts}
use Rattle.sqlite.specs.declared.run.Mode.{Mode}

-- a part that gave a value did not stop on the way
pub went : {B E R : Type 0} {b : B} {Stops : E → Type 0} → ((stop : E) × Stops stop × (Ok b ≡ Err stop)) ⊎ R → R
went (inl stopped) = absurd (let e = stopped.2 in cc)
went (inr on) = on

pub same_value : {B E : Type 0} {a b : B} → ◌≡◌ {A = Result B E} (Ok a) (Ok b) → a ≡ b
same_value e = cc

-- no table of the schema refers to another
abbrev pub RefersToNone : Schema → Type 0
RefersToNone schema = (keys : Keys) (depth tree : ℕ) (olds news : List Row)
    → works schema keys depth tree olds news ≡ []

-- without AUTOINCREMENT
abbrev pub uncounted : Table → Table
uncounted table = record table { is_counted = false }

inserted_rows : (limit : Option ℕ) (keys : Keys) (schema : Schema) (table : Table) (params : Row) (from : Source)
    (db : Trees) (w : Written) → RefersToNone schema
    → Inserts (record { limit = limit; keys = keys; schema = schema; table = uncounted table; params = params }) from db
    (Ok w)
    → (rows : List Row) × IsSource (record { schema = schema; trees = db }) (stamped table params) from rows
    × Applies schema keys db (edit_of db (uncounted table) [] Chosen 0 rows) w.trees
    × (w.rows ≡ (edit_of db (uncounted table) [] Chosen 0 rows).news)
inserted_rows limit keys schema table params from db w alone h =
    let given = went h in
    let counter = went given.2 in
    let written = went counter.2 in
    let counted = went written.2 in
    let trees : w.trees ≡ written.0 = ap (λ (it : Written). it.trees) (same_value counted.2) ∙ same_value counted.1 in
    let edit = edit_of db (uncounted table) [] Chosen 0 given.0 in (
      given.0,
      given.1,
      subst (Applies schema keys db edit) (sym trees)
          (one_step schema keys db written.0 edit (alone keys 0 table.tree (taken_by db edit) edit.news) written.1),
      ap (λ (it : Written). it.rows) (same_value counted.2),
    )

pub concluded : (task : Task) (mode : Mode) (written : Written) (tally : Tally) (after : Database)
    → Concludes task mode None written (Ok (tally, after))
    → after ≡ record { schema = task.schema; trees = written.trees }
concluded task mode written tally after h = ap (λ (p : Tally × Database). p.1) (same_value (went (went h).2).2)

-- how many rows the statement says that it wrote or removed
pub tallied : (task : Task) (mode : Mode) (written : Written) (tally : Tally) (after : Database)
    → Concludes task mode None written (Ok (tally, after)) → tally.rows ≡ Some (length written.rows)
tallied task mode written tally after h = ap (λ (p : Tally × Database). p.0.rows) (same_value (went (went h).2).2)

module _ (schema : Schema) (alone : RefersToNone schema) (at : ℕ) (table : Table)
    (there : slice_get schema.tables at ≡ Some (uncounted table))
    (sql : List ℕ) (params : Row) (terms : List Term) (width : ℕ)
    (is : command_of (understood schema sql) ≡ Insert at (Values terms width))
    (plain : IsPlain (understood schema sql))
    (old new : State) (has : old.now.schema ≡ schema) where
  abbrev pub given_rows : List Row
  given_rows = value_rows (stamped table params) width (length terms / width) terms

  pub inserts : (count : ℕ) → Executes sql params old new (Ok count)
      → (new.now.schema ≡ schema)
      × Applies schema Enforced old.now.trees (edit_of old.now.trees (uncounted table) [] Chosen 0 given_rows)
      new.now.trees
      × (count ≡ length (edit_of old.now.trees (uncounted table) [] Chosen 0 given_rows).news)
  inserts count h =
      let w = runs_as sql params old new schema has (Insert at (Values terms width)) is plain count h in
      let text = statement_of sql (understood schema sql) in
      let changed = subst (λ s. Does old.step_limit (mode_of old) params (record old.now { schema = s }) text None
      (Insert at (Values terms width)) (Ok (w.tally, new.now))) has w.changed in
      let done = went (rw there at changed) in
      let task : Task = record {
        limit = old.step_limit;
        keys = Enforced;
        schema = schema;
        table = uncounted table;
        params = params;
      } in
      let now = concluded task (mode_of old) done.0 w.tally new.now done.2 in
      let wrote = inserted_rows old.step_limit Enforced schema table params (Values terms width) old.now.trees done.0
      alone done.1 in
      let one = subst (λ rows. Applies schema Enforced old.now.trees
      (edit_of old.now.trees (uncounted table) [] Chosen 0 rows) done.0.trees) wrote.1.1 wrote.2 in
      let rows = tallied task (mode_of old) done.0 w.tally new.now done.2 in
      let counted = w.counted ∙ ap (λ n. unwrap_or n 0) rows ∙ ap length wrote.3
      ∙ ap (λ rows. length (edit_of old.now.trees (uncounted table) [] Chosen 0 rows).news) wrote.1.1 in (
        ap (λ (d : Database). d.schema) now,
        subst (λ (d : Database). Applies schema Enforced old.now.trees
            (edit_of old.now.trees (uncounted table) [] Chosen 0 given_rows) d.trees) (sym now) one,
        counted,
      )
