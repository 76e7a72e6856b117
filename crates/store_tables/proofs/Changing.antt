-- What a statement on one table makes of all tables: that one's rows change, the others stay.
use Rattle.store_tables.proofs.Common.{◌≡◌, ℕ, ℤ, zero, suc, List, [], ◌∷◌, ◌++◌, map, slice_get, length, Bool, false}
use Rattle.store_tables.proofs.Common.{true, not, Option, None, Some, Ok, Err, Result, refl, sym, ap, subst, ◌∙◌, arith}
use Rattle.store_tables.proofs.Common.{inl, inr, ◌&&◌, ◌/◌, unwrap_or, IfOk, OnOk, IsTrue, IsPermutation, filter}
use Rattle.store_tables.proofs.Common.{AllByRecursion, list_all, Less, Ordering, cases_Bool, map-append, length-map}
use Rattle.store_tables.proofs.Common.{length_permutation, Error, SqliteFailure, TransactionState, Null, Int, Row}
use Rattle.store_tables.proofs.Common.{column, value_cmp, Term, col, next_tree, Schema, Table, Trees, put_row, rowid}
use Rattle.store_tables.proofs.Common.{overlay, Values, Insert, Delete, edit_of, id_in, without_all, next_rowid, Chosen}
use Rattle.store_tables.proofs.Common.{value_rows, stamped, ids_of, IsShaped, understood, State, Executes}
use Rattle.store_tables.proofs.Common.{ExecutesInside, IsSound, IsPlain, command_of, runs_as}
use Rattle.std.proofs.Common.{◌≢◌, set, ◌==◌}
use Rattle.std.specs.Prelude.{◌-◌, ◌^◌, nat_le, if◌then◌else◌}
use Rattle.std.specs.Ordering.{match_ordering}
use Rattle.std.specs.declared.cmp.Ordering.TheVariants.{Equal, Greater}
use Rattle.std.proofs.lemmas.Bool.{and_parts, eqb-true, eqb-false, not-true}
use Rattle.sqlite.specs.Edit.{edited}
use Rattle.sqlite_trees.specs.declared.store.Shape.TheVariants as shape
use Rattle.sqlite_trees.proofs.TreeLemmas.{IsShaped-put_row, IsShaped-filter}
use Rattle.store_tables.specs.Schema.{IsCurrentSchema, analyzed_schema, office_schema, statistics}
use Rattle.store_tables.specs.Tables.{AreNumbered, Tables, tables_of, named, row_by, values, keyed_values, IsOffice}
use Rattle.store_tables.specs.Statements.{Makes, rows_in, statistics_in, statistics_of}
use Rattle.store_tables.proofs.Current.{InEach, in_each}
use Rattle.store_tables.proofs.Numbering.{put_next}
use Rattle.store_tables.proofs.Inserting.{RefersToNone, inserts, uncounted}
use Rattle.store_tables.proofs.Deleting.{deletes, leaves_others}
use Rattle.store_tables.proofs.Selecting.{query, answers, wanted, filter_map_is}

-- the table at this index has this tree, and no other has it
abbrev pub is_only : List Table → ℕ → ℕ → Bool
is_only [] at tree = false
is_only (t ∷ tables) zero tree = (t.tree == tree) && list_all (λ (o : Table). not (o.tree == tree)) tables
is_only (t ∷ tables) (suc at) tree = not (t.tree == tree) && is_only tables at tree

abbrev OthersStay : List Table → ℕ → Trees → Trees → Type 0
OthersStay tables tree before now = AllByRecursion (λ t. t.tree ≢ tree → now t.tree ≡ before t.tree) tables

differs : (m n : ℕ) → not (m == n) ≡ true → m ≢ n
differs m n h e = eqb-false m n (not-true (m == n) h) e

all_stay : (tables : List Table) (tree : ℕ) (before now : Trees) → list_all (λ (o : Table). not (o.tree == tree)) tables
    ≡ true → OthersStay tables tree before now → rows_in tables now ≡ rows_in tables before
all_stay [] tree before now apart stay = refl
all_stay (t ∷ tables) tree before now apart stay =
    let parts = and_parts _ _ apart in
    rw (stay.0 (differs t.tree tree parts.0), all_stay tables tree before now parts.1 stay.1)

all_numbered : (tables : List Table) (tree : ℕ) (before now : Trees)
    → list_all (λ (o : Table). not (o.tree == tree)) tables ≡ true → OthersStay tables tree before now
    → AllByRecursion (λ (t : Table). IsShaped shape.Table (before t.tree)) tables
    → AllByRecursion (λ (t : Table). IsShaped shape.Table (now t.tree)) tables
all_numbered [] tree before now apart stay numbered = tt
all_numbered (t ∷ tables) tree before now apart stay numbered =
    let parts = and_parts _ _ apart in (
      rw (stay.0 (differs t.tree tree parts.0)) numbered.0,
      all_numbered tables tree before now parts.1 stay.1
          numbered.1,
    )

-- the rows of all tables where one changed
rows_after : (tables : List Table) (at tree : ℕ) (key : Option ℕ) (before now : Trees) → is_only tables at tree ≡ true
    → OthersStay tables tree before now
    → (t : Table) → slice_get tables at ≡ Some t
    → rows_in tables now ≡ set (rows_in tables before) at (map (row_by t.key) (now tree))
rows_after [] at tree key before now only stay t there = absurd (cc)
rows_after (o ∷ tables) zero tree key before now only stay t there =
    let parts = and_parts _ _ only in
    let same : o ≡ t = cc in
    rw (all_stay tables tree before now parts.1 stay.1)
    (ap (λ (x : Table). map (row_by x.key) (now o.tree) ∷ rows_in tables before) same
    ∙ ap (λ n. map (row_by t.key) (now n) ∷ rows_in tables before) (eqb-true o.tree tree parts.0))
rows_after (o ∷ tables) (suc at) tree key before now only stay t there =
    let parts = and_parts _ _ only in
    rw (stay.0 (differs o.tree tree parts.0), rows_after tables at tree key before now parts.1 stay.1 t there)

numbered_after : (tables : List Table) (at tree : ℕ) (before now : Trees) → is_only tables at tree ≡ true
    → OthersStay tables tree before now
    → AllByRecursion (λ (t : Table). IsShaped shape.Table (before t.tree)) tables → IsShaped shape.Table (now tree)
    → AllByRecursion (λ (t : Table). IsShaped shape.Table (now t.tree)) tables
numbered_after [] at tree before now only stay numbered shaped = absurd (cc)
numbered_after (o ∷ tables) zero tree before now only stay numbered shaped =
    let parts = and_parts _ _ only in
    (rw (eqb-true o.tree tree parts.0) shaped, all_numbered tables tree before now parts.1 stay.1 numbered.1)
numbered_after (o ∷ tables) (suc at) tree before now only stay numbered shaped =
    let parts = and_parts _ _ only in (
      rw (stay.0 (differs o.tree tree parts.0)) numbered.0,
      numbered_after tables at tree before now parts.1 stay.1
          numbered.1 shaped,
    )

numbered_at : (tables : List Table) (at tree : ℕ) (db : Trees) → is_only tables at tree ≡ true
    → AllByRecursion (λ (t : Table). IsShaped shape.Table (db t.tree)) tables → IsShaped shape.Table (db tree)
numbered_at [] at tree db only numbered = absurd (cc)
numbered_at (o ∷ tables) zero tree db only numbered =
    subst (λ n. IsShaped shape.Table (db n)) (eqb-true o.tree tree (and_parts _ _ only).0) numbered.0
numbered_at (o ∷ tables) (suc at) tree db only numbered =
    numbered_at tables at tree db (and_parts _ _ only).1 numbered.1

-- with no table laid over them the trees are themselves
pub plain_trees : (db : Trees) (t : ℕ) → overlay db [] t ≡ db t
plain_trees db t = bare (nat_le (2 ^ 31) t)
  where
    bare : (b : Bool) → unwrap_or (if b then slice_get {X = List Row} [] (t - 2 ^ 31) else None) (db t) ≡ db t
    bare true = refl
    bare false = refl

-- no table of the office refers to another
pub alone : InEach RefersToNone
unfolding office_schema analyzed_schema
alone = record {
  usual = λ keys depth tree olds news. refl;
  analyzed = λ keys depth tree olds news. refl;
}

-- the statistics come after all tables of the office
first_stay : (tables more : List Table) (tree : ℕ) (before now : Trees)
    → OthersStay (tables ++ more) tree before now → OthersStay tables tree before now
first_stay [] more tree before now stay = tt
first_stay (t ∷ tables) more tree before now stay = (stay.0, first_stay tables more tree before now stay.1)

office_stays : (s : Schema) (tree : ℕ) (before now : Trees) → IsCurrentSchema s → OthersStay s.tables tree before now
    → OthersStay office_schema.tables tree before now
unfolding analyzed_schema
office_stays s tree before now (inl is) stay =
    subst (λ (x : Schema). OthersStay x.tables tree before now) is stay
office_stays s tree before now (inr is) stay =
    first_stay office_schema.tables (record statistics { tree = next_tree office_schema } ∷ []) tree before now
    (subst (λ (x : Schema). OthersStay x.tables tree before now) is stay)

all_apart : (tables more : List Table) (tree : ℕ)
    → list_all (λ (o : Table). not (o.tree == tree)) (tables ++ more) ≡ true
    → list_all (λ (o : Table). not (o.tree == tree)) more ≡ true
all_apart [] more tree all = all
all_apart (t ∷ tables) more tree all = all_apart tables more tree (and_parts _ _ all).1

-- where the tree is of one of the first tables, it is of none of the later
rest_apart : (tables more : List Table) (at tree : ℕ) → is_only tables at tree ≡ true
    → is_only (tables ++ more) at tree ≡ true
    → list_all (λ (o : Table). not (o.tree == tree)) more ≡ true
rest_apart [] more at tree only all = absurd (cc)
rest_apart (t ∷ tables) more zero tree only all = all_apart tables more tree (and_parts _ _ all).1
rest_apart (t ∷ tables) more (suc at) tree only all =
    rest_apart tables more at tree (and_parts _ _ only).1 (and_parts _ _ all).1

rest_stay : (tables more : List Table) (tree : ℕ) (before now : Trees)
    → OthersStay (tables ++ more) tree before now → OthersStay more tree before now
rest_stay [] more tree before now stay = stay
rest_stay (t ∷ tables) more tree before now stay = rest_stay tables more tree before now stay.1

statistics_stay : (at tree : ℕ) → InEach (λ s. is_only s.tables at tree ≡ true) → (s : Schema) (before now : Trees)
    → IsCurrentSchema s → OthersStay s.tables tree before now
    → statistics_in s now ≡ statistics_in s before
unfolding office_schema analyzed_schema
statistics_stay at tree only s before now (inl is) stay =
    subst (λ x. statistics_in x now ≡ statistics_in x before) (sym is) refl
statistics_stay at tree only s before now (inr is) stay =
    let more : List Table = record statistics { tree = next_tree office_schema } ∷ [] in
    let apart = rest_apart office_schema.tables more at tree only.usual only.analyzed in
    let stays = rest_stay office_schema.tables more tree before now
    (subst (λ (x : Schema). OthersStay x.tables tree before now) is stay) in
    subst (λ x. statistics_in x now ≡ statistics_in x before) (sym is)
    (all_stay more tree before now apart stays)

pub named_rows : (db : Trees) → tables_of db ≡ named (rows_in office_schema.tables db)
unfolding office_schema
named_rows db = refl

-- a row whose rowid is its key, put in its place, is shown in its place
put_shown : (key : ℤ) (rest : Row) (rows : List Row) → map keyed_values (put_row (Int key ∷ Null ∷ rest) rows)
    ≡ put_row (Int key ∷ rest) (map keyed_values rows)
put_shown key rest [] = refl
put_shown key rest (r ∷ rows) =
    let o = value_cmp (rowid r) (Int key) in
    let row : Row = Int key ∷ Null ∷ rest in
    let after = map keyed_values rows in
    by_order o (r ∷ put_row row rows) (row ∷ rows) (row ∷ r ∷ rows)
    ∙ ap (λ l. match_ordering o (keyed_values r ∷ l) ((Int key ∷ rest) ∷ after)
    ((Int key ∷ rest) ∷ keyed_values r ∷ after)) (put_shown key rest rows)
  where
    by_order : (o : Ordering) (a b c : List Row)
        → map keyed_values (match_ordering o a b c) ≡ match_ordering o (map keyed_values a) (map keyed_values b)
        (map keyed_values c)
    by_order Less a b c = refl
    by_order Equal a b c = refl
    by_order Greater a b c = refl

-- the tables are an office's still, and no other than before, and the statistics have the same rows
abbrev pub IsOfficeAs : State → State → Type 0
IsOfficeAs old new = IsOffice new.now × (new.now.schema ≡ old.now.schema)
    × (statistics_of new.now ≡ statistics_of old.now)

numbered_now : (s : State) → IsOffice s.now → AreNumbered s.now.schema s.now.trees
numbered_now s office = subst (λ x. AreNumbered x s.now.trees) office.listed office.trees.numbered

-- inside a transaction, what a statement that ran made, and how many rows it says that it wrote or removed
pub makes : (sql : List ℕ) (params : Row) (change : Tables → Tables) (rows : ℕ) (old new : State) (r : Result ℕ Error)
    → ((count : ℕ) → Executes sql params old new (Ok count) → IsOfficeAs old new
    × (tables_of new.now.trees ≡ change (tables_of old.now.trees)) × (count ≡ rows))
    → (old.in_transaction ≡ false → r ≡ Err (SqliteFailure TransactionState))
    → (IsTrue old.in_transaction → ExecutesInside 0 sql params old new r)
    → IfOk r (λ count. Makes change old new × (count ≡ rows))
makes sql params change rows old new (Err e) does ended ran = tt
makes sql params change rows old new (Ok count) does ended ran =
    let mode : IsTrue old.in_transaction =
    elim (cases_Bool old.in_transaction) [ inl t ↦ t | inr f ↦ absurd (let e = ended f in cc) ] in
    let it = ran mode in
    let done = does count it.0 in (
      record {
        office = done.0.0;
        same_schema = done.0.1;
        statistics = done.0.2;
        tables_are = done.1;
        committed = it.1.committed_is;
        inside = it.1.mode;
        was_open =
            it.1.was_open;
        is_open = it.1.is_open;
      },
      done.2,
    )

-- the two halves of that
pub only_made : (A : Type 0) (rows : ℕ) (r : Result ℕ Error) → IfOk r (λ count. A × (count ≡ rows)) → OnOk r A
only_made A rows (Ok count) both = both.0
only_made A rows (Err e) both = tt

pub only_rows : (A : Type 0) (rows : ℕ) (r : Result ℕ Error) → IfOk r (λ count. A × (count ≡ rows))
    → IfOk r (λ count. count ≡ rows)
only_rows A rows (Ok count) both = both.1
only_rows A rows (Err e) both = tt

-- a statement on the table at one index
module _ (at : ℕ) (table : Table) (there : InEach (λ s. slice_get s.tables at ≡ Some (uncounted table)))
    (only : InEach (λ s. is_only s.tables at table.tree ≡ true)) where
  abbrev tree : ℕ
  tree = table.tree

  -- the rows of all tables with these as this table's
  abbrev pub with_rows : Trees → List Row → Tables
  with_rows db rows = named (set (rows_in office_schema.tables db) at rows)

  settled : (old new : State) → IsOffice old.now → new.now.schema ≡ old.now.schema
      → IsSound new.now.schema new.now.trees
      → OthersStay old.now.schema.tables tree old.now.trees new.now.trees
      → IsShaped shape.Table (new.now.trees tree) → IsOfficeAs old new
      × (tables_of new.now.trees ≡ with_rows old.now.trees (map (row_by table.key) (new.now.trees tree)))
  settled old new office schema sound stay shaped =
      let was = old.now.schema in
      let db = new.now.trees in
      let numbered : AreNumbered was db =
      numbered_after was.tables at tree old.now.trees db (in_each only was office.schema) stay (numbered_now old office)
      shaped in
      let stays = office_stays was tree old.now.trees db office.schema stay in (
        (
          record {
            schema = subst IsCurrentSchema (sym schema) office.schema;
            trees = record {
              schema = new.now.schema;
              current = subst IsCurrentSchema (sym schema) office.schema;
              sound = sound;
              numbered = subst (λ s. AreNumbered s db) (sym schema) numbered;
            };
            listed = refl;
          },
          schema,
          ap (λ x. statistics_in x db) schema
              ∙ statistics_stay at tree only was old.now.trees db office.schema stay,
        ),
        named_rows db ∙ ap named
            (rows_after office_schema.tables at tree table.key old.now.trees db only.usual stays (uncounted table)
            there.usual),
      )

  pub shaped_before : (old : State) → IsOffice old.now → IsShaped shape.Table (old.now.trees tree)
  shaped_before old office =
      numbered_at old.now.schema.tables at tree old.now.trees (in_each only old.now.schema office.schema)
      (numbered_now old office)

  -- ---- INSERT
  module _ (sql : List ℕ) (params : Row) (terms : List Term) (width : ℕ)
      (is : InEach (λ s. command_of (understood s sql) ≡ Insert at (Values terms width)))
      (plain : InEach (λ s. IsPlain (understood s sql))) where
    abbrev pub given : List Row
    given = value_rows (stamped table params) width (length terms / width) terms

    -- the rows of the tree are those that the edit makes
    pub inserted : (old new : State) (rows : List Row) → IsOffice old.now
        → edited old.now.trees (edit_of old.now.trees (uncounted table) [] Chosen 0 given) ≡ rows
        → IsShaped shape.Table rows
        → (count : ℕ) → Executes sql params old new (Ok count) → IsOfficeAs old new
        × (tables_of new.now.trees ≡ with_rows old.now.trees (map (row_by table.key) rows))
        × (count ≡ length (edit_of old.now.trees (uncounted table) [] Chosen 0 given).news)
    inserted old new rows office made shaped count h =
        let s = old.now.schema in
        let means = in_each is s office.schema in
        let plainly = in_each plain s office.schema in
        let done = inserts s (in_each alone s office.schema) at table (in_each there s office.schema) sql params terms
        width means plainly old new refl count h in
        let w = runs_as sql params old new s refl (Insert at (Values terms width)) means plainly count h in
        let grown : new.now.trees tree ≡ rows = done.1.rows ∙ made in
        let it = settled old new office done.0 w.sound done.1.tables
        (subst (IsShaped shape.Table) (sym grown) shaped) in
        (it.0, it.1 ∙ ap (λ l. with_rows old.now.trees (map (row_by table.key) l)) grown, done.2)

    -- where the key isn't the rowid, the row comes last
    pub appends : (row : Row) → table.key ≡ None
        → ((db : Trees) → length (edit_of db (uncounted table) [] Chosen 0 given).news ≡ 1)
        → ((db : Trees) → IsShaped shape.Table (db tree) → edited db (edit_of db (uncounted table) [] Chosen 0 given)
        ≡ put_row (Int (next_rowid (db tree)) ∷ row) (db tree))
        → (old new : State) → IsOffice old.now → (count : ℕ) → Executes sql params old new (Ok count)
        → IsOfficeAs old new × (tables_of new.now.trees ≡ with_rows old.now.trees
        (map values (old.now.trees tree) ++ row ∷ [])) × (count ≡ 1)
    appends row unkeyed one put old new office count h =
        let before = old.now.trees tree in
        let shaped = shaped_before old office in
        let new_row : Row = Int (next_rowid before) ∷ row in
        let it = inserted old new (put_row new_row before) office (put old.now.trees shaped)
        (IsShaped-put_row new_row before refl shaped) count h in
        let all : map values (put_row new_row before) ≡ map values before ++ row ∷ [] =
        ap (map values) (put_next before row shaped) ∙ map-append values before (new_row ∷ []) in (
          it.0,
          it.1 ∙ ap (λ k. with_rows old.now.trees (map (row_by k) (put_row new_row before))) unkeyed
              ∙ ap (with_rows old.now.trees) all,
          it.2 ∙ one old.now.trees,
        )

    -- where it is, the row is put in the place of its key
    pub puts : (key : ℤ) (rest : Row) → table.key ≡ Some 0
        → ((db : Trees) → length (edit_of db (uncounted table) [] Chosen 0 given).news ≡ 1)
        → ((db : Trees) → edited db (edit_of db (uncounted table) [] Chosen 0 given) ≡ put_row (Int key ∷ Null ∷ rest)
        (db tree))
        → (old new : State) → IsOffice old.now → (count : ℕ) → Executes sql params old new (Ok count)
        → IsOfficeAs old new × (tables_of new.now.trees ≡ with_rows old.now.trees
        (put_row (Int key ∷ rest) (map keyed_values (old.now.trees tree)))) × (count ≡ 1)
    puts key rest keyed one put old new office count h =
        let before = old.now.trees tree in
        let new_row : Row = Int key ∷ Null ∷ rest in
        let it = inserted old new (put_row new_row before) office (put old.now.trees)
        (IsShaped-put_row new_row before refl (shaped_before old office)) count h in (
          it.0,
          it.1 ∙ ap (λ k. with_rows old.now.trees (map (row_by k) (put_row new_row before))) keyed
              ∙ ap (with_rows old.now.trees) (put_shown key rest before),
          it.2 ∙ one old.now.trees,
        )

  -- ---- DELETE
  module _ (sql : List ℕ) (params : Row) (tests : List Term)
      (is : InEach (λ s. command_of (understood s sql)
      ≡ Delete at (record { lets = []; body = query tree tests (col 1 0 ∷ []) [] params })))
      (plain : InEach (λ s. IsPlain (understood s sql))) (wants : Row → Bool)
      (requested : (r : Row) → wants (row_by table.key r) ≡ wanted tree tests (col 1 0 ∷ []) [] params r) where
    ids_shown : (found : List Row) → ids_of (map (λ r. column r 0 ∷ []) found) ≡ ids_of found
    ids_shown [] = refl
    ids_shown (r ∷ found) = ap (◌∷◌ (id_in (rowid r))) (ids_shown found)

    pub removes : InEach (λ s. slice_get s.tables at ≡ Some table) → (old new : State) → IsOffice old.now → (count : ℕ)
        → Executes sql params old new (Ok count)
        → IsOfficeAs old new × (tables_of new.now.trees ≡ with_rows old.now.trees
        (filter (λ row. not (wants row)) (map (row_by table.key) (old.now.trees tree))))
        × (count ≡ length (filter wants (map (row_by table.key) (old.now.trees tree))))
    removes exactly old new office count h =
        let before = old.now.trees tree in
        let shaped = shaped_before old office in
        let s = old.now.schema in
        let means = in_each is s office.schema in
        let plainly = in_each plain s office.schema in
        let done = deletes s (in_each alone s office.schema) at table (in_each exactly s office.schema) sql params _
        means plainly old new refl count h in
        let w = runs_as sql params old new s refl _ means plainly count h in
        let f = answers tree tests (col 1 0 ∷ []) [] params (overlay old.now.trees []) done.1.0
        (done.1.1.answer Null) in
        let found_by = wanted tree tests (col 1 0 ∷ []) [] params in
        let ids : ids_of done.1.0 ≡ ids_of f.found = ap ids_of f.is ∙ ids_shown f.found in
        let same = subst (λ l. IsPermutation (filter found_by l) f.found) (plain_trees old.now.trees tree) f.same in
        let left : new.now.trees tree ≡ filter (λ r. not (found_by r)) before =
        done.1.2.rows ∙ ap (without_all before) ids ∙ leaves_others found_by before f.found shaped same in
        let it = settled old new office done.0 w.sound done.1.2.tables
        (rw left (IsShaped-filter shape.Table _ before shaped)) in
        let less : map (row_by table.key) (new.now.trees tree) ≡ filter (λ row. not (wants row))
        (map (row_by table.key) before) =
        ap (map (row_by table.key)) left ∙ filter_map_is (row_by table.key) _ _ (λ r. ap not (requested r)) before in
        let shown : map (row_by table.key) (filter found_by before) ≡ filter wants (map (row_by table.key) before) =
        filter_map_is (row_by table.key) wants found_by requested before in
        let found : length done.1.0 ≡ length f.found = ap length f.is ∙ length-map f.found (λ r. column r 0 ∷ []) in
        let kept : length (filter found_by before) ≡ length f.found =
        omega (arith, length_permutation (filter found_by before) f.found same) in
        let rows = done.1.3 ∙ found ∙ sym kept ∙ sym (length-map (filter found_by before) (row_by table.key))
        ∙ ap length shown in
        (it.0, it.1 ∙ ap (with_rows old.now.trees) less, rows)
