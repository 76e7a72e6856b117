-- What a DELETE makes of a table whose rowids ascend.
use Rattle.store_tables.proofs.Common.{◌≡◌, inl, inr, ℕ, ℤ, List, [], ◌∷◌, slice_get, Bool, false, true, not, Option}
use Rattle.store_tables.proofs.Common.{Some, None, Ok, refl, sym, ap, subst, ◌∙◌, filter, unwrap_or, IsTrue}
use Rattle.store_tables.proofs.Common.{IsPermutation, AllByRecursion, is_eq, Less, cases_Bool, length-map, Row}
use Rattle.store_tables.proofs.Common.{value_cmp, Trees, rowid, id_in, without_all, edit_of, Applies, taken_by, ids_of}
use Rattle.store_tables.proofs.Common.{IsShaped, is_int, value_cmp_total, Table, Schema, Delete, Keys, Enforced}
use Rattle.store_tables.proofs.Common.{Database, Does, Written, Task, understood, State, mode_of, Executes, IsPlain}
use Rattle.store_tables.proofs.Common.{command_of, statement_of, runs_as, one_step}
use Rattle.std.specs.Prelude.{length, ◌||◌}
use Rattle.std.specs.List.{list_any}
use Rattle.std.specs.Ordering.{ordering_reverse}
use Rattle.std.specs.Cmp.{tied_itself}
use Rattle.std.proofs.lemmas.List.Sorted.{list_any-IsPermutation}
use Rattle.sqlite.specs.Tree.{has_rowid, without_rowid}
use Rattle.sqlite.specs.Edit.{row_at}
use Rattle.sqlite_rules.specs.Lists.{Has}
use Rattle.sqlite_trees.specs.declared.store.Shape.TheVariants as shape
use Rattle.sqlite.specs.Rowids.TheVariants.{Given}
use Rattle.sqlite_schema.specs.declared.program.Program.{Program}
use Rattle.sqlite.specs.Effect.{Answers}
use Rattle.sqlite.specs.Rows.{Deletes}
use Rattle.store_tables.proofs.Numbering.{int_is}
use Rattle.store_tables.proofs.Inserting.{went, same_value, RefersToNone, concluded, tallied}

abbrev is_number_of : Row → Row → Bool
is_number_of s r = has_rowid (id_in (rowid s)) r

filter_on : {X : Type 0} (p q : X → Bool) (xs : List X) → ((x : X) → Has xs x → p x ≡ q x) → filter p xs ≡ filter q xs
filter_on p q [] agree = refl
filter_on p q (x ∷ xs) agree = rw (agree x (inl refl), filter_on p q xs (λ y h. agree y (inr h)))

without_all_is : (ids : List ℤ) (rows : List Row)
    → without_all rows ids ≡ filter (λ r. not (list_any (λ id. has_rowid id r) ids)) rows
without_all_is [] rows = kept rows
  where
    kept : (rs : List Row) → rs ≡ filter (λ r. true) rs
    kept [] = refl
    kept (r ∷ rs) = ap (◌∷◌ r) (kept rs)
without_all_is (id ∷ ids) rows = without_all_is ids (without_rowid id rows) ∙ both rows
  where
    both : (rs : List Row) → filter (λ r. not (list_any (λ i. has_rowid i r) ids))
        (filter (λ r. not (has_rowid id r)) rs)
        ≡ filter (λ r. not (has_rowid id r || list_any (λ i. has_rowid i r) ids)) rs
    both [] = refl
    both (r ∷ rs) = elim (cases_Bool (has_rowid id r)) [ inl t ↦ rw (t, both rs) | inr f ↦ rw (f, both rs) ]

-- a row above another has not its number
above_differs : (low high : Row) → IsTrue (is_int (rowid low)) → value_cmp (rowid low) (rowid high) ≡ Less
    → is_number_of low high ≡ false
above_differs low high keyed less =
    ap is_eq (ap (λ v. value_cmp (rowid high) v) (sym (int_is (rowid low) keyed))
    ∙ value_cmp_total.antisymm (rowid high) (rowid low) ∙ ap ordering_reverse less)

below_differs : (low high : Row) → IsTrue (is_int (rowid high)) → value_cmp (rowid low) (rowid high) ≡ Less
    → is_number_of high low ≡ false
below_differs low high keyed less =
    ap is_eq (ap (λ v. value_cmp (rowid low) v) (sym (int_is (rowid high) keyed)) ∙ less)

own : (r : Row) → IsTrue (is_int (rowid r)) → is_number_of r r ≡ true
own r keyed = ap is_eq (ap (λ v. value_cmp (rowid r) v) (sym (int_is (rowid r) keyed))
    ∙ tied_itself value_cmp_total (rowid r))

member : {X : Type 0} (P : X → Type 0) (xs : List X) (x : X) → AllByRecursion P xs → Has xs x → P x
member P (y ∷ ys) x all (inl is) = rw is all.0
member P (y ∷ ys) x all (inr more) = member P ys x all.1 more
member P [] x all h = absurd h

none_in : (wanted : Row → Bool) (low : Row) (rows : List Row) → IsTrue (is_int (rowid low))
    → AllByRecursion (λ r. IsTrue (is_int (rowid r))) rows
    → AllByRecursion (λ r. value_cmp (rowid low) (rowid r) ≡ Less) rows
    → list_any (λ s. is_number_of s low) (filter wanted rows) ≡ false
none_in wanted low [] keyed ints above = refl
none_in wanted low (r ∷ rows) keyed ints above = elim (cases_Bool (wanted r)) [
  | inl t ↦ rw (t, below_differs low r ints.0 above.0, none_in wanted low rows keyed ints.1 above.1)
  | inr f ↦ rw (f, none_in wanted low rows keyed ints.1 above.1)
]

-- a row of the table has the number of a wanted row only if it is wanted
numbers_tell : (wanted : Row → Bool) (rows : List Row) → IsShaped shape.Table rows → (x : Row) → Has rows x
    → list_any (λ s. is_number_of s x) (filter wanted rows) ≡ wanted x
numbers_tell wanted [] shaped x h = absurd h
numbers_tell wanted (r ∷ rows) shaped x (inl is) = rw is (elim (cases_Bool (wanted r)) [
  | inl t ↦ rw (t, own r shaped.1.0)
  | inr f ↦ rw (f, none_in wanted r rows shaped.1.0 shaped.1.1 shaped.0.0)
])
numbers_tell wanted (r ∷ rows) shaped x (inr h) =
    let more = numbers_tell wanted rows (shaped.0.1, shaped.1.1) x h in
    let differs = above_differs r x shaped.1.0 (member _ rows x shaped.0.0 h) in
    elim (cases_Bool (wanted r)) [ inl t ↦ rw (t, differs) more | inr f ↦ rw f more ]

ids_any : (rows : List Row) (x : Row) → list_any (λ id. has_rowid id x) (ids_of rows) ≡ list_any (λ s. is_number_of s x)
    rows
ids_any [] x = refl
ids_any (r ∷ rows) x = ap (λ b. is_number_of r x || b) (ids_any rows x)

-- without the rows whose numbers a query of the wanted ones found, in whatever order, the others are left
pub leaves_others : (wanted : Row → Bool) (rows found : List Row) → IsShaped shape.Table rows
    → IsPermutation (filter wanted rows) found
    → without_all rows (ids_of found) ≡ filter (λ r. not (wanted r)) rows
leaves_others wanted rows found shaped same =
    without_all_is (ids_of found) rows
    ∙ filter_on _ _ rows (λ x h. ap not
    (ids_any found x ∙ sym (list_any-IsPermutation (λ s. is_number_of s x) (filter wanted rows) found same)
    ∙ numbers_tell wanted rows shaped x h))

deleted_rows : (limit : Option ℕ) (keys : Keys) (schema : Schema) (table : Table) (params : Row) (q : Program)
    (db : Trees) (w : Written) → RefersToNone schema
    → Deletes (record { limit = limit; keys = keys; schema = schema; table = table; params = params }) q db (Ok w)
    → (rows : List Row) × Answers (record { schema = schema; trees = db }) q params rows
    × Applies schema keys db (edit_of db table (ids_of rows) Given 0 []) w.trees
    × (w.rows ≡ taken_by db (edit_of db table (ids_of rows) Given 0 []))
deleted_rows limit keys schema table params q db w alone h =
    let given = went h in
    let written = went given.2 in
    let trees : w.trees ≡ written.0 = ap (λ (it : Written). it.trees) (same_value written.2) in
    let edit = edit_of db table (ids_of given.0) Given 0 [] in (
      given.0,
      given.1,
      subst (Applies schema keys db edit) (sym trees)
          (one_step schema keys db written.0 edit (alone keys 0 table.tree (taken_by db edit) edit.news) written.1),
      ap (λ (it : Written). it.rows) (same_value written.2),
    )

module _ (schema : Schema) (alone : RefersToNone schema) (at : ℕ) (table : Table)
    (there : slice_get schema.tables at ≡ Some table)
    (sql : List ℕ) (params : Row) (q : Program) (is : command_of (understood schema sql) ≡ Delete at q)
    (plain : IsPlain (understood schema sql))
    (old new : State) (has : old.now.schema ≡ schema) where
  pub deletes : (count : ℕ) → Executes sql params old new (Ok count)
      → (new.now.schema ≡ schema)
      × ((rows : List Row) × Answers (record { schema = schema; trees = old.now.trees }) q params rows
      × Applies schema Enforced old.now.trees (edit_of old.now.trees table (ids_of rows) Given 0 []) new.now.trees
      × (count ≡ length rows))
  deletes count h =
      let w = runs_as sql params old new schema has (Delete at q) is plain count h in
      let text = statement_of sql (understood schema sql) in
      let changed = subst (λ s. Does old.step_limit (mode_of old) params (record old.now { schema = s }) text None
      (Delete at q) (Ok (w.tally, new.now))) has w.changed in
      let done = went (rw there at changed) in
      let task : Task = record {
        limit = old.step_limit;
        keys = Enforced;
        schema = schema;
        table = table;
        params =
            params;
      } in
      let now = concluded task (mode_of old) done.0 w.tally new.now done.2 in
      let wrote = deleted_rows old.step_limit Enforced schema table params q old.now.trees done.0 alone done.1 in
      let edit = edit_of old.now.trees table (ids_of wrote.0) Given 0 [] in
      let taken = tallied task (mode_of old) done.0 w.tally new.now done.2 in
      let counted : count ≡ length wrote.0 =
      w.counted ∙ ap (λ n. unwrap_or n 0) taken ∙ ap length wrote.3
      ∙ length-map (ids_of wrote.0) (row_at (old.now.trees table.tree))
      ∙ length-map wrote.0 (λ r. id_in (rowid r)) in (
        ap (λ (d : Database). d.schema) now,
        (
          wrote.0,
          wrote.1,
          subst (λ (d : Database). Applies schema Enforced old.now.trees edit d.trees) (sym now)
              wrote.2,
          counted,
        ),
      )
