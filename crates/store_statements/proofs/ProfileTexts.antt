-- What the texts on `profile` make of it, and show of it.
use Rattle.store_statements.proofs.Common.{◌≡◌, ◌∙◌, ℕ, pos, List, [], ◌∷◌, codes, Ok, Result, refl, sym, ap, IfOk}
use Rattle.store_statements.proofs.Common.{length, Null, Int, Error, Row, Term, lit, col, Trees, put_row, Schema}
use Rattle.store_statements.proofs.Common.{Values, Insert, Delete, edit_of, edited, Chosen, value_rows, stamped, Key}
use Rattle.store_statements.proofs.Common.{then-Equal, State, Executes, Shown, IsPlain, command_of, IsOfficeSchema}
use Rattle.store_statements.proofs.Common.{tables_of, keyed_values, IsSelected, cast_null, cast_number, InEach, in_each}
use Rattle.store_statements.proofs.Common.{IsOfficeAs, makes, puts, removes, query, ascending, IsSelect, Means}
use Rattle.std.proofs.Common.{inl, inr, subst}
use Rattle.sqlite_tied.specs.Compute.{everything}
use Rattle.sqlite.specs.Listing.{understood}
use Rattle.store_tables.specs.Schema.{analyzed_schema, office_schema, schema_9, schema_13}
use Rattle.store_tables.proofs.Columns.{keyed_column_is}
use Rattle.store_tables.proofs.TableIndices.{profile, profile_there, profile_only}
use Rattle.store_tables.proofs.Finding.{finds}
use Rattle.store_statements.specs.Rows.{is_any, mark_row}
use Rattle.store_statements.specs.Shown.{profile_order, profile_shown}
use Rattle.store_statements.proofs.Requested.{all_wanted, none_left}
use Rattle.store_statements.proofs.Texts.{Runs}

-- ---- insert_profile

abbrev insert_text : List ℕ
insert_text = codes "INSERT INTO profile VALUES (?1, ?2)"

abbrev insert_terms : List Term
insert_terms = col 0 0 ∷ lit Null ∷ col 0 1 ∷ []

insert_is : InEach (λ s. command_of (understood s insert_text) ≡ Insert 0 (Values insert_terms 3))
unfolding understood everything office_schema analyzed_schema
insert_is = record { usual = refl; analyzed = refl }

insert_plain : InEach (λ s. IsPlain (understood s insert_text))
unfolding understood everything office_schema analyzed_schema
insert_plain = record { usual = (refl, refl); analyzed = (refl, refl) }

put : (one number : ℕ) (db : Trees)
    → edited db (edit_of db profile [] Chosen 0 (value_rows (stamped profile (mark_row one number)) 3 1 insert_terms))
    ≡ put_row (Int (pos one) ∷ Null ∷ Int (pos number) ∷ []) (db 0)
put one number db = rw (cast_null, cast_number one, cast_number number) refl

pub inserts : (one number : ℕ) → Runs insert_text (mark_row one number)
    (λ t. record t { profile = put_row (mark_row one number) t.profile }) (λ t. 1)
unfolding office_schema Runs
inserts one number old new r office ended ran =
    makes insert_text (mark_row one number) _ 1 old new r
    (puts 0 profile profile_there profile_only insert_text (mark_row one number) insert_terms 3 insert_is insert_plain
    (pos one) (Int (pos number) ∷ []) refl (λ db. refl) (put one number) old new office) ended ran

-- ---- clear_profile

abbrev clear_text : List ℕ
clear_text = codes "DELETE FROM profile"

clear_is : InEach (λ s. command_of (understood s clear_text)
    ≡ Delete 0 (record { lets = []; body = query 0 [] (col 1 0 ∷ []) [] [] }))
unfolding understood everything office_schema analyzed_schema
clear_is = record { usual = refl; analyzed = refl }

clear_plain : InEach (λ s. IsPlain (understood s clear_text))
unfolding understood everything office_schema analyzed_schema
clear_plain = record { usual = (refl, refl); analyzed = (refl, refl) }

pub clears : Runs clear_text [] (λ t. record t { profile = [] }) (λ t. length t.profile)
unfolding office_schema Runs
clears old new r office ended ran = makes clear_text [] _ _ old new r does ended ran
  where
    does : (count : ℕ) → Executes clear_text [] old new (Ok count)
        → IsOfficeAs old new × (tables_of new.now.trees ≡ record (tables_of old.now.trees) { profile = [] })
        × (count ≡ length (tables_of old.now.trees).profile)
    does count h =
        let rows = (tables_of old.now.trees).profile in
        let it = removes 0 profile profile_there profile_only clear_text [] [] clear_is clear_plain is_any (λ r. refl)
        profile_there old new office count h in (
          it.0,
          it.1 ∙ ap (λ (l : List Row). record (tables_of old.now.trees) { profile = l }) (none_left rows),
          it.2
              ∙ ap (λ l. length l) (all_wanted rows),
        )

-- ---- select_profile

abbrev pub profile_text : List ℕ
profile_text = codes "SELECT one, number FROM profile ORDER BY one"

abbrev profile_columns : List Term
profile_columns = col 1 0 ∷ col 1 2 ∷ []

abbrev profile_by : List (Term × Key)
profile_by = (col 1 0, ascending) ∷ []

abbrev IsSelectIn : Schema → Type 0
IsSelectIn schema = IsSelect schema profile_text 0 [] profile_columns profile_by (codes "one" ∷ codes "number" ∷ []) []

selects_9 : IsSelectIn schema_9
unfolding understood everything schema_9
selects_9 = record { command = refl; listing = refl; plain = (refl, refl) }

selects_13 : IsSelectIn schema_13
unfolding understood everything schema_13
selects_13 = record { command = refl; listing = refl; plain = (refl, refl) }

selects_all : InEach IsSelectIn
unfolding understood everything office_schema analyzed_schema
selects_all = record {
  usual = record { command = refl; listing = refl; plain = (refl, refl) };
  analyzed = record { command = refl; listing = refl; plain = (refl, refl) };
}

-- the profile is the first table of an office of any time
profile_selects : (schema : Schema) → IsOfficeSchema schema → IsSelectIn schema
profile_selects schema (inl is) = subst IsSelectIn (sym is) selects_9
profile_selects schema (inr (inl is)) = subst IsSelectIn (sym is) selects_13
profile_selects schema (inr (inr current)) = in_each selects_all schema current

profile_means : Means keyed_values 0 [] profile_columns profile_by [] is_any profile_shown profile_order
profile_means = record {
  tests_same = λ r. refl;
  shows_same = λ r. rw (keyed_column_is r 0) refl;
  orders_same = λ x y. then-Equal _;
}

pub profile_found : {X : Type 0} (rows_of : X → List Row) (old new : State) (r : Result X Error)
    → IsOfficeSchema old.now.schema
    → IfOk r (λ x. Shown profile_text [] old new (rows_of x))
    → IfOk r (λ x. IsSelected is_any profile_shown profile_order (tables_of old.now.trees).profile (rows_of x))
profile_found rows_of old new r known =
    finds old.now.schema profile_text 0 [] profile_columns profile_by _ [] (profile_selects old.now.schema known)
    keyed_values is_any profile_shown profile_order profile_means rows_of old new r refl

pub profile_plain : (s : Schema) → IsOfficeSchema s → IsPlain (understood s profile_text)
profile_plain s known = (profile_selects s known).plain
