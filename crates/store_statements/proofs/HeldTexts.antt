-- What the texts on `held` make of it, and show of it.
use Rattle.store_statements.proofs.Common.{◌≡◌, ℕ, pos, List, [], ◌∷◌, ◌++◌, codes, not, refl, ap, ◌∙◌, filter, length}
use Rattle.store_statements.proofs.Common.{Null, Int, Text, Row, Term, lit, col, Trees, put_row, Schema, Values, Insert}
use Rattle.store_statements.proofs.Common.{Delete, edit_of, edited, next_rowid, Chosen, value_rows, stamped, Key}
use Rattle.store_statements.proofs.Common.{then-Equal, IsPlain, command_of, IsCurrentSchema, values, IsSelected}
use Rattle.store_statements.proofs.Common.{cast_null, cast_number, column_is, appends, makes, removes, InEach, in_each}
use Rattle.store_statements.proofs.Common.{query, ascending, IsSelect, Means, finds_now}
use Rattle.sqlite_tied.specs.Compute.{everything}
use Rattle.sqlite.specs.Listing.{understood}
use Rattle.store_tables.specs.Schema.{analyzed_schema, office_schema}
use Rattle.store_tables.proofs.TableIndices.{held, held_there, held_only}
use Rattle.store_statements.specs.Rows.{has_net_and_number, has_number_between, held_row, is_of_net}
use Rattle.store_statements.specs.Shown.{held_order, held_shown}
use Rattle.store_statements.proofs.Requested.{net_requested, numbered_requested, one_test, range_requested, range_tests}
use Rattle.store_statements.proofs.Requested.{two_tests}
use Rattle.store_statements.proofs.Texts.{Queries, Runs}

-- ---- insert_held

abbrev insert_text : List ℕ
insert_text = codes "INSERT INTO held VALUES (?1, ?2)"

abbrev insert_terms : List Term
insert_terms = lit Null ∷ col 0 0 ∷ col 0 1 ∷ []

insert_is : InEach (λ s. command_of (understood s insert_text) ≡ Insert 4 (Values insert_terms 3))
unfolding understood everything office_schema analyzed_schema
insert_is = record { usual = refl; analyzed = refl }

insert_plain : InEach (λ s. IsPlain (understood s insert_text))
unfolding understood everything office_schema analyzed_schema
insert_plain = record { usual = (refl, refl); analyzed = (refl, refl) }

put : (net : List ℕ) (number : ℕ) (db : Trees)
    → edited db (edit_of db held [] Chosen 0 (value_rows (stamped held (held_row net number)) 3 1 insert_terms))
    ≡ put_row (Int (next_rowid (db 8)) ∷ held_row net number) (db 8)
put net number db = rw (cast_null, cast_number number) refl

pub inserts : (net : List ℕ) (number : ℕ) → Runs insert_text (held_row net number)
    (λ t. record t { held = t.held ++ held_row net number ∷ [] }) (λ t. 1)
unfolding office_schema Runs
inserts net number old new r office ended ran =
    makes insert_text (held_row net number) _ 1 old new r
    (appends 4 held held_there held_only insert_text (held_row net number) insert_terms 3 insert_is insert_plain
    (held_row net number) refl (λ db. refl) (λ db shaped. put net number db) old new office) ended ran

-- ---- delete_held

abbrev delete_held_text : List ℕ
delete_held_text = codes "DELETE FROM held WHERE net = ?1 AND number = ?2"

delete_held_is : (params : Row) → InEach (λ s. command_of (understood s delete_held_text)
    ≡ Delete 4 (record { lets = []; body = query 8 two_tests (col 1 0 ∷ []) [] params }))
unfolding understood everything office_schema analyzed_schema
delete_held_is params = record { usual = refl; analyzed = refl }

delete_held_plain : InEach (λ s. IsPlain (understood s delete_held_text))
unfolding understood everything office_schema analyzed_schema
delete_held_plain = record { usual = (refl, refl); analyzed = (refl, refl) }

pub delete_helds : (net : List ℕ) (number : ℕ) → Runs delete_held_text (Text net ∷ Int (pos number) ∷ [])
    (λ t. record t { held = filter (λ row. not (has_net_and_number net number row)) t.held })
    (λ t. length (filter (has_net_and_number net number) t.held))
unfolding office_schema Runs
delete_helds net number old new r office ended ran =
    makes delete_held_text (Text net ∷ Int (pos number) ∷ []) _ _ old new r
    (removes 4 held held_there held_only delete_held_text (Text net ∷ Int (pos number) ∷ []) two_tests
    (delete_held_is (Text net ∷ Int (pos number) ∷ [])) delete_held_plain (has_net_and_number net number)
    (numbered_requested net number) held_there old new office) ended ran

-- ---- select_held

abbrev pub held_text : List ℕ
held_text = codes "SELECT number FROM held WHERE net = ?1 ORDER BY number"

abbrev held_columns : List Term
held_columns = col 1 2 ∷ []

abbrev held_by : List (Term × Key)
held_by = (col 1 2, ascending) ∷ []

held_selects : (params : Row) → InEach (λ s. IsSelect s held_text 8 one_test held_columns held_by (codes "number" ∷ [])
    params)
unfolding understood everything office_schema analyzed_schema
held_selects params = record {
  usual = record { command = refl; listing = refl; plain = (refl, refl) };
  analyzed = record { command = refl; listing = refl; plain = (refl, refl) };
}

held_means : (net : List ℕ) → Means values 8 one_test held_columns held_by (Text net ∷ []) (is_of_net net) held_shown
    held_order
held_means net = record {
  tests_same = net_requested net;
  shows_same = λ r. ap (λ v. v ∷ []) (column_is r 1);
  orders_same = λ x y. then-Equal _ ∙ rw (column_is x 1, column_is y 1) refl;
}

pub held_found : {X : Type 0} (rows_of : X → List Row) (net : List ℕ) → Queries rows_of held_text (Text net ∷ [])
    (λ t rows. IsSelected (is_of_net net) held_shown held_order t.held rows)
unfolding Queries
held_found rows_of net = finds_now held_text 8 one_test held_columns held_by _ (Text net ∷ [])
    (held_selects (Text net ∷ [])) values (is_of_net net) held_shown held_order (held_means net) rows_of

pub held_plain : (s : Schema) → IsCurrentSchema s → IsPlain (understood s held_text)
held_plain s now = (in_each (held_selects []) s now).plain

-- ---- select_held_numbers

abbrev pub held_numbers_text : List ℕ
held_numbers_text = codes "SELECT number FROM held WHERE net = ?1 AND number >= ?2 AND number <= ?3 ORDER BY number"

held_numbers_selects : (params : Row) → InEach (λ s. IsSelect s held_numbers_text 8 range_tests held_columns held_by
    (codes "number" ∷ []) params)
unfolding understood everything office_schema analyzed_schema
held_numbers_selects params = record {
  usual = record { command = refl; listing = refl; plain = (refl, refl) };
  analyzed = record { command = refl; listing = refl; plain = (refl, refl) };
}

held_numbers_means : (net : List ℕ) (first last : ℕ)
    → Means values 8 range_tests held_columns held_by (Text net ∷ Int (pos first) ∷ Int (pos last) ∷ [])
    (has_number_between net first last) held_shown held_order
held_numbers_means net first last = record {
  tests_same = range_requested net first last;
  shows_same = λ r. ap (λ v. v ∷ []) (column_is r 1);
  orders_same = λ x y. then-Equal _ ∙ rw (column_is x 1, column_is y 1) refl;
}

pub held_numbers_found : {X : Type 0} (rows_of : X → List Row) (net : List ℕ) (first last : ℕ) → Queries rows_of
    held_numbers_text (Text net ∷ Int (pos first) ∷ Int (pos last) ∷ [])
    (λ t rows. IsSelected (has_number_between net first last) held_shown held_order t.held rows)
unfolding Queries
held_numbers_found rows_of net first last = finds_now held_numbers_text 8 range_tests held_columns held_by _
    (Text net ∷ Int (pos first) ∷ Int (pos last) ∷ [])
    (held_numbers_selects (Text net ∷ Int (pos first) ∷ Int (pos last) ∷ [])) values (has_number_between net first last)
    held_shown held_order (held_numbers_means net first last) rows_of

pub held_numbers_plain : (s : Schema) → IsCurrentSchema s → IsPlain (understood s held_numbers_text)
held_numbers_plain s now = (in_each (held_numbers_selects []) s now).plain
