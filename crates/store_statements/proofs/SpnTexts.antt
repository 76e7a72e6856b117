-- What the texts on `spn` make of it, and show of it.
use Rattle.store_statements.proofs.Common.{◌≡◌, ℕ, pos, List, [], ◌∷◌, codes, not, refl, filter, length, Null, Int, Row}
use Rattle.store_statements.proofs.Common.{Term, lit, col, Trees, put_row, Schema, Values, Insert, Delete, edit_of}
use Rattle.store_statements.proofs.Common.{edited, Chosen, value_rows, stamped, Key, then-Equal, IsPlain, command_of}
use Rattle.store_statements.proofs.Common.{IsCurrentSchema, keyed_values, IsSelected, cast_null, cast_number, makes}
use Rattle.store_statements.proofs.Common.{puts, removes, InEach, in_each, query, ascending, IsSelect, Means, finds_now}
use Rattle.sqlite_tied.specs.Compute.{everything}
use Rattle.sqlite.specs.Listing.{understood}
use Rattle.store_tables.specs.Schema.{analyzed_schema, office_schema}
use Rattle.store_tables.proofs.TableIndices.{spn, spn_there, spn_only}
use Rattle.store_statements.specs.Rows.{is_any, is_number, spn_row}
use Rattle.store_statements.specs.Shown.{spns_order, spns_shown}
use Rattle.store_statements.proofs.Requested.{key_test, number_requested_alone}
use Rattle.store_statements.proofs.Texts.{Queries, Runs}

-- ---- insert_spn

abbrev insert_text : List ℕ
insert_text = codes "INSERT INTO spn VALUES (?1)"

abbrev insert_terms : List Term
insert_terms = col 0 0 ∷ lit Null ∷ []

insert_is : InEach (λ s. command_of (understood s insert_text) ≡ Insert 5 (Values insert_terms 2))
unfolding understood everything office_schema analyzed_schema
insert_is = record { usual = refl; analyzed = refl }

insert_plain : InEach (λ s. IsPlain (understood s insert_text))
unfolding understood everything office_schema analyzed_schema
insert_plain = record { usual = (refl, refl); analyzed = (refl, refl) }

put : (number : ℕ) (db : Trees)
    → edited db (edit_of db spn [] Chosen 0 (value_rows (stamped spn (spn_row number)) 2 1 insert_terms))
    ≡ put_row (Int (pos number) ∷ Null ∷ []) (db 10)
put number db = rw (cast_null, cast_number number) refl

pub inserts : (number : ℕ) → Runs insert_text (spn_row number) (λ t. record t { spn = put_row (spn_row number) t.spn })
    (λ t. 1)
unfolding office_schema Runs
inserts number old new r office ended ran =
    makes insert_text (spn_row number) _ 1 old new r
    (puts 5 spn spn_there spn_only insert_text (spn_row number) insert_terms 2 insert_is insert_plain (pos number) []
    refl (λ db. refl) (put number) old new office) ended ran

-- ---- delete_spn

abbrev delete_spn_text : List ℕ
delete_spn_text = codes "DELETE FROM spn WHERE number = ?1"

delete_spn_is : (params : Row) → InEach (λ s. command_of (understood s delete_spn_text)
    ≡ Delete 5 (record { lets = []; body = query 10 key_test (col 1 0 ∷ []) [] params }))
unfolding understood everything office_schema analyzed_schema
delete_spn_is params = record { usual = refl; analyzed = refl }

delete_spn_plain : InEach (λ s. IsPlain (understood s delete_spn_text))
unfolding understood everything office_schema analyzed_schema
delete_spn_plain = record { usual = (refl, refl); analyzed = (refl, refl) }

pub delete_spns : (number : ℕ) → Runs delete_spn_text (Int (pos number) ∷ [])
    (λ t. record t { spn = filter (λ row. not (is_number number row)) t.spn })
    (λ t. length (filter (is_number number) t.spn))
unfolding office_schema Runs
delete_spns number old new r office ended ran =
    makes delete_spn_text (Int (pos number) ∷ []) _ _ old new r
    (removes 5 spn spn_there spn_only delete_spn_text (Int (pos number) ∷ []) key_test
    (delete_spn_is (Int (pos number) ∷ [])) delete_spn_plain (is_number number) (number_requested_alone number)
    spn_there old new office) ended ran

-- ---- select_spns

abbrev pub spns_text : List ℕ
spns_text = codes "SELECT number FROM spn ORDER BY number"

abbrev spns_columns : List Term
spns_columns = col 1 0 ∷ []

abbrev spns_by : List (Term × Key)
spns_by = (col 1 0, ascending) ∷ []

spns_selects : (params : Row)
    → InEach (λ s. IsSelect s spns_text 10 [] spns_columns spns_by (codes "number" ∷ []) params)
unfolding understood everything office_schema analyzed_schema
spns_selects params = record {
  usual = record { command = refl; listing = refl; plain = (refl, refl) };
  analyzed = record { command = refl; listing = refl; plain = (refl, refl) };
}

spns_means : Means keyed_values 10 [] spns_columns spns_by [] is_any spns_shown spns_order
spns_means = record {
  tests_same = λ r. refl;
  shows_same = λ r. refl;
  orders_same = λ x y. then-Equal _;
}

pub spns_found : {X : Type 0} (rows_of : X → List Row) → Queries rows_of spns_text []
    (λ t rows. IsSelected is_any spns_shown spns_order t.spn rows)
unfolding Queries
spns_found rows_of = finds_now spns_text 10 [] spns_columns spns_by _ [] (spns_selects []) keyed_values is_any
    spns_shown spns_order spns_means rows_of

pub spns_plain : (s : Schema) → IsCurrentSchema s → IsPlain (understood s spns_text)
spns_plain s now = (in_each (spns_selects []) s now).plain
