-- What the texts on `sigvalue` make of it, and show of it.
use Rattle.store_statements.proofs.Common.{◌≡◌, ℕ, pos, List, [], ◌∷◌, ◌++◌, codes, not, ap, refl, ◌∙◌, ordering_then}
use Rattle.store_statements.proofs.Common.{filter, length, Null, Int, Text, Row, column, value_cmp, Term, lit, col}
use Rattle.store_statements.proofs.Common.{Trees, put_row, Schema, Values, Insert, Delete, edit_of, edited, next_rowid}
use Rattle.store_statements.proofs.Common.{Chosen, value_rows, stamped, Key, then-Equal, IsPlain, command_of}
use Rattle.store_statements.proofs.Common.{IsCurrentSchema, values, IsSelected, cast_null, cast_number, column_is}
use Rattle.store_statements.proofs.Common.{appends, makes, removes, InEach, in_each, query, ascending, IsSelect, Means}
use Rattle.store_statements.proofs.Common.{finds_now, IsCountSelect, counts, count}
use Rattle.sqlite_tied.specs.Compute.{everything}
use Rattle.sqlite.specs.Listing.{understood}
use Rattle.store_tables.specs.Schema.{analyzed_schema, office_schema}
use Rattle.store_tables.proofs.TableIndices.{sigvalue, sigvalue_there, sigvalue_only}
use Rattle.store_statements.specs.declared.row.SigValueRow.{SigValueRow}
use Rattle.store_statements.specs.Rows.{has_net_and_number, has_place_of, is_of_net, sigvalue_row}
use Rattle.store_statements.specs.Shown.{sigvalues_order, sigvalues_shown}
use Rattle.store_statements.proofs.Requested.{net_requested, numbered_requested, one_test, place_requested, three_tests}
use Rattle.store_statements.proofs.Requested.{two_tests}
use Rattle.store_statements.proofs.Texts.{Queries, Runs}

-- ---- insert_sigvalue

abbrev insert_text : List ℕ
insert_text = codes "INSERT INTO sigvalue VALUES (?1, ?2, ?3, ?4, ?5, ?6)"

abbrev insert_terms : List Term
insert_terms = lit Null ∷ col 0 0 ∷ col 0 1 ∷ col 0 2 ∷ col 0 3 ∷ col 0 4 ∷ col 0 5 ∷ []

insert_is : InEach (λ s. command_of (understood s insert_text) ≡ Insert 12 (Values insert_terms 7))
unfolding understood everything office_schema analyzed_schema
insert_is = record { usual = refl; analyzed = refl }

insert_plain : InEach (λ s. IsPlain (understood s insert_text))
unfolding understood everything office_schema analyzed_schema
insert_plain = record { usual = (refl, refl); analyzed = (refl, refl) }

put : (row : SigValueRow) (db : Trees)
    → edited db (edit_of db sigvalue [] Chosen 0 (value_rows (stamped sigvalue (sigvalue_row row)) 7 1 insert_terms))
    ≡ put_row (Int (next_rowid (db 25)) ∷ sigvalue_row row) (db 25)
put row db = rw (cast_null, cast_number row.number, cast_number row.place, cast_number row.index) refl

pub inserts : (row : SigValueRow) → Runs insert_text (sigvalue_row row)
    (λ t. record t { sigvalue = t.sigvalue ++ sigvalue_row row ∷ [] }) (λ t. 1)
unfolding office_schema Runs
inserts row old new r office ended ran =
    makes insert_text (sigvalue_row row) _ 1 old new r
    (appends 12 sigvalue sigvalue_there sigvalue_only insert_text (sigvalue_row row) insert_terms 7 insert_is
    insert_plain (sigvalue_row row) refl (λ db. refl) (λ db shaped. put row db) old new office) ended ran

-- ---- delete_sigvalues

abbrev delete_text : List ℕ
delete_text = codes "DELETE FROM sigvalue WHERE net = ?1 AND number = ?2"

delete_is : (params : Row) → InEach (λ s. command_of (understood s delete_text)
    ≡ Delete 12 (record { lets = []; body = query 25 two_tests (col 1 0 ∷ []) [] params }))
unfolding understood everything office_schema analyzed_schema
delete_is params = record { usual = refl; analyzed = refl }

delete_plain : InEach (λ s. IsPlain (understood s delete_text))
unfolding understood everything office_schema analyzed_schema
delete_plain = record { usual = (refl, refl); analyzed = (refl, refl) }

pub deletes : (net : List ℕ) (number : ℕ) → Runs delete_text (Text net ∷ Int (pos number) ∷ [])
    (λ t. record t { sigvalue = filter (λ row. not (has_net_and_number net number row)) t.sigvalue })
    (λ t. length (filter (has_net_and_number net number) t.sigvalue))
unfolding office_schema Runs
deletes net number old new r office ended ran =
    makes delete_text (Text net ∷ Int (pos number) ∷ []) _ _ old new r
    (removes 12 sigvalue sigvalue_there sigvalue_only delete_text (Text net ∷ Int (pos number) ∷ []) two_tests
    (delete_is (Text net ∷ Int (pos number) ∷ [])) delete_plain (has_net_and_number net number)
    (numbered_requested net number) sigvalue_there old new office) ended ran

-- ---- delete_sigvalues_at

abbrev delete_at_text : List ℕ
delete_at_text = codes "DELETE FROM sigvalue WHERE net = ?1 AND number = ?2 AND place = ?3"

delete_at_is : (params : Row) → InEach (λ s. command_of (understood s delete_at_text)
    ≡ Delete 12 (record { lets = []; body = query 25 three_tests (col 1 0 ∷ []) [] params }))
unfolding understood everything office_schema analyzed_schema
delete_at_is params = record { usual = refl; analyzed = refl }

delete_at_plain : InEach (λ s. IsPlain (understood s delete_at_text))
unfolding understood everything office_schema analyzed_schema
delete_at_plain = record { usual = (refl, refl); analyzed = (refl, refl) }

pub deletes_at : (net : List ℕ) (number place : ℕ) → Runs delete_at_text
    (Text net ∷ Int (pos number) ∷ Int (pos place) ∷ [])
    (λ t. record t { sigvalue = filter (λ row. not (has_place_of net number place row)) t.sigvalue })
    (λ t. length (filter (has_place_of net number place) t.sigvalue))
unfolding office_schema Runs
deletes_at net number place old new r office ended ran =
    makes delete_at_text (Text net ∷ Int (pos number) ∷ Int (pos place) ∷ []) _ _ old new r
    (removes 12 sigvalue sigvalue_there sigvalue_only delete_at_text
    (Text net ∷ Int (pos number) ∷ Int (pos place) ∷ []) three_tests
    (delete_at_is (Text net ∷ Int (pos number) ∷ Int (pos place) ∷ [])) delete_at_plain
    (has_place_of net number place) (place_requested net number place) sigvalue_there old new office) ended ran

-- ---- select_sigvalues

abbrev pub sigvalues_text : List ℕ
sigvalues_text = codes "SELECT place, value, words FROM sigvalue WHERE net = ?1 AND number = ?2 ORDER BY place, seat"

abbrev sigvalues_columns : List Term
sigvalues_columns = col 1 3 ∷ col 1 5 ∷ col 1 6 ∷ []

abbrev sigvalues_by : List (Term × Key)
sigvalues_by = (col 1 3, ascending) ∷ (col 1 4, ascending) ∷ []

sigvalues_selects : (params : Row) → InEach (λ s. IsSelect s sigvalues_text 25 two_tests sigvalues_columns sigvalues_by
    (codes "place" ∷ codes "value" ∷ codes "words" ∷ []) params)
unfolding understood everything office_schema analyzed_schema
sigvalues_selects params = record {
  usual = record { command = refl; listing = refl; plain = (refl, refl) };
  analyzed = record { command = refl; listing = refl; plain = (refl, refl) };
}

sigvalues_means : (net : List ℕ) (number : ℕ)
    → Means values 25 two_tests sigvalues_columns sigvalues_by (Text net ∷ Int (pos number) ∷ [])
    (has_net_and_number net number) sigvalues_shown sigvalues_order
sigvalues_means net number = record {
  tests_same = numbered_requested net number;
  shows_same = λ r. rw (column_is r 2, column_is r 4, column_is r 5) refl;
  orders_same = λ x y. ap (ordering_then (value_cmp (column x 3) (column y 3))) (then-Equal _)
      ∙ rw (column_is x 2, column_is y 2, column_is x 3, column_is y 3) refl;
}

pub sigvalues_found : {X : Type 0} (rows_of : X → List Row) (net : List ℕ) (number : ℕ) → Queries rows_of sigvalues_text
    (Text net ∷ Int (pos number) ∷ [])
    (λ t rows. IsSelected (has_net_and_number net number) sigvalues_shown sigvalues_order t.sigvalue rows)
unfolding Queries
sigvalues_found rows_of net number = finds_now sigvalues_text 25 two_tests sigvalues_columns sigvalues_by _
    (Text net ∷ Int (pos number) ∷ []) (sigvalues_selects (Text net ∷ Int (pos number) ∷ [])) values
    (has_net_and_number net number) sigvalues_shown sigvalues_order (sigvalues_means net number) rows_of

pub sigvalues_plain : (s : Schema) → IsCurrentSchema s → IsPlain (understood s sigvalues_text)
sigvalues_plain s now = (in_each (sigvalues_selects []) s now).plain

-- ---- count_sigvalues

abbrev pub count_text : List ℕ
count_text = codes "SELECT count(*) FROM sigvalue WHERE net = ?1"

count_selects : (params : Row) → InEach (λ s. IsCountSelect s count_text 25 one_test params)
unfolding understood everything office_schema analyzed_schema
count_selects params = record {
  usual = record { command = refl; listing = refl; plain = (refl, refl) };
  analyzed = record { command = refl; listing = refl; plain = (refl, refl) };
}

pub counted_sigvalues : {X : Type 0} (rows_of : X → List Row) (net : List ℕ) → Queries rows_of count_text
    (Text net ∷ []) (λ t rows. rows ≡ (count (length (filter (is_of_net net) t.sigvalue)) ∷ []) ∷ [])
unfolding Queries
counted_sigvalues rows_of net = counts count_text 25 one_test (Text net ∷ []) (count_selects (Text net ∷ []))
    (is_of_net net) (net_requested net) rows_of

pub count_plain : (s : Schema) → IsCurrentSchema s → IsPlain (understood s count_text)
count_plain s now = (in_each (count_selects []) s now).plain
