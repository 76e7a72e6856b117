-- What the texts on `receiver` make of it, and show of it.
use Rattle.store_statements.proofs.Common.{◌≡◌, ℕ, pos, List, [], ◌∷◌, ◌++◌, codes, not, ap, refl, ◌∙◌, ordering_then}
use Rattle.store_statements.proofs.Common.{filter, length, Null, Int, Text, Row, column, value_cmp, Term, lit, col}
use Rattle.store_statements.proofs.Common.{Trees, put_row, Schema, Values, Insert, Delete, edit_of, edited, next_rowid}
use Rattle.store_statements.proofs.Common.{Chosen, value_rows, stamped, Key, then-Equal, IsPlain, command_of}
use Rattle.store_statements.proofs.Common.{IsCurrentSchema, values, IsSelected, cast_null, cast_number, column_is}
use Rattle.store_statements.proofs.Common.{appends, makes, removes, InEach, in_each, query, ascending, IsSelect, Means}
use Rattle.store_statements.proofs.Common.{finds_now, IsCountSelect, counts, count}
use Rattle.sqlite_tied.specs.Compute.{everything}
use Rattle.sqlite.specs.Listing.{understood}
use Rattle.store_tables.specs.Schema.{analyzed_schema, office_schema}
use Rattle.store_tables.proofs.TableIndices.{receiver, receiver_there, receiver_only}
use Rattle.store_statements.specs.declared.row.ReceiverRow.{ReceiverRow}
use Rattle.store_statements.specs.Rows.{has_net_and_number, has_place_of, is_of_net, receiver_row}
use Rattle.store_statements.specs.Shown.{receivers_order, receivers_shown}
use Rattle.store_statements.proofs.Requested.{net_requested, numbered_requested, one_test, place_requested, three_tests}
use Rattle.store_statements.proofs.Requested.{two_tests}
use Rattle.store_statements.proofs.Texts.{Queries, Runs}

-- ---- insert_receiver

abbrev insert_text : List ℕ
insert_text = codes "INSERT INTO receiver VALUES (?1, ?2, ?3, ?4, ?5)"

abbrev insert_terms : List Term
insert_terms = lit Null ∷ col 0 0 ∷ col 0 1 ∷ col 0 2 ∷ col 0 3 ∷ col 0 4 ∷ []

insert_is : InEach (λ s. command_of (understood s insert_text) ≡ Insert 11 (Values insert_terms 6))
unfolding understood everything office_schema analyzed_schema
insert_is = record { usual = refl; analyzed = refl }

insert_plain : InEach (λ s. IsPlain (understood s insert_text))
unfolding understood everything office_schema analyzed_schema
insert_plain = record { usual = (refl, refl); analyzed = (refl, refl) }

put : (row : ReceiverRow) (db : Trees)
    → edited db (edit_of db receiver [] Chosen 0 (value_rows (stamped receiver (receiver_row row)) 6 1 insert_terms))
    ≡ put_row (Int (next_rowid (db 23)) ∷ receiver_row row) (db 23)
put row db = rw (cast_null, cast_number row.number, cast_number row.place, cast_number row.index) refl

pub inserts : (row : ReceiverRow) → Runs insert_text (receiver_row row)
    (λ t. record t { receiver = t.receiver ++ receiver_row row ∷ [] }) (λ t. 1)
unfolding office_schema Runs
inserts row old new r office ended ran =
    makes insert_text (receiver_row row) _ 1 old new r
    (appends 11 receiver receiver_there receiver_only insert_text (receiver_row row) insert_terms 6 insert_is
    insert_plain (receiver_row row) refl (λ db. refl) (λ db shaped. put row db) old new office) ended ran

-- ---- delete_receivers

abbrev delete_text : List ℕ
delete_text = codes "DELETE FROM receiver WHERE net = ?1 AND number = ?2"

delete_is : (params : Row) → InEach (λ s. command_of (understood s delete_text)
    ≡ Delete 11 (record { lets = []; body = query 23 two_tests (col 1 0 ∷ []) [] params }))
unfolding understood everything office_schema analyzed_schema
delete_is params = record { usual = refl; analyzed = refl }

delete_plain : InEach (λ s. IsPlain (understood s delete_text))
unfolding understood everything office_schema analyzed_schema
delete_plain = record { usual = (refl, refl); analyzed = (refl, refl) }

pub deletes : (net : List ℕ) (number : ℕ) → Runs delete_text (Text net ∷ Int (pos number) ∷ [])
    (λ t. record t { receiver = filter (λ row. not (has_net_and_number net number row)) t.receiver })
    (λ t. length (filter (has_net_and_number net number) t.receiver))
unfolding office_schema Runs
deletes net number old new r office ended ran =
    makes delete_text (Text net ∷ Int (pos number) ∷ []) _ _ old new r
    (removes 11 receiver receiver_there receiver_only delete_text (Text net ∷ Int (pos number) ∷ []) two_tests
    (delete_is (Text net ∷ Int (pos number) ∷ [])) delete_plain (has_net_and_number net number)
    (numbered_requested net number) receiver_there old new office) ended ran

-- ---- delete_receivers_at

abbrev delete_at_text : List ℕ
delete_at_text = codes "DELETE FROM receiver WHERE net = ?1 AND number = ?2 AND place = ?3"

delete_at_is : (params : Row) → InEach (λ s. command_of (understood s delete_at_text)
    ≡ Delete 11 (record { lets = []; body = query 23 three_tests (col 1 0 ∷ []) [] params }))
unfolding understood everything office_schema analyzed_schema
delete_at_is params = record { usual = refl; analyzed = refl }

delete_at_plain : InEach (λ s. IsPlain (understood s delete_at_text))
unfolding understood everything office_schema analyzed_schema
delete_at_plain = record { usual = (refl, refl); analyzed = (refl, refl) }

pub deletes_at : (net : List ℕ) (number place : ℕ) → Runs delete_at_text
    (Text net ∷ Int (pos number) ∷ Int (pos place) ∷ [])
    (λ t. record t { receiver = filter (λ row. not (has_place_of net number place row)) t.receiver })
    (λ t. length (filter (has_place_of net number place) t.receiver))
unfolding office_schema Runs
deletes_at net number place old new r office ended ran =
    makes delete_at_text (Text net ∷ Int (pos number) ∷ Int (pos place) ∷ []) _ _ old new r
    (removes 11 receiver receiver_there receiver_only delete_at_text
    (Text net ∷ Int (pos number) ∷ Int (pos place) ∷ []) three_tests
    (delete_at_is (Text net ∷ Int (pos number) ∷ Int (pos place) ∷ [])) delete_at_plain
    (has_place_of net number place) (place_requested net number place) receiver_there old new office) ended ran

-- ---- select_receivers

abbrev pub receivers_text : List ℕ
receivers_text = codes "SELECT place, name FROM receiver WHERE net = ?1 AND number = ?2 ORDER BY place, seat"

abbrev receivers_columns : List Term
receivers_columns = col 1 3 ∷ col 1 5 ∷ []

abbrev receivers_by : List (Term × Key)
receivers_by = (col 1 3, ascending) ∷ (col 1 4, ascending) ∷ []

receivers_selects : (params : Row) → InEach (λ s. IsSelect s receivers_text 23 two_tests receivers_columns receivers_by
    (codes "place" ∷ codes "name" ∷ []) params)
unfolding understood everything office_schema analyzed_schema
receivers_selects params = record {
  usual = record { command = refl; listing = refl; plain = (refl, refl) };
  analyzed = record { command = refl; listing = refl; plain = (refl, refl) };
}

receivers_means : (net : List ℕ) (number : ℕ)
    → Means values 23 two_tests receivers_columns receivers_by (Text net ∷ Int (pos number) ∷ [])
    (has_net_and_number net number) receivers_shown receivers_order
receivers_means net number = record {
  tests_same = numbered_requested net number;
  shows_same = λ r. rw (column_is r 2, column_is r 4) refl;
  orders_same = λ x y. ap (ordering_then (value_cmp (column x 3) (column y 3))) (then-Equal _)
      ∙ rw (column_is x 2, column_is y 2, column_is x 3, column_is y 3) refl;
}

pub receivers_found : {X : Type 0} (rows_of : X → List Row) (net : List ℕ) (number : ℕ) → Queries rows_of receivers_text
    (Text net ∷ Int (pos number) ∷ [])
    (λ t rows. IsSelected (has_net_and_number net number) receivers_shown receivers_order t.receiver rows)
unfolding Queries
receivers_found rows_of net number = finds_now receivers_text 23 two_tests receivers_columns receivers_by _
    (Text net ∷ Int (pos number) ∷ []) (receivers_selects (Text net ∷ Int (pos number) ∷ [])) values
    (has_net_and_number net number) receivers_shown receivers_order (receivers_means net number) rows_of

pub receivers_plain : (s : Schema) → IsCurrentSchema s → IsPlain (understood s receivers_text)
receivers_plain s now = (in_each (receivers_selects []) s now).plain

-- ---- count_receivers

abbrev pub count_text : List ℕ
count_text = codes "SELECT count(*) FROM receiver WHERE net = ?1"

count_selects : (params : Row) → InEach (λ s. IsCountSelect s count_text 23 one_test params)
unfolding understood everything office_schema analyzed_schema
count_selects params = record {
  usual = record { command = refl; listing = refl; plain = (refl, refl) };
  analyzed = record { command = refl; listing = refl; plain = (refl, refl) };
}

pub counted_receivers : {X : Type 0} (rows_of : X → List Row) (net : List ℕ) → Queries rows_of count_text
    (Text net ∷ []) (λ t rows. rows ≡ (count (length (filter (is_of_net net) t.receiver)) ∷ []) ∷ [])
unfolding Queries
counted_receivers rows_of net = counts count_text 23 one_test (Text net ∷ []) (count_selects (Text net ∷ []))
    (is_of_net net) (net_requested net) rows_of

pub count_plain : (s : Schema) → IsCurrentSchema s → IsPlain (understood s count_text)
count_plain s now = (in_each (count_selects []) s now).plain
