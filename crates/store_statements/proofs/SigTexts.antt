-- What the texts on `sig` make of it, and show of it.
use Rattle.store_statements.proofs.Common.{◌≡◌, ℕ, pos, List, [], ◌∷◌, ◌++◌, codes, not, refl, ◌∙◌, filter, length}
use Rattle.store_statements.proofs.Common.{Null, Int, Text, Row, Term, lit, col, Trees, put_row, Schema, Values, Insert}
use Rattle.store_statements.proofs.Common.{Delete, edit_of, edited, next_rowid, Chosen, value_rows, stamped, Key}
use Rattle.store_statements.proofs.Common.{then-Equal, IsPlain, command_of, IsCurrentSchema, values, IsSelected}
use Rattle.store_statements.proofs.Common.{cast_null, cast_number, column_is, appends, makes, removes, InEach, in_each}
use Rattle.store_statements.proofs.Common.{query, ascending, IsSelect, Means, finds_now, IsCountSelect, counts, count}
use Rattle.sqlite_tied.specs.Compute.{everything}
use Rattle.sqlite.specs.Listing.{understood}
use Rattle.store_tables.specs.Schema.{analyzed_schema, office_schema}
use Rattle.store_tables.specs.Selected.{IsFirstSelected}
use Rattle.store_tables.proofs.Columns.{cast_int}
use Rattle.store_tables.proofs.TableIndices.{sig, sig_there, sig_only}
use Rattle.store_tables.proofs.TopRow.{IsTopSelect, descending, tops}
use Rattle.store_statements.specs.declared.row.SigRow.{SigRow}
use Rattle.store_statements.specs.Mux.{mux_number}
use Rattle.store_statements.specs.Rows.{has_name_of, has_net_and_number, has_place_of, is_of_net, sig_row}
use Rattle.store_statements.specs.Shown.{last_place_order, last_place_shown, sigs_order, sigs_shown}
use Rattle.store_statements.proofs.Requested.{net_requested, numbered_requested, one_test, place_requested}
use Rattle.store_statements.proofs.Requested.{signal_requested, signal_tests, three_tests, two_tests}
use Rattle.store_statements.proofs.Texts.{Queries, Runs}

-- ---- insert_sig

abbrev pub insert_text : List ℕ
insert_text = codes "INSERT INTO sig VALUES (?1, ?2, ?3, ?4, ?5, ?6, ?7, ?8, ?9, ?10, ?11, ?12, ?13, ?14, ?15, ?16, ?17)"

abbrev insert_terms : List Term
insert_terms = lit Null ∷ col 0 0 ∷ col 0 1 ∷ col 0 2 ∷ col 0 3 ∷ col 0 4 ∷ col 0 5 ∷ col 0 6 ∷ col 0 7 ∷ col 0 8
    ∷ col 0 9 ∷ col 0 10 ∷ col 0 11 ∷ col 0 12 ∷ col 0 13 ∷ col 0 14 ∷ col 0 15 ∷ col 0 16 ∷ []

insert_is : InEach (λ s. command_of (understood s insert_text) ≡ Insert 10 (Values insert_terms 18))
unfolding understood everything office_schema analyzed_schema
insert_is = record { usual = refl; analyzed = refl }

insert_plain : InEach (λ s. IsPlain (understood s insert_text))
unfolding understood everything office_schema analyzed_schema
insert_plain = record { usual = (refl, refl); analyzed = (refl, refl) }

put : (row : SigRow) (db : Trees)
    → edited db (edit_of db sig [] Chosen 0 (value_rows (stamped sig (sig_row row)) 18 1 insert_terms))
    ≡ put_row (Int (next_rowid (db 20)) ∷ sig_row row) (db 20)
put row db = rw (
  cast_null,
  cast_number row.number,
  cast_number row.place,
  cast_number row.start,
  cast_number row.size,
  cast_number row.motorola,
  cast_number row.signed,
  cast_number row.spn,
  cast_number row.value_type,
  cast_int (mux_number row.mux),
) refl

pub inserts : (row : SigRow) → Runs insert_text (sig_row row) (λ t. record t { sig = t.sig ++ sig_row row ∷ [] })
    (λ t. 1)
unfolding office_schema Runs
inserts row old new r office ended ran =
    makes insert_text (sig_row row) _ 1 old new r
    (appends 10 sig sig_there sig_only insert_text (sig_row row) insert_terms 18 insert_is insert_plain (sig_row row)
    refl (λ db. refl) (λ db shaped. put row db) old new office) ended ran

-- ---- delete_sigs

abbrev delete_text : List ℕ
delete_text = codes "DELETE FROM sig WHERE net = ?1 AND number = ?2"

delete_is : (params : Row) → InEach (λ s. command_of (understood s delete_text)
    ≡ Delete 10 (record { lets = []; body = query 20 two_tests (col 1 0 ∷ []) [] params }))
unfolding understood everything office_schema analyzed_schema
delete_is params = record { usual = refl; analyzed = refl }

delete_plain : InEach (λ s. IsPlain (understood s delete_text))
unfolding understood everything office_schema analyzed_schema
delete_plain = record { usual = (refl, refl); analyzed = (refl, refl) }

pub deletes : (net : List ℕ) (number : ℕ) → Runs delete_text (Text net ∷ Int (pos number) ∷ [])
    (λ t. record t { sig = filter (λ row. not (has_net_and_number net number row)) t.sig })
    (λ t. length (filter (has_net_and_number net number) t.sig))
unfolding office_schema Runs
deletes net number old new r office ended ran =
    makes delete_text (Text net ∷ Int (pos number) ∷ []) _ _ old new r
    (removes 10 sig sig_there sig_only delete_text (Text net ∷ Int (pos number) ∷ []) two_tests
    (delete_is (Text net ∷ Int (pos number) ∷ [])) delete_plain (has_net_and_number net number)
    (numbered_requested net number) sig_there old new office) ended ran

-- ---- delete_sig_at

abbrev delete_at_text : List ℕ
delete_at_text = codes "DELETE FROM sig WHERE net = ?1 AND number = ?2 AND place = ?3"

delete_at_is : (params : Row) → InEach (λ s. command_of (understood s delete_at_text)
    ≡ Delete 10 (record { lets = []; body = query 20 three_tests (col 1 0 ∷ []) [] params }))
unfolding understood everything office_schema analyzed_schema
delete_at_is params = record { usual = refl; analyzed = refl }

delete_at_plain : InEach (λ s. IsPlain (understood s delete_at_text))
unfolding understood everything office_schema analyzed_schema
delete_at_plain = record { usual = (refl, refl); analyzed = (refl, refl) }

pub deletes_at : (net : List ℕ) (number place : ℕ) → Runs delete_at_text
    (Text net ∷ Int (pos number) ∷ Int (pos place) ∷ [])
    (λ t. record t { sig = filter (λ row. not (has_place_of net number place row)) t.sig })
    (λ t. length (filter (has_place_of net number place) t.sig))
unfolding office_schema Runs
deletes_at net number place old new r office ended ran =
    makes delete_at_text (Text net ∷ Int (pos number) ∷ Int (pos place) ∷ []) _ _ old new r
    (removes 10 sig sig_there sig_only delete_at_text (Text net ∷ Int (pos number) ∷ Int (pos place) ∷ []) three_tests
    (delete_at_is (Text net ∷ Int (pos number) ∷ Int (pos place) ∷ [])) delete_at_plain
    (has_place_of net number place) (place_requested net number place) sig_there old new office) ended ran

-- ---- select_sigs

abbrev pub sigs_text : List ℕ
sigs_text = codes "SELECT place, name, start, size, motorola, signed, mux, factor, shift, least, most, unit, comment, spn, label FROM sig WHERE net = ?1 AND number = ?2 ORDER BY place"

abbrev sigs_columns : List Term
sigs_columns = col 1 3 ∷ col 1 4 ∷ col 1 5 ∷ col 1 6 ∷ col 1 7 ∷ col 1 8 ∷ col 1 9 ∷ col 1 10 ∷ col 1 11 ∷ col 1 12
    ∷ col 1 13 ∷ col 1 14 ∷ col 1 15 ∷ col 1 16 ∷ col 1 17 ∷ []

abbrev sigs_by : List (Term × Key)
sigs_by = (col 1 3, ascending) ∷ []

sigs_selects : (params : Row)
    → InEach (λ s. IsSelect s sigs_text 20 two_tests sigs_columns sigs_by
    (codes "place" ∷ codes "name" ∷ codes "start" ∷ codes "size" ∷ codes "motorola" ∷ codes "signed" ∷ codes "mux"
    ∷ codes "factor" ∷ codes "shift" ∷ codes "least" ∷ codes "most" ∷ codes "unit" ∷ codes "comment" ∷ codes "spn"
    ∷ codes "label" ∷ []) params)
unfolding understood everything office_schema analyzed_schema
sigs_selects params = record {
  usual = record { command = refl; listing = refl; plain = (refl, refl) };
  analyzed = record { command = refl; listing = refl; plain = (refl, refl) };
}

sigs_means : (net : List ℕ) (number : ℕ)
    → Means values 20 two_tests sigs_columns sigs_by (Text net ∷ Int (pos number) ∷ []) (has_net_and_number net number)
    sigs_shown sigs_order
sigs_means net number = record {
  tests_same = numbered_requested net number;
  shows_same = λ r. rw (
    column_is r 2,
    column_is r 3,
    column_is r 4,
    column_is r 5,
    column_is r 6,
    column_is r 7,
    column_is r 8,
    column_is r 9,
    column_is r 10,
    column_is r 11,
    column_is r 12,
    column_is r 13,
    column_is r 14,
    column_is r 15,
    column_is r 16,
  ) refl;
  orders_same = λ x y. then-Equal _ ∙ rw (column_is x 2, column_is y 2) refl;
}

pub sigs_found : {X : Type 0} (rows_of : X → List Row) (net : List ℕ) (number : ℕ) → Queries rows_of sigs_text
    (Text net ∷ Int (pos number) ∷ [])
    (λ t rows. IsSelected (has_net_and_number net number) sigs_shown sigs_order t.sig rows)
unfolding Queries
sigs_found rows_of net number =
    finds_now sigs_text 20 two_tests sigs_columns sigs_by _ (Text net ∷ Int (pos number) ∷ [])
    (sigs_selects (Text net ∷ Int (pos number) ∷ [])) values (has_net_and_number net number) sigs_shown sigs_order
    (sigs_means net number) rows_of

pub sigs_plain : (s : Schema) → IsCurrentSchema s → IsPlain (understood s sigs_text)
sigs_plain s now = (in_each (sigs_selects []) s now).plain

-- ---- select_sigs_named

abbrev pub named_text : List ℕ
named_text = codes "SELECT place, name, start, size, motorola, signed, mux, factor, shift, least, most, unit, comment, spn, label FROM sig WHERE net = ?1 AND number = ?2 AND name = ?3 ORDER BY place"

named_selects : (params : Row) → InEach (λ s. IsSelect s named_text 20 signal_tests sigs_columns sigs_by
    (codes "place" ∷ codes "name" ∷ codes "start" ∷ codes "size" ∷ codes "motorola" ∷ codes "signed" ∷ codes "mux"
    ∷ codes "factor" ∷ codes "shift" ∷ codes "least" ∷ codes "most" ∷ codes "unit" ∷ codes "comment" ∷ codes "spn"
    ∷ codes "label" ∷ []) params)
unfolding understood everything office_schema analyzed_schema
named_selects params = record {
  usual = record { command = refl; listing = refl; plain = (refl, refl) };
  analyzed = record { command = refl; listing = refl; plain = (refl, refl) };
}

named_means : (net : List ℕ) (number : ℕ) (name : List ℕ)
    → Means values 20 signal_tests sigs_columns sigs_by (Text net ∷ Int (pos number) ∷ Text name ∷ [])
    (has_name_of net number name) sigs_shown sigs_order
named_means net number name = record {
  tests_same = signal_requested net number name;
  shows_same = (sigs_means net number).shows_same;
  orders_same = (sigs_means net number).orders_same;
}

pub named_found : {X : Type 0} (rows_of : X → List Row) (net : List ℕ) (number : ℕ) (name : List ℕ) → Queries rows_of
    named_text (Text net ∷ Int (pos number) ∷ Text name ∷ [])
    (λ t rows. IsSelected (has_name_of net number name) sigs_shown sigs_order t.sig rows)
unfolding Queries
named_found rows_of net number name =
    finds_now named_text 20 signal_tests sigs_columns sigs_by _ (Text net ∷ Int (pos number) ∷ Text name ∷ [])
    (named_selects (Text net ∷ Int (pos number) ∷ Text name ∷ [])) values (has_name_of net number name) sigs_shown
    sigs_order (named_means net number name) rows_of

pub named_plain : (s : Schema) → IsCurrentSchema s → IsPlain (understood s named_text)
named_plain s now = (in_each (named_selects []) s now).plain

-- ---- select_last_place

abbrev pub last_place_text : List ℕ
last_place_text = codes "SELECT place FROM sig WHERE net = ?1 AND number = ?2 ORDER BY place DESC LIMIT 1"

abbrev last_place_by : List (Term × Key)
last_place_by = (col 1 3, descending) ∷ []

last_place_selects : (params : Row)
    → InEach (λ s. IsTopSelect s last_place_text 20 two_tests (col 1 3 ∷ []) last_place_by (codes "place" ∷ []) params)
unfolding understood everything office_schema analyzed_schema
last_place_selects params = record {
  usual = record { command = refl; listing = refl; plain = (refl, refl) };
  analyzed = record { command = refl; listing = refl; plain = (refl, refl) };
}

last_place_means : (net : List ℕ) (number : ℕ)
    → Means values 20 two_tests (col 1 3 ∷ []) last_place_by (Text net ∷ Int (pos number) ∷ [])
    (has_net_and_number net number) last_place_shown last_place_order
last_place_means net number = record {
  tests_same = numbered_requested net number;
  shows_same = λ r. rw (column_is r 2) refl;
  orders_same = λ x y. then-Equal _ ∙ rw (column_is x 2, column_is y 2) refl;
}

pub last_place_found : {X : Type 0} (rows_of : X → List Row) (net : List ℕ) (number : ℕ) → Queries rows_of
    last_place_text (Text net ∷ Int (pos number) ∷ [])
    (λ t rows. IsFirstSelected (has_net_and_number net number) last_place_shown last_place_order t.sig rows)
unfolding Queries
last_place_found rows_of net number =
    tops last_place_text 20 two_tests (col 1 3 ∷ []) last_place_by (codes "place" ∷ [])
    (Text net ∷ Int (pos number) ∷ [])
    (last_place_selects (Text net ∷ Int (pos number) ∷ [])) values (has_net_and_number net number) last_place_shown
    last_place_order (last_place_means net number) rows_of

pub last_place_plain : (s : Schema) → IsCurrentSchema s → IsPlain (understood s last_place_text)
last_place_plain s now = (in_each (last_place_selects []) s now).plain

-- ---- count_sigs

abbrev pub count_text : List ℕ
count_text = codes "SELECT count(*) FROM sig WHERE net = ?1"

count_selects : (params : Row) → InEach (λ s. IsCountSelect s count_text 20 one_test params)
unfolding understood everything office_schema analyzed_schema
count_selects params = record {
  usual = record { command = refl; listing = refl; plain = (refl, refl) };
  analyzed = record { command = refl; listing = refl; plain = (refl, refl) };
}

pub counted_sigs : {X : Type 0} (rows_of : X → List Row) (net : List ℕ) → Queries rows_of count_text (Text net ∷ [])
    (λ t rows. rows ≡ (count (length (filter (is_of_net net) t.sig)) ∷ []) ∷ [])
unfolding Queries
counted_sigs rows_of net = counts count_text 20 one_test (Text net ∷ []) (count_selects (Text net ∷ [])) (is_of_net net)
    (net_requested net) rows_of

pub count_plain : (s : Schema) → IsCurrentSchema s → IsPlain (understood s count_text)
count_plain s now = (in_each (count_selects []) s now).plain
