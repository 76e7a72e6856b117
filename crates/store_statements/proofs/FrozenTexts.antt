-- What the texts on `frozen` make of it, and show of it.
use Rattle.store_statements.proofs.Common.{◌≡◌, ℕ, pos, List, [], ◌∷◌, ◌++◌, codes, refl, ap, ◌∙◌, Null, Int, Text, Row}
use Rattle.store_statements.proofs.Common.{Term, lit, col, Trees, put_row, Schema, Values, Insert, edit_of, edited}
use Rattle.store_statements.proofs.Common.{next_rowid, Chosen, value_rows, stamped, Key, then-Equal, IsPlain}
use Rattle.store_statements.proofs.Common.{command_of, IsCurrentSchema, values, IsSelected, cast_null, cast_number}
use Rattle.store_statements.proofs.Common.{column_is, appends, makes, InEach, in_each, ascending, IsSelect, Means}
use Rattle.store_statements.proofs.Common.{finds_now}
use Rattle.sqlite_tied.specs.Compute.{everything}
use Rattle.sqlite.specs.Listing.{understood}
use Rattle.store_tables.specs.Schema.{analyzed_schema, office_schema}
use Rattle.store_tables.proofs.TableIndices.{frozen, frozen_there, frozen_only}
use Rattle.store_statements.specs.declared.row.FrozenRow.{FrozenRow}
use Rattle.store_statements.specs.Rows.{frozen_row, has_net_and_number, is_of_net}
use Rattle.store_statements.specs.Shown.{release_numbers_order, release_numbers_shown, release_order, release_shown}
use Rattle.store_statements.specs.Shown.{releases_order, releases_shown}
use Rattle.store_statements.proofs.Requested.{net_requested, numbered_requested, one_test, two_tests}
use Rattle.store_statements.proofs.Texts.{Queries, Runs}

-- ---- insert_frozen

abbrev insert_text : List ℕ
insert_text = codes "INSERT INTO frozen VALUES (?1, ?2, ?3)"

abbrev insert_terms : List Term
insert_terms = lit Null ∷ col 0 0 ∷ col 0 1 ∷ col 0 2 ∷ []

insert_is : InEach (λ s. command_of (understood s insert_text) ≡ Insert 7 (Values insert_terms 4))
unfolding understood everything office_schema analyzed_schema
insert_is = record { usual = refl; analyzed = refl }

insert_plain : InEach (λ s. IsPlain (understood s insert_text))
unfolding understood everything office_schema analyzed_schema
insert_plain = record { usual = (refl, refl); analyzed = (refl, refl) }

put : (row : FrozenRow) (db : Trees)
    → edited db (edit_of db frozen [] Chosen 0 (value_rows (stamped frozen (frozen_row row)) 4 1 insert_terms))
    ≡ put_row (Int (next_rowid (db 13)) ∷ frozen_row row) (db 13)
put row db = rw (cast_null, cast_number row.number) refl

pub inserts : (row : FrozenRow) → Runs insert_text (frozen_row row)
    (λ t. record t { frozen = t.frozen ++ frozen_row row ∷ [] }) (λ t. 1)
unfolding office_schema Runs
inserts row old new r office ended ran =
    makes insert_text (frozen_row row) _ 1 old new r
    (appends 7 frozen frozen_there frozen_only insert_text (frozen_row row) insert_terms 4 insert_is insert_plain
    (frozen_row row) refl (λ db. refl) (λ db shaped. put row db) old new office) ended ran

-- ---- select_releases

abbrev pub releases_text : List ℕ
releases_text = codes "SELECT number, body FROM frozen WHERE net = ?1 ORDER BY number"

abbrev releases_columns : List Term
releases_columns = col 1 2 ∷ col 1 3 ∷ []

abbrev releases_by : List (Term × Key)
releases_by = (col 1 2, ascending) ∷ []

releases_selects : (params : Row) → InEach (λ s. IsSelect s releases_text 13 one_test releases_columns releases_by
    (codes "number" ∷ codes "body" ∷ []) params)
unfolding understood everything office_schema analyzed_schema
releases_selects params = record {
  usual = record { command = refl; listing = refl; plain = (refl, refl) };
  analyzed = record { command = refl; listing = refl; plain = (refl, refl) };
}

releases_means : (net : List ℕ) → Means values 13 one_test releases_columns releases_by (Text net ∷ []) (is_of_net net)
    releases_shown releases_order
releases_means net = record {
  tests_same = net_requested net;
  shows_same = λ r. rw (column_is r 1, column_is r 2) refl;
  orders_same = λ x y. then-Equal _ ∙ rw (column_is x 1, column_is y 1) refl;
}

pub releases_found : {X : Type 0} (rows_of : X → List Row) (net : List ℕ) → Queries rows_of releases_text
    (Text net ∷ []) (λ t rows. IsSelected (is_of_net net) releases_shown releases_order t.frozen rows)
unfolding Queries
releases_found rows_of net = finds_now releases_text 13 one_test releases_columns releases_by _
    (Text net ∷ []) (releases_selects (Text net ∷ [])) values (is_of_net net) releases_shown releases_order
    (releases_means net) rows_of

pub releases_plain : (s : Schema) → IsCurrentSchema s → IsPlain (understood s releases_text)
releases_plain s now = (in_each (releases_selects []) s now).plain

-- ---- select_release_numbers

abbrev pub release_numbers_text : List ℕ
release_numbers_text = codes "SELECT number FROM frozen WHERE net = ?1 ORDER BY number"

abbrev release_numbers_columns : List Term
release_numbers_columns = col 1 2 ∷ []

abbrev release_numbers_by : List (Term × Key)
release_numbers_by = (col 1 2, ascending) ∷ []

release_numbers_selects : (params : Row)
    → InEach (λ s. IsSelect s release_numbers_text 13 one_test release_numbers_columns release_numbers_by
    (codes "number" ∷ []) params)
unfolding understood everything office_schema analyzed_schema
release_numbers_selects params = record {
  usual = record { command = refl; listing = refl; plain = (refl, refl) };
  analyzed = record { command = refl; listing = refl; plain = (refl, refl) };
}

release_numbers_means : (net : List ℕ)
    → Means values 13 one_test release_numbers_columns release_numbers_by (Text net ∷ []) (is_of_net net)
    release_numbers_shown release_numbers_order
release_numbers_means net = record {
  tests_same = net_requested net;
  shows_same = λ r. ap (λ v. v ∷ []) (column_is r 1);
  orders_same = λ x y. then-Equal _ ∙ rw (column_is x 1, column_is y 1) refl;
}

pub release_numbers_found : {X : Type 0} (rows_of : X → List Row) (net : List ℕ) → Queries rows_of release_numbers_text
    (Text net ∷ []) (λ t rows. IsSelected (is_of_net net) release_numbers_shown release_numbers_order t.frozen rows)
unfolding Queries
release_numbers_found rows_of net = finds_now release_numbers_text 13 one_test release_numbers_columns
    release_numbers_by _ (Text net ∷ []) (release_numbers_selects (Text net ∷ [])) values (is_of_net net)
    release_numbers_shown release_numbers_order (release_numbers_means net) rows_of

pub release_numbers_plain : (s : Schema) → IsCurrentSchema s → IsPlain (understood s release_numbers_text)
release_numbers_plain s now = (in_each (release_numbers_selects []) s now).plain

-- ---- select_release

abbrev pub release_text : List ℕ
release_text = codes "SELECT body FROM frozen WHERE net = ?1 AND number = ?2 ORDER BY number"

abbrev release_columns : List Term
release_columns = col 1 3 ∷ []

abbrev release_by : List (Term × Key)
release_by = (col 1 2, ascending) ∷ []

release_selects : (params : Row) → InEach (λ s. IsSelect s release_text 13 two_tests release_columns release_by
    (codes "body" ∷ []) params)
unfolding understood everything office_schema analyzed_schema
release_selects params = record {
  usual = record { command = refl; listing = refl; plain = (refl, refl) };
  analyzed = record { command = refl; listing = refl; plain = (refl, refl) };
}

release_means : (net : List ℕ) (number : ℕ)
    → Means values 13 two_tests release_columns release_by (Text net ∷ Int (pos number) ∷ [])
    (has_net_and_number net number) release_shown release_order
release_means net number = record {
  tests_same = numbered_requested net number;
  shows_same = λ r. ap (λ v. v ∷ []) (column_is r 2);
  orders_same = λ x y. then-Equal _ ∙ rw (column_is x 1, column_is y 1) refl;
}

pub release_found : {X : Type 0} (rows_of : X → List Row) (net : List ℕ) (number : ℕ) → Queries rows_of release_text
    (Text net ∷ Int (pos number) ∷ [])
    (λ t rows. IsSelected (has_net_and_number net number) release_shown release_order t.frozen rows)
unfolding Queries
release_found rows_of net number = finds_now release_text 13 two_tests release_columns release_by _
    (Text net ∷ Int (pos number) ∷ []) (release_selects (Text net ∷ Int (pos number) ∷ [])) values
    (has_net_and_number net number) release_shown release_order (release_means net number) rows_of

pub release_plain : (s : Schema) → IsCurrentSchema s → IsPlain (understood s release_text)
release_plain s now = (in_each (release_selects []) s now).plain
