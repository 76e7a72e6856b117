-- What the texts on `part` make of it, and show of it.
use Rattle.store_statements.proofs.Common.{◌≡◌, ℕ, List, [], ◌∷◌, ◌++◌, codes, refl, ◌∙◌, Null, Int, Text, Row, Term}
use Rattle.store_statements.proofs.Common.{lit, col, Trees, put_row, Schema, Values, Insert, edit_of, edited}
use Rattle.store_statements.proofs.Common.{next_rowid, Chosen, value_rows, stamped, Key, then-Equal, IsPlain}
use Rattle.store_statements.proofs.Common.{command_of, IsCurrentSchema, values, IsSelected, cast_null, cast_number}
use Rattle.store_statements.proofs.Common.{column_is, appends, makes, InEach, in_each, ascending, IsSelect, Means}
use Rattle.store_statements.proofs.Common.{finds_now}
use Rattle.sqlite_tied.specs.Compute.{everything}
use Rattle.sqlite.specs.Listing.{understood}
use Rattle.store_tables.specs.Schema.{analyzed_schema, office_schema}
use Rattle.store_tables.proofs.TableIndices.{part, part_there, part_only}
use Rattle.store_statements.specs.declared.row.PartRow.{PartRow}
use Rattle.store_statements.specs.Rows.{has_two_texts, part_row}
use Rattle.store_statements.specs.Shown.{parts_order, parts_shown}
use Rattle.store_statements.proofs.Requested.{texts_requested, two_tests}
use Rattle.store_statements.proofs.Texts.{Queries, Runs}

-- ---- insert_part

abbrev insert_text : List ℕ
insert_text = codes "INSERT INTO part VALUES (?1, ?2, ?3, ?4, ?5, ?6)"

abbrev insert_terms : List Term
insert_terms = lit Null ∷ col 0 0 ∷ col 0 1 ∷ col 0 2 ∷ col 0 3 ∷ col 0 4 ∷ col 0 5 ∷ []

insert_is : InEach (λ s. command_of (understood s insert_text) ≡ Insert 13 (Values insert_terms 7))
unfolding understood everything office_schema analyzed_schema
insert_is = record { usual = refl; analyzed = refl }

insert_plain : InEach (λ s. IsPlain (understood s insert_text))
unfolding understood everything office_schema analyzed_schema
insert_plain = record { usual = (refl, refl); analyzed = (refl, refl) }

put : (row : PartRow) (db : Trees)
    → edited db (edit_of db part [] Chosen 0 (value_rows (stamped part (part_row row)) 7 1 insert_terms))
    ≡ put_row (Int (next_rowid (db 27)) ∷ part_row row) (db 27)
put row db = rw (cast_null, cast_number row.place, cast_number row.kind, cast_number row.a, cast_number row.b) refl

pub inserts : (row : PartRow) → Runs insert_text (part_row row) (λ t. record t { part = t.part ++ part_row row ∷ [] })
    (λ t. 1)
unfolding office_schema Runs
inserts row old new r office ended ran =
    makes insert_text (part_row row) _ 1 old new r
    (appends 13 part part_there part_only insert_text (part_row row) insert_terms 7 insert_is insert_plain
    (part_row row) refl (λ db. refl) (λ db shaped. put row db) old new office) ended ran

-- ---- select_parts

abbrev pub parts_text : List ℕ
parts_text = codes "SELECT kind, a FROM part WHERE team = ?1 AND key = ?2 ORDER BY place"

abbrev parts_columns : List Term
parts_columns = col 1 4 ∷ col 1 5 ∷ []

abbrev parts_by : List (Term × Key)
parts_by = (col 1 3, ascending) ∷ []

parts_selects : (params : Row)
    → InEach (λ s. IsSelect s parts_text 27 two_tests parts_columns parts_by (codes "kind" ∷ codes "a" ∷ []) params)
unfolding understood everything office_schema analyzed_schema
parts_selects params = record {
  usual = record { command = refl; listing = refl; plain = (refl, refl) };
  analyzed = record { command = refl; listing = refl; plain = (refl, refl) };
}

parts_means : (team : List ℕ) (key : List ℕ)
    → Means values 27 two_tests parts_columns parts_by (Text team ∷ Text key ∷ []) (has_two_texts team key) parts_shown
    parts_order
parts_means team key = record {
  tests_same = texts_requested team key;
  shows_same = λ r. rw (column_is r 3, column_is r 4) refl;
  orders_same = λ x y. then-Equal _ ∙ rw (column_is x 2, column_is y 2) refl;
}

pub parts_found : {X : Type 0} (rows_of : X → List Row) (team : List ℕ) (key : List ℕ) → Queries rows_of parts_text
    (Text team ∷ Text key ∷ []) (λ t rows. IsSelected (has_two_texts team key) parts_shown parts_order t.part rows)
unfolding Queries
parts_found rows_of team key =
    finds_now parts_text 27 two_tests parts_columns parts_by _ (Text team ∷ Text key ∷ [])
    (parts_selects (Text team ∷ Text key ∷ [])) values (has_two_texts team key) parts_shown parts_order
    (parts_means team key) rows_of

pub parts_plain : (s : Schema) → IsCurrentSchema s → IsPlain (understood s parts_text)
parts_plain s now = (in_each (parts_selects []) s now).plain
