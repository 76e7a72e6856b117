-- What the texts on `reply` make of it, and show of it.
use Rattle.store_statements.proofs.Common.{◌≡◌, ℕ, List, [], ◌∷◌, ◌++◌, codes, refl, ap, ◌∙◌, Null, Int, Text, Row}
use Rattle.store_statements.proofs.Common.{Term, lit, col, Trees, put_row, Schema, Values, Insert, edit_of, edited}
use Rattle.store_statements.proofs.Common.{next_rowid, Chosen, value_rows, stamped, Key, then-Equal, IsPlain}
use Rattle.store_statements.proofs.Common.{command_of, IsCurrentSchema, values, IsSelected, cast_null, cast_number}
use Rattle.store_statements.proofs.Common.{column_is, appends, makes, InEach, in_each, ascending, IsSelect, Means}
use Rattle.store_statements.proofs.Common.{finds_now}
use Rattle.sqlite_tied.specs.Compute.{everything}
use Rattle.sqlite.specs.Listing.{understood}
use Rattle.store_tables.specs.Schema.{analyzed_schema, office_schema}
use Rattle.store_tables.proofs.TableIndices.{reply, reply_there, reply_only}
use Rattle.store_statements.specs.declared.row.ReplyRow.{ReplyRow}
use Rattle.store_statements.specs.Rows.{has_two_texts, is_of_team, reply_row}
use Rattle.store_statements.specs.Shown.{keys_order, keys_shown, reply_order, reply_shown}
use Rattle.store_statements.proofs.Requested.{net_requested, one_test, texts_requested, two_tests}
use Rattle.store_statements.proofs.Texts.{Queries, Runs}

-- ---- insert_reply

abbrev insert_text : List ℕ
insert_text = codes "INSERT INTO reply VALUES (?1, ?2, ?3, ?4, ?5, ?6, ?7)"

abbrev insert_terms : List Term
insert_terms = lit Null ∷ col 0 0 ∷ col 0 1 ∷ col 0 2 ∷ col 0 3 ∷ col 0 4 ∷ col 0 5 ∷ col 0 6 ∷ []

insert_is : InEach (λ s. command_of (understood s insert_text) ≡ Insert 8 (Values insert_terms 8))
unfolding understood everything office_schema analyzed_schema
insert_is = record { usual = refl; analyzed = refl }

insert_plain : InEach (λ s. IsPlain (understood s insert_text))
unfolding understood everything office_schema analyzed_schema
insert_plain = record { usual = (refl, refl); analyzed = (refl, refl) }

put : (row : ReplyRow) (db : Trees)
    → edited db (edit_of db reply [] Chosen 0 (value_rows (stamped reply (reply_row row)) 8 1 insert_terms))
    ≡ put_row (Int (next_rowid (db 15)) ∷ reply_row row) (db 15)
put row db = rw (cast_null, cast_number row.kind, cast_number row.a, cast_number row.b, cast_number row.c) refl

pub inserts : (row : ReplyRow) → Runs insert_text (reply_row row)
    (λ t. record t { reply = t.reply ++ reply_row row ∷ [] }) (λ t. 1)
unfolding office_schema Runs
inserts row old new r office ended ran =
    makes insert_text (reply_row row) _ 1 old new r
    (appends 8 reply reply_there reply_only insert_text (reply_row row) insert_terms 8 insert_is insert_plain
    (reply_row row) refl (λ db. refl) (λ db shaped. put row db) old new office) ended ran

-- ---- select_reply

abbrev pub reply_text : List ℕ
reply_text = codes "SELECT content, kind, a, b, c FROM reply WHERE team = ?1 AND key = ?2 ORDER BY key"

abbrev reply_columns : List Term
reply_columns = col 1 3 ∷ col 1 4 ∷ col 1 5 ∷ col 1 6 ∷ col 1 7 ∷ []

abbrev reply_by : List (Term × Key)
reply_by = (col 1 2, ascending) ∷ []

reply_selects : (params : Row)
    → InEach (λ s. IsSelect s reply_text 15 two_tests reply_columns reply_by
    (codes "content" ∷ codes "kind" ∷ codes "a" ∷ codes "b" ∷ codes "c" ∷ []) params)
unfolding understood everything office_schema analyzed_schema
reply_selects params = record {
  usual = record { command = refl; listing = refl; plain = (refl, refl) };
  analyzed = record { command = refl; listing = refl; plain = (refl, refl) };
}

reply_means : (team : List ℕ) (key : List ℕ)
    → Means values 15 two_tests reply_columns reply_by (Text team ∷ Text key ∷ []) (has_two_texts team key) reply_shown
    reply_order
reply_means team key = record {
  tests_same = texts_requested team key;
  shows_same = λ r. rw (column_is r 2, column_is r 3, column_is r 4, column_is r 5, column_is r 6) refl;
  orders_same = λ x y. then-Equal _ ∙ rw (column_is x 1, column_is y 1) refl;
}

pub reply_found : {X : Type 0} (rows_of : X → List Row) (team : List ℕ) (key : List ℕ) → Queries rows_of reply_text
    (Text team ∷ Text key ∷ []) (λ t rows. IsSelected (has_two_texts team key) reply_shown reply_order t.reply rows)
unfolding Queries
reply_found rows_of team key =
    finds_now reply_text 15 two_tests reply_columns reply_by _ (Text team ∷ Text key ∷ [])
    (reply_selects (Text team ∷ Text key ∷ [])) values (has_two_texts team key) reply_shown reply_order
    (reply_means team key) rows_of

pub reply_plain : (s : Schema) → IsCurrentSchema s → IsPlain (understood s reply_text)
reply_plain s now = (in_each (reply_selects []) s now).plain

-- ---- select_keys

abbrev pub keys_text : List ℕ
keys_text = codes "SELECT key FROM reply WHERE team = ?1 ORDER BY key"

abbrev keys_columns : List Term
keys_columns = col 1 2 ∷ []

keys_selects : (params : Row)
    → InEach (λ s. IsSelect s keys_text 15 one_test keys_columns reply_by (codes "key" ∷ []) params)
unfolding understood everything office_schema analyzed_schema
keys_selects params = record {
  usual = record { command = refl; listing = refl; plain = (refl, refl) };
  analyzed = record { command = refl; listing = refl; plain = (refl, refl) };
}

keys_means : (team : List ℕ)
    → Means values 15 one_test keys_columns reply_by (Text team ∷ []) (is_of_team team) keys_shown keys_order
keys_means team = record {
  tests_same = net_requested team;
  shows_same = λ r. ap (λ v. v ∷ []) (column_is r 1);
  orders_same = λ x y. then-Equal _ ∙ rw (column_is x 1, column_is y 1) refl;
}

pub keys_found : {X : Type 0} (rows_of : X → List Row) (team : List ℕ) → Queries rows_of keys_text (Text team ∷ [])
    (λ t rows. IsSelected (is_of_team team) keys_shown keys_order t.reply rows)
unfolding Queries
keys_found rows_of team = finds_now keys_text 15 one_test keys_columns reply_by _ (Text team ∷ [])
    (keys_selects (Text team ∷ [])) values (is_of_team team) keys_shown keys_order (keys_means team) rows_of

pub keys_plain : (s : Schema) → IsCurrentSchema s → IsPlain (understood s keys_text)
keys_plain s now = (in_each (keys_selects []) s now).plain
