-- What the texts on `block` make of it, and show of it.
use Rattle.store_statements.proofs.Common.{◌≡◌, ℕ, pos, List, [], ◌∷◌, ◌++◌, codes, not, refl, ap, ◌∙◌, filter, length}
use Rattle.store_statements.proofs.Common.{ordering_then, Null, Int, Text, Row, column, value_cmp, Term, lit, col}
use Rattle.store_statements.proofs.Common.{Trees, put_row, Schema, Values, Insert, Delete, edit_of, edited, next_rowid}
use Rattle.store_statements.proofs.Common.{Chosen, value_rows, stamped, Key, then-Equal, IsPlain, command_of}
use Rattle.store_statements.proofs.Common.{IsCurrentSchema, values, IsSelected, cast_null, cast_number, column_is}
use Rattle.store_statements.proofs.Common.{appends, makes, removes, InEach, in_each, query, ascending, IsSelect, Means}
use Rattle.store_statements.proofs.Common.{finds_now}
use Rattle.sqlite_tied.specs.Compute.{everything}
use Rattle.sqlite.specs.Listing.{understood}
use Rattle.store_tables.specs.Schema.{analyzed_schema, office_schema}
use Rattle.store_tables.proofs.TableIndices.{block, block_there, block_only}
use Rattle.store_statements.specs.declared.row.BlockRow.{BlockRow}
use Rattle.store_statements.specs.Rows.{block_row, is_block, is_of_form, is_of_net}
use Rattle.store_statements.specs.Shown.{blocks_of_form_order, blocks_of_form_shown, blocks_order, blocks_shown}
use Rattle.store_statements.proofs.Requested.{block_requested, form_requested, form_test, net_requested, one_test}
use Rattle.store_statements.proofs.Requested.{three_tests}
use Rattle.store_statements.proofs.Texts.{Queries, Runs}

-- ---- insert_block

abbrev insert_text : List ℕ
insert_text = codes "INSERT INTO block VALUES (?1, ?2, ?3, ?4, ?5)"

abbrev insert_terms : List Term
insert_terms = lit Null ∷ col 0 0 ∷ col 0 1 ∷ col 0 2 ∷ col 0 3 ∷ col 0 4 ∷ []

insert_is : InEach (λ s. command_of (understood s insert_text) ≡ Insert 3 (Values insert_terms 6))
unfolding understood everything office_schema analyzed_schema
insert_is = record { usual = refl; analyzed = refl }

insert_plain : InEach (λ s. IsPlain (understood s insert_text))
unfolding understood everything office_schema analyzed_schema
insert_plain = record { usual = (refl, refl); analyzed = (refl, refl) }

put : (row : BlockRow) (db : Trees)
    → edited db (edit_of db block [] Chosen 0 (value_rows (stamped block (block_row row)) 6 1 insert_terms))
    ≡ put_row (Int (next_rowid (db 6)) ∷ block_row row) (db 6)
put row db = rw (cast_null, cast_number row.form, cast_number row.first, cast_number row.last) refl

pub inserts : (row : BlockRow) → Runs insert_text (block_row row)
    (λ t. record t { block = t.block ++ block_row row ∷ [] }) (λ t. 1)
unfolding office_schema Runs
inserts row old new r office ended ran =
    makes insert_text (block_row row) _ 1 old new r
    (appends 3 block block_there block_only insert_text (block_row row) insert_terms 6 insert_is insert_plain
    (block_row row) refl (λ db. refl) (λ db shaped. put row db) old new office) ended ran

-- ---- delete_block

abbrev delete_block_text : List ℕ
delete_block_text = codes "DELETE FROM block WHERE net = ?1 AND form = ?2 AND first = ?3"

delete_block_is : (params : Row) → InEach (λ s. command_of (understood s delete_block_text)
    ≡ Delete 3 (record { lets = []; body = query 6 three_tests (col 1 0 ∷ []) [] params }))
unfolding understood everything office_schema analyzed_schema
delete_block_is params = record { usual = refl; analyzed = refl }

delete_block_plain : InEach (λ s. IsPlain (understood s delete_block_text))
unfolding understood everything office_schema analyzed_schema
delete_block_plain = record { usual = (refl, refl); analyzed = (refl, refl) }

pub delete_blocks : (net : List ℕ) (form : ℕ) (first : ℕ) → Runs delete_block_text
    (Text net ∷ Int (pos form) ∷ Int (pos first) ∷ [])
    (λ t. record t { block = filter (λ row. not (is_block net form first row)) t.block })
    (λ t. length (filter (is_block net form first) t.block))
unfolding office_schema Runs
delete_blocks net form first old new r office ended ran =
    makes delete_block_text (Text net ∷ Int (pos form) ∷ Int (pos first) ∷ []) _ _ old new r
    (removes 3 block block_there block_only delete_block_text (Text net ∷ Int (pos form) ∷ Int (pos first) ∷ [])
    three_tests (delete_block_is (Text net ∷ Int (pos form) ∷ Int (pos first) ∷ [])) delete_block_plain
    (is_block net form first) (block_requested net form first) block_there old new office) ended ran

-- ---- select_blocks

abbrev pub blocks_text : List ℕ
blocks_text = codes "SELECT form, first, last, team FROM block WHERE net = ?1 ORDER BY form, first"

abbrev blocks_columns : List Term
blocks_columns = col 1 2 ∷ col 1 3 ∷ col 1 4 ∷ col 1 5 ∷ []

abbrev blocks_by : List (Term × Key)
blocks_by = (col 1 2, ascending) ∷ (col 1 3, ascending) ∷ []

blocks_selects : (params : Row) → InEach (λ s. IsSelect s blocks_text 6 one_test blocks_columns blocks_by
    (codes "form" ∷ codes "first" ∷ codes "last" ∷ codes "team" ∷ []) params)
unfolding understood everything office_schema analyzed_schema
blocks_selects params = record {
  usual = record { command = refl; listing = refl; plain = (refl, refl) };
  analyzed = record { command = refl; listing = refl; plain = (refl, refl) };
}

blocks_means : (net : List ℕ) → Means values 6 one_test blocks_columns blocks_by (Text net ∷ []) (is_of_net net)
    blocks_shown blocks_order
blocks_means net = record {
  tests_same = net_requested net;
  shows_same = λ r. rw (column_is r 1, column_is r 2, column_is r 3, column_is r 4) refl;
  orders_same = λ x y. ap (ordering_then (value_cmp (column x 2) (column y 2))) (then-Equal _)
      ∙ rw (column_is x 1, column_is y 1, column_is x 2, column_is y 2) refl;
}

pub blocks_found : {X : Type 0} (rows_of : X → List Row) (net : List ℕ) → Queries rows_of blocks_text (Text net ∷ [])
    (λ t rows. IsSelected (is_of_net net) blocks_shown blocks_order t.block rows)
unfolding Queries
blocks_found rows_of net = finds_now blocks_text 6 one_test blocks_columns blocks_by _ (Text net ∷ [])
    (blocks_selects (Text net ∷ [])) values (is_of_net net) blocks_shown blocks_order (blocks_means net) rows_of

pub blocks_plain : (s : Schema) → IsCurrentSchema s → IsPlain (understood s blocks_text)
blocks_plain s now = (in_each (blocks_selects []) s now).plain

-- ---- select_blocks_of_form

abbrev pub blocks_of_form_text : List ℕ
blocks_of_form_text = codes "SELECT net, first, last, team FROM block WHERE form = ?1 ORDER BY net, first"

abbrev blocks_of_form_columns : List Term
blocks_of_form_columns = col 1 1 ∷ col 1 3 ∷ col 1 4 ∷ col 1 5 ∷ []

abbrev blocks_of_form_by : List (Term × Key)
blocks_of_form_by = (col 1 1, ascending) ∷ (col 1 3, ascending) ∷ []

blocks_of_form_selects : (params : Row) → InEach (λ s. IsSelect s blocks_of_form_text 6 form_test blocks_of_form_columns
    blocks_of_form_by (codes "net" ∷ codes "first" ∷ codes "last" ∷ codes "team" ∷ []) params)
unfolding understood everything office_schema analyzed_schema
blocks_of_form_selects params = record {
  usual = record { command = refl; listing = refl; plain = (refl, refl) };
  analyzed = record { command = refl; listing = refl; plain = (refl, refl) };
}

blocks_of_form_means : (form : ℕ)
    → Means values 6 form_test blocks_of_form_columns blocks_of_form_by (Int (pos form) ∷ []) (is_of_form form)
    blocks_of_form_shown blocks_of_form_order
blocks_of_form_means form = record {
  tests_same = form_requested form;
  shows_same = λ r. rw (column_is r 0, column_is r 2, column_is r 3, column_is r 4) refl;
  orders_same = λ x y. ap (ordering_then (value_cmp (column x 1) (column y 1))) (then-Equal _)
      ∙ rw (column_is x 0, column_is y 0, column_is x 2, column_is y 2) refl;
}

pub blocks_of_form_found : {X : Type 0} (rows_of : X → List Row) (form : ℕ) → Queries rows_of blocks_of_form_text
    (Int (pos form) ∷ [])
    (λ t rows. IsSelected (is_of_form form) blocks_of_form_shown blocks_of_form_order t.block rows)
unfolding Queries
blocks_of_form_found rows_of form = finds_now blocks_of_form_text 6 form_test blocks_of_form_columns
    blocks_of_form_by _ (Int (pos form) ∷ []) (blocks_of_form_selects (Int (pos form) ∷ [])) values (is_of_form form)
    blocks_of_form_shown blocks_of_form_order (blocks_of_form_means form) rows_of

pub blocks_of_form_plain : (s : Schema) → IsCurrentSchema s → IsPlain (understood s blocks_of_form_text)
blocks_of_form_plain s now = (in_each (blocks_of_form_selects []) s now).plain
