-- What the texts on `net` make of it, and show of it.
use Rattle.store_statements.proofs.Common.{◌≡◌, ℕ, List, [], ◌∷◌, ◌++◌, codes, not, refl, ap, ◌∙◌, filter, length, Null}
use Rattle.store_statements.proofs.Common.{Int, Text, Row, Term, lit, col, Trees, put_row, Schema, Values, Insert}
use Rattle.store_statements.proofs.Common.{Delete, edit_of, edited, next_rowid, Chosen, value_rows, stamped, Key}
use Rattle.store_statements.proofs.Common.{then-Equal, IsPlain, command_of, IsCurrentSchema, values, IsSelected}
use Rattle.store_statements.proofs.Common.{cast_null, cast_number, column_is, appends, makes, removes, InEach, in_each}
use Rattle.store_statements.proofs.Common.{query, ascending, IsSelect, Means, finds_now}
use Rattle.sqlite_tied.specs.Compute.{everything}
use Rattle.sqlite.specs.Listing.{understood}
use Rattle.store_tables.specs.Schema.{analyzed_schema, office_schema}
use Rattle.store_tables.proofs.TableIndices.{net, net_there, net_only}
use Rattle.store_statements.specs.declared.row.NetRow.{NetRow}
use Rattle.store_statements.specs.Rows.{is_any, is_of_net, net_row}
use Rattle.store_statements.specs.Shown.{net_names_order, net_names_shown, net_order, net_shown}
use Rattle.store_statements.proofs.Requested.{net_requested, one_test}
use Rattle.store_statements.proofs.Texts.{Queries, Runs}

-- ---- insert_net

abbrev insert_text : List ℕ
insert_text = codes "INSERT INTO net VALUES (?1, ?2, ?3, ?4, ?5, ?6)"

abbrev insert_terms : List Term
insert_terms = lit Null ∷ col 0 0 ∷ col 0 1 ∷ col 0 2 ∷ col 0 3 ∷ col 0 4 ∷ col 0 5 ∷ []

insert_is : InEach (λ s. command_of (understood s insert_text) ≡ Insert 1 (Values insert_terms 7))
unfolding understood everything office_schema analyzed_schema
insert_is = record { usual = refl; analyzed = refl }

insert_plain : InEach (λ s. IsPlain (understood s insert_text))
unfolding understood everything office_schema analyzed_schema
insert_plain = record { usual = (refl, refl); analyzed = (refl, refl) }

put : (row : NetRow) (db : Trees)
    → edited db (edit_of db net [] Chosen 0 (value_rows (stamped net (net_row row)) 7 1 insert_terms))
    ≡ put_row (Int (next_rowid (db 1)) ∷ net_row row) (db 1)
put row db = rw (cast_null, cast_number row.kind, cast_number row.reviews, cast_number row.phase) refl

pub inserts : (row : NetRow) → Runs insert_text (net_row row) (λ t. record t { net = t.net ++ net_row row ∷ [] })
    (λ t. 1)
unfolding office_schema Runs
inserts row old new r office ended ran =
    makes insert_text (net_row row) _ 1 old new r
    (appends 1 net net_there net_only insert_text (net_row row) insert_terms 7 insert_is insert_plain (net_row row) refl
    (λ db. refl) (λ db shaped. put row db) old new office) ended ran

-- ---- delete_net

abbrev delete_net_text : List ℕ
delete_net_text = codes "DELETE FROM net WHERE name = ?1"

delete_net_is : (params : Row) → InEach (λ s. command_of (understood s delete_net_text)
    ≡ Delete 1 (record { lets = []; body = query 1 one_test (col 1 0 ∷ []) [] params }))
unfolding understood everything office_schema analyzed_schema
delete_net_is params = record { usual = refl; analyzed = refl }

delete_net_plain : InEach (λ s. IsPlain (understood s delete_net_text))
unfolding understood everything office_schema analyzed_schema
delete_net_plain = record { usual = (refl, refl); analyzed = (refl, refl) }

pub delete_nets : (name : List ℕ) → Runs delete_net_text (Text name ∷ [])
    (λ t. record t { net = filter (λ row. not (is_of_net name row)) t.net })
    (λ t. length (filter (is_of_net name) t.net))
unfolding office_schema Runs
delete_nets name old new r office ended ran =
    makes delete_net_text (Text name ∷ []) _ _ old new r
    (removes 1 net net_there net_only delete_net_text (Text name ∷ []) one_test (delete_net_is (Text name ∷ []))
    delete_net_plain (is_of_net name) (net_requested name) net_there old new office) ended ran

-- ---- select_net_names

abbrev pub net_names_text : List ℕ
net_names_text = codes "SELECT name FROM net ORDER BY name"

abbrev net_names_columns : List Term
net_names_columns = col 1 1 ∷ []

abbrev net_names_by : List (Term × Key)
net_names_by = (col 1 1, ascending) ∷ []

net_names_selects : (params : Row) → InEach (λ s. IsSelect s net_names_text 1 [] net_names_columns net_names_by
    (codes "name" ∷ []) params)
unfolding understood everything office_schema analyzed_schema
net_names_selects params = record {
  usual = record { command = refl; listing = refl; plain = (refl, refl) };
  analyzed = record { command = refl; listing = refl; plain = (refl, refl) };
}

net_names_means : Means values 1 [] net_names_columns net_names_by [] is_any net_names_shown net_names_order
net_names_means = record {
  tests_same = λ r. refl;
  shows_same = λ r. ap (λ v. v ∷ []) (column_is r 0);
  orders_same = λ x y. then-Equal _ ∙ rw (column_is x 0, column_is y 0) refl;
}

pub net_names_found : {X : Type 0} (rows_of : X → List Row) → Queries rows_of net_names_text []
    (λ t rows. IsSelected is_any net_names_shown net_names_order t.net rows)
unfolding Queries
net_names_found rows_of = finds_now net_names_text 1 [] net_names_columns net_names_by _ []
    (net_names_selects []) values is_any net_names_shown net_names_order net_names_means rows_of

pub net_names_plain : (s : Schema) → IsCurrentSchema s → IsPlain (understood s net_names_text)
net_names_plain s now = (in_each (net_names_selects []) s now).plain

-- ---- select_net

abbrev pub net_text : List ℕ
net_text = codes "SELECT kind, reviews, phase, submitter, frame FROM net WHERE name = ?1 ORDER BY name"

abbrev net_columns : List Term
net_columns = col 1 2 ∷ col 1 3 ∷ col 1 4 ∷ col 1 5 ∷ col 1 6 ∷ []

abbrev net_by : List (Term × Key)
net_by = (col 1 1, ascending) ∷ []

net_selects : (params : Row)
    → InEach (λ s. IsSelect s net_text 1 one_test net_columns net_by
    (codes "kind" ∷ codes "reviews" ∷ codes "phase" ∷ codes "submitter" ∷ codes "frame" ∷ []) params)
unfolding understood everything office_schema analyzed_schema
net_selects params = record {
  usual = record { command = refl; listing = refl; plain = (refl, refl) };
  analyzed = record { command = refl; listing = refl; plain = (refl, refl) };
}

net_means : (name : List ℕ) → Means values 1 one_test net_columns net_by (Text name ∷ []) (is_of_net name) net_shown
    net_order
net_means name = record {
  tests_same = net_requested name;
  shows_same = λ r. rw (column_is r 1, column_is r 2, column_is r 3, column_is r 4, column_is r 5) refl;
  orders_same = λ x y. then-Equal _ ∙ rw (column_is x 0, column_is y 0) refl;
}

pub net_found : {X : Type 0} (rows_of : X → List Row) (name : List ℕ) → Queries rows_of net_text (Text name ∷ [])
    (λ t rows. IsSelected (is_of_net name) net_shown net_order t.net rows)
unfolding Queries
net_found rows_of name = finds_now net_text 1 one_test net_columns net_by _ (Text name ∷ [])
    (net_selects (Text name ∷ [])) values (is_of_net name) net_shown net_order (net_means name) rows_of

pub net_plain : (s : Schema) → IsCurrentSchema s → IsPlain (understood s net_text)
net_plain s now = (in_each (net_selects []) s now).plain
