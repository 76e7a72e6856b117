-- What the texts on `msg` make of it, and show of it.
use Rattle.store_statements.proofs.Common.{◌≡◌, ℕ, pos, List, [], ◌∷◌, ◌++◌, codes, not, Result, refl, ◌∙◌, IfOk}
use Rattle.store_statements.proofs.Common.{filter, length, Null, Int, Text, Error, Row, Term, lit, col, Trees, put_row}
use Rattle.store_statements.proofs.Common.{Schema, Values, Insert, Delete, edit_of, edited, next_rowid, Chosen}
use Rattle.store_statements.proofs.Common.{value_rows, stamped, Key, then-Equal, State, Shown, IsPlain, command_of}
use Rattle.store_statements.proofs.Common.{IsCurrentSchema, values, IsSelected, cast_null, cast_number, column_is}
use Rattle.store_statements.proofs.Common.{appends, makes, removes, InEach, in_each, query, ascending, IsSelect, Means}
use Rattle.store_statements.proofs.Common.{finds_now, IsCountSelect, counts, count}
use Rattle.std.specs.Prelude.{min}
use Rattle.sqlite_tied.specs.Compute.{everything}
use Rattle.sqlite.specs.Listing.{understood}
use Rattle.store_tables.specs.Schema.{analyzed_schema, office_schema}
use Rattle.store_tables.proofs.TableIndices.{msg, msg_there, msg_only}
use Rattle.store_statements.specs.declared.row.LiveRow.{LiveRow}
use Rattle.store_statements.specs.Rows.{has_net_and_name, has_net_and_number, has_number_between, has_rowid_above}
use Rattle.store_statements.specs.Rows.{has_rowid_below, is_of_net, msg_row}
use Rattle.store_statements.specs.Shown.{msg_numbers_order, msg_numbers_shown, msg_named_order, msgs_order}
use Rattle.store_statements.specs.Shown.{msg_named_shown, msgs_shown}
use Rattle.store_statements.proofs.Requested.{above_requested, above_test, below_requested, below_test, named_requested}
use Rattle.store_statements.proofs.Requested.{net_requested, numbered_requested, name_tests, one_test, two_tests}
use Rattle.store_statements.proofs.Requested.{range_requested, range_tests}
use Rattle.store_tables.proofs.Counting.{IsAnySelect, shows_any}
use Rattle.store_statements.proofs.Texts.{Queries, Runs}

-- ---- insert_msg

abbrev insert_text : List ℕ
insert_text = codes "INSERT INTO msg VALUES (?1, ?2, ?3, ?4, ?5, ?6, ?7)"

abbrev insert_terms : List Term
insert_terms = lit Null ∷ col 0 0 ∷ col 0 1 ∷ col 0 2 ∷ col 0 3 ∷ col 0 4 ∷ col 0 5 ∷ col 0 6 ∷ []

insert_is : InEach (λ s. command_of (understood s insert_text) ≡ Insert 9 (Values insert_terms 8))
unfolding understood everything office_schema analyzed_schema
insert_is = record { usual = refl; analyzed = refl }

insert_plain : InEach (λ s. IsPlain (understood s insert_text))
unfolding understood everything office_schema analyzed_schema
insert_plain = record { usual = (refl, refl); analyzed = (refl, refl) }

put : (row : LiveRow) (db : Trees)
    → edited db (edit_of db msg [] Chosen 0 (value_rows (stamped msg (msg_row row)) 8 1 insert_terms))
    ≡ put_row (Int (next_rowid (db 17)) ∷ msg_row row) (db 17)
put row db = rw (cast_null, cast_number row.number, cast_number row.length) refl

pub inserts : (row : LiveRow) → Runs insert_text (msg_row row) (λ t. record t { msg = t.msg ++ msg_row row ∷ [] })
    (λ t. 1)
unfolding office_schema Runs
inserts row old new r office ended ran =
    makes insert_text (msg_row row) _ 1 old new r
    (appends 9 msg msg_there msg_only insert_text (msg_row row) insert_terms 8 insert_is insert_plain (msg_row row) refl
    (λ db. refl) (λ db shaped. put row db) old new office) ended ran

-- ---- delete_msgs

abbrev delete_text : List ℕ
delete_text = codes "DELETE FROM msg WHERE net = ?1 AND number = ?2"

delete_is : (params : Row) → InEach (λ s. command_of (understood s delete_text)
    ≡ Delete 9 (record { lets = []; body = query 17 two_tests (col 1 0 ∷ []) [] params }))
unfolding understood everything office_schema analyzed_schema
delete_is params = record { usual = refl; analyzed = refl }

delete_plain : InEach (λ s. IsPlain (understood s delete_text))
unfolding understood everything office_schema analyzed_schema
delete_plain = record { usual = (refl, refl); analyzed = (refl, refl) }

pub deletes : (net : List ℕ) (number : ℕ) → Runs delete_text (Text net ∷ Int (pos number) ∷ [])
    (λ t. record t { msg = filter (λ row. not (has_net_and_number net number row)) t.msg })
    (λ t. length (filter (has_net_and_number net number) t.msg))
unfolding office_schema Runs
deletes net number old new r office ended ran =
    makes delete_text (Text net ∷ Int (pos number) ∷ []) _ _ old new r
    (removes 9 msg msg_there msg_only delete_text (Text net ∷ Int (pos number) ∷ []) two_tests
    (delete_is (Text net ∷ Int (pos number) ∷ [])) delete_plain (has_net_and_number net number)
    (numbered_requested net number) msg_there old new office) ended ran

-- ---- select_msg_named

abbrev pub msg_named_text : List ℕ
msg_named_text = codes "SELECT number, name, owner, length, sender, comment FROM msg WHERE net = ?1 AND name = ?2 ORDER BY number"

abbrev msg_named_columns : List Term
msg_named_columns = col 1 2 ∷ col 1 3 ∷ col 1 4 ∷ col 1 5 ∷ col 1 6 ∷ col 1 7 ∷ []

abbrev msg_named_by : List (Term × Key)
msg_named_by = (col 1 2, ascending) ∷ []

msg_named_selects : (params : Row) → InEach (λ s. IsSelect s msg_named_text 17 name_tests msg_named_columns msg_named_by
    (codes "number" ∷ codes "name" ∷ codes "owner" ∷ codes "length" ∷ codes "sender" ∷ codes "comment" ∷ []) params)
unfolding understood everything office_schema analyzed_schema
msg_named_selects params = record {
  usual = record { command = refl; listing = refl; plain = (refl, refl) };
  analyzed = record { command = refl; listing = refl; plain = (refl, refl) };
}

msg_named_means : (net : List ℕ) (name : List ℕ)
    → Means values 17 name_tests msg_named_columns msg_named_by (Text net ∷ Text name ∷ []) (has_net_and_name net name)
    msg_named_shown msg_named_order
msg_named_means net name = record {
  tests_same = named_requested net name;
  shows_same = λ r. rw (column_is r 1, column_is r 2, column_is r 3, column_is r 4, column_is r 5, column_is r 6) refl;
  orders_same = λ x y. then-Equal _ ∙ rw (column_is x 1, column_is y 1) refl;
}

pub msg_named_found : {X : Type 0} (rows_of : X → List Row) (net : List ℕ) (name : List ℕ) → Queries rows_of
    msg_named_text (Text net ∷ Text name ∷ [])
    (λ t rows. IsSelected (has_net_and_name net name) msg_named_shown msg_named_order t.msg rows)
unfolding Queries
msg_named_found rows_of net name = finds_now msg_named_text 17 name_tests msg_named_columns msg_named_by _
    (Text net ∷ Text name ∷ []) (msg_named_selects (Text net ∷ Text name ∷ [])) values (has_net_and_name net name)
    msg_named_shown msg_named_order (msg_named_means net name) rows_of

pub msg_named_plain : (s : Schema) → IsCurrentSchema s → IsPlain (understood s msg_named_text)
msg_named_plain s now = (in_each (msg_named_selects []) s now).plain

-- ---- select_msgs

abbrev pub msgs_text : List ℕ
msgs_text = codes "SELECT number, name, owner, length, sender, comment FROM msg WHERE net = ?1 ORDER BY number"

abbrev msgs_columns : List Term
msgs_columns = col 1 2 ∷ col 1 3 ∷ col 1 4 ∷ col 1 5 ∷ col 1 6 ∷ col 1 7 ∷ []

abbrev msgs_by : List (Term × Key)
msgs_by = (col 1 2, ascending) ∷ []

msgs_selects : (params : Row)
    → InEach (λ s. IsSelect s msgs_text 17 one_test msgs_columns msgs_by
    (codes "number" ∷ codes "name" ∷ codes "owner" ∷ codes "length" ∷ codes "sender" ∷ codes "comment" ∷ []) params)
unfolding understood everything office_schema analyzed_schema
msgs_selects params = record {
  usual = record { command = refl; listing = refl; plain = (refl, refl) };
  analyzed = record { command = refl; listing = refl; plain = (refl, refl) };
}

msgs_means : (net : List ℕ) → Means values 17 one_test msgs_columns msgs_by (Text net ∷ []) (is_of_net net) msgs_shown
    msgs_order
msgs_means net = record {
  tests_same = net_requested net;
  shows_same = λ r. rw (column_is r 1, column_is r 2, column_is r 3, column_is r 4, column_is r 5, column_is r 6) refl;
  orders_same = λ x y. then-Equal _ ∙ rw (column_is x 1, column_is y 1) refl;
}

pub msgs_found : {X : Type 0} (rows_of : X → List Row) (net : List ℕ) → Queries rows_of msgs_text (Text net ∷ [])
    (λ t rows. IsSelected (is_of_net net) msgs_shown msgs_order t.msg rows)
unfolding Queries
msgs_found rows_of net = finds_now msgs_text 17 one_test msgs_columns msgs_by _ (Text net ∷ [])
    (msgs_selects (Text net ∷ [])) values (is_of_net net) msgs_shown msgs_order (msgs_means net) rows_of

pub msgs_plain : (s : Schema) → IsCurrentSchema s → IsPlain (understood s msgs_text)
msgs_plain s now = (in_each (msgs_selects []) s now).plain

-- ---- count_msgs

abbrev pub count_text : List ℕ
count_text = codes "SELECT count(*) FROM msg WHERE net = ?1"

count_selects : (params : Row) → InEach (λ s. IsCountSelect s count_text 17 one_test params)
unfolding understood everything office_schema analyzed_schema
count_selects params = record {
  usual = record { command = refl; listing = refl; plain = (refl, refl) };
  analyzed = record { command = refl; listing = refl; plain = (refl, refl) };
}

pub counted_msgs : {X : Type 0} (rows_of : X → List Row) (net : List ℕ) → Queries rows_of count_text (Text net ∷ [])
    (λ t rows. rows ≡ (count (length (filter (is_of_net net) t.msg)) ∷ []) ∷ [])
unfolding Queries
counted_msgs rows_of net = counts count_text 17 one_test (Text net ∷ []) (count_selects (Text net ∷ [])) (is_of_net net)
    (net_requested net) rows_of

pub count_plain : (s : Schema) → IsCurrentSchema s → IsPlain (understood s count_text)
count_plain s now = (in_each (count_selects []) s now).plain

-- ---- select_msg_above, select_msg_below

abbrev pub above_text : List ℕ
above_text = codes "SELECT number FROM msg WHERE rowid > ?1 LIMIT 1"

above_selects : (params : Row)
    → InEach (λ s. IsAnySelect s above_text 17 above_test (col 1 2 ∷ []) (codes "number" ∷ []) params)
unfolding understood everything office_schema analyzed_schema
above_selects params = record {
  usual = record { command = refl; listing = refl; plain = (refl, refl) };
  analyzed = record { command = refl; listing = refl; plain = (refl, refl) };
}

pub above_found : {X : Type 0} (rows_of : X → List Row) (number : ℕ) (old new : State) (r : Result X Error)
    → IsCurrentSchema old.now.schema
    → IfOk r (λ x. Shown above_text (Int (pos number) ∷ []) old new (rows_of x))
    → IfOk r (λ x. length (rows_of x) ≡ min 1 (length (filter (has_rowid_above number) (old.now.trees 17))))
above_found rows_of number =
    shows_any above_text 17 above_test (col 1 2 ∷ []) (codes "number" ∷ []) (Int (pos number) ∷ [])
    (above_selects (Int (pos number) ∷ [])) (has_rowid_above number) (above_requested number) rows_of

pub above_plain : (s : Schema) → IsCurrentSchema s → IsPlain (understood s above_text)
above_plain s now = (in_each (above_selects []) s now).plain

abbrev pub below_text : List ℕ
below_text = codes "SELECT number FROM msg WHERE rowid < ?1 LIMIT 1"

below_selects : (params : Row)
    → InEach (λ s. IsAnySelect s below_text 17 below_test (col 1 2 ∷ []) (codes "number" ∷ []) params)
unfolding understood everything office_schema analyzed_schema
below_selects params = record {
  usual = record { command = refl; listing = refl; plain = (refl, refl) };
  analyzed = record { command = refl; listing = refl; plain = (refl, refl) };
}

pub below_found : {X : Type 0} (rows_of : X → List Row) (number : ℕ) (old new : State) (r : Result X Error)
    → IsCurrentSchema old.now.schema
    → IfOk r (λ x. Shown below_text (Int (pos number) ∷ []) old new (rows_of x))
    → IfOk r (λ x. length (rows_of x) ≡ min 1 (length (filter (has_rowid_below number) (old.now.trees 17))))
below_found rows_of number =
    shows_any below_text 17 below_test (col 1 2 ∷ []) (codes "number" ∷ []) (Int (pos number) ∷ [])
    (below_selects (Int (pos number) ∷ [])) (has_rowid_below number) (below_requested number) rows_of

pub below_plain : (s : Schema) → IsCurrentSchema s → IsPlain (understood s below_text)
below_plain s now = (in_each (below_selects []) s now).plain

-- ---- select_msg_numbers

abbrev pub msg_numbers_text : List ℕ
msg_numbers_text = codes "SELECT number FROM msg WHERE net = ?1 AND number >= ?2 AND number <= ?3 ORDER BY number"

msg_numbers_selects : (params : Row)
    → InEach (λ s. IsSelect s msg_numbers_text 17 range_tests (col 1 2 ∷ []) ((col 1 2, ascending) ∷ [])
    (codes "number" ∷ []) params)
unfolding understood everything office_schema analyzed_schema
msg_numbers_selects params = record {
  usual = record { command = refl; listing = refl; plain = (refl, refl) };
  analyzed = record { command = refl; listing = refl; plain = (refl, refl) };
}

msg_numbers_means : (net : List ℕ) (first last : ℕ)
    → Means values 17 range_tests (col 1 2 ∷ []) ((col 1 2, ascending) ∷ [])
    (Text net ∷ Int (pos first) ∷ Int (pos last) ∷ []) (has_number_between net first last) msg_numbers_shown
    msg_numbers_order
msg_numbers_means net first last = record {
  tests_same = range_requested net first last;
  shows_same = λ r. rw (column_is r 1) refl;
  orders_same = λ x y. then-Equal _ ∙ rw (column_is x 1, column_is y 1) refl;
}

pub msg_numbers_found : {X : Type 0} (rows_of : X → List Row) (net : List ℕ) (first last : ℕ) → Queries rows_of
    msg_numbers_text (Text net ∷ Int (pos first) ∷ Int (pos last) ∷ [])
    (λ t rows. IsSelected (has_number_between net first last) msg_numbers_shown msg_numbers_order t.msg rows)
unfolding Queries
msg_numbers_found rows_of net first last =
    finds_now msg_numbers_text 17 range_tests (col 1 2 ∷ []) ((col 1 2, ascending) ∷ []) _
    (Text net ∷ Int (pos first) ∷ Int (pos last) ∷ [])
    (msg_numbers_selects (Text net ∷ Int (pos first) ∷ Int (pos last) ∷ [])) values (has_number_between net first last)
    msg_numbers_shown msg_numbers_order (msg_numbers_means net first last) rows_of

pub msg_numbers_plain : (s : Schema) → IsCurrentSchema s → IsPlain (understood s msg_numbers_text)
msg_numbers_plain s now = (in_each (msg_numbers_selects []) s now).plain
