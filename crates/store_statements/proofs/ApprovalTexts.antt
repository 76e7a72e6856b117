-- What the texts on `approval` make of it, and show of it.
use Rattle.store_statements.proofs.Common.{◌≡◌, ℕ, List, [], ◌∷◌, ◌++◌, codes, not, refl, ap, ◌∙◌, filter, length, Null}
use Rattle.store_statements.proofs.Common.{Int, Text, Row, Term, lit, col, Trees, put_row, Schema, Values, Insert}
use Rattle.store_statements.proofs.Common.{Delete, edit_of, edited, next_rowid, Chosen, value_rows, stamped, Key}
use Rattle.store_statements.proofs.Common.{then-Equal, IsPlain, command_of, IsCurrentSchema, values, IsSelected}
use Rattle.store_statements.proofs.Common.{cast_null, column_is, appends, makes, removes, InEach, in_each, query}
use Rattle.store_statements.proofs.Common.{ascending, IsSelect, Means, finds_now}
use Rattle.sqlite_tied.specs.Compute.{everything}
use Rattle.sqlite.specs.Listing.{understood}
use Rattle.store_tables.specs.Schema.{analyzed_schema, office_schema}
use Rattle.store_tables.proofs.TableIndices.{approval, approval_there, approval_only}
use Rattle.store_statements.specs.Rows.{approval_row, has_two_texts, is_of_net}
use Rattle.store_statements.specs.Shown.{approvals_order, approvals_shown}
use Rattle.store_statements.proofs.Requested.{net_requested, one_test, texts_requested, two_tests}
use Rattle.store_statements.proofs.Texts.{Queries, Runs}

-- ---- insert_approval

abbrev insert_text : List ℕ
insert_text = codes "INSERT INTO approval VALUES (?1, ?2)"

abbrev insert_terms : List Term
insert_terms = lit Null ∷ col 0 0 ∷ col 0 1 ∷ []

insert_is : InEach (λ s. command_of (understood s insert_text) ≡ Insert 6 (Values insert_terms 3))
unfolding understood everything office_schema analyzed_schema
insert_is = record { usual = refl; analyzed = refl }

insert_plain : InEach (λ s. IsPlain (understood s insert_text))
unfolding understood everything office_schema analyzed_schema
insert_plain = record { usual = (refl, refl); analyzed = (refl, refl) }

put : (net : List ℕ) (team : List ℕ) (db : Trees)
    → edited db (edit_of db approval [] Chosen 0
    (value_rows (stamped approval (approval_row net team)) 3 1 insert_terms))
    ≡ put_row (Int (next_rowid (db 11)) ∷ approval_row net team) (db 11)
put net team db = rw cast_null refl

pub inserts : (net : List ℕ) (team : List ℕ) → Runs insert_text (approval_row net team)
    (λ t. record t { approval = t.approval ++ approval_row net team ∷ [] }) (λ t. 1)
unfolding office_schema Runs
inserts net team old new r office ended ran =
    makes insert_text (approval_row net team) _ 1 old new r
    (appends 6 approval approval_there approval_only insert_text (approval_row net team) insert_terms 3 insert_is
    insert_plain (approval_row net team) refl (λ db. refl) (λ db shaped. put net team db) old new office) ended ran

-- ---- delete_approval

abbrev delete_approval_text : List ℕ
delete_approval_text = codes "DELETE FROM approval WHERE net = ?1 AND team = ?2"

delete_approval_is : (params : Row) → InEach (λ s. command_of (understood s delete_approval_text)
    ≡ Delete 6 (record { lets = []; body = query 11 two_tests (col 1 0 ∷ []) [] params }))
unfolding understood everything office_schema analyzed_schema
delete_approval_is params = record { usual = refl; analyzed = refl }

delete_approval_plain : InEach (λ s. IsPlain (understood s delete_approval_text))
unfolding understood everything office_schema analyzed_schema
delete_approval_plain = record { usual = (refl, refl); analyzed = (refl, refl) }

pub delete_approvals : (net : List ℕ) (team : List ℕ) → Runs delete_approval_text (Text net ∷ Text team ∷ [])
    (λ t. record t { approval = filter (λ row. not (has_two_texts net team row)) t.approval })
    (λ t. length (filter (has_two_texts net team) t.approval))
unfolding office_schema Runs
delete_approvals net team old new r office ended ran =
    makes delete_approval_text (Text net ∷ Text team ∷ []) _ _ old new r
    (removes 6 approval approval_there approval_only delete_approval_text (Text net ∷ Text team ∷ []) two_tests
    (delete_approval_is (Text net ∷ Text team ∷ [])) delete_approval_plain (has_two_texts net team)
    (texts_requested net team) approval_there old new office) ended ran

-- ---- delete_approvals

abbrev delete_approvals_text : List ℕ
delete_approvals_text = codes "DELETE FROM approval WHERE net = ?1"

delete_approvals_is : (params : Row) → InEach (λ s. command_of (understood s delete_approvals_text)
    ≡ Delete 6 (record { lets = []; body = query 11 one_test (col 1 0 ∷ []) [] params }))
unfolding understood everything office_schema analyzed_schema
delete_approvals_is params = record { usual = refl; analyzed = refl }

delete_approvals_plain : InEach (λ s. IsPlain (understood s delete_approvals_text))
unfolding understood everything office_schema analyzed_schema
delete_approvals_plain = record { usual = (refl, refl); analyzed = (refl, refl) }

pub delete_approvalss : (net : List ℕ) → Runs delete_approvals_text (Text net ∷ [])
    (λ t. record t { approval = filter (λ row. not (is_of_net net row)) t.approval })
    (λ t. length (filter (is_of_net net) t.approval))
unfolding office_schema Runs
delete_approvalss net old new r office ended ran =
    makes delete_approvals_text (Text net ∷ []) _ _ old new r
    (removes 6 approval approval_there approval_only delete_approvals_text (Text net ∷ []) one_test
    (delete_approvals_is (Text net ∷ [])) delete_approvals_plain (is_of_net net) (net_requested net) approval_there
    old new office) ended ran

-- ---- select_approvals

abbrev pub approvals_text : List ℕ
approvals_text = codes "SELECT team FROM approval WHERE net = ?1 ORDER BY team"

abbrev approvals_columns : List Term
approvals_columns = col 1 2 ∷ []

abbrev approvals_by : List (Term × Key)
approvals_by = (col 1 2, ascending) ∷ []

approvals_selects : (params : Row) → InEach (λ s. IsSelect s approvals_text 11 one_test approvals_columns approvals_by
    (codes "team" ∷ []) params)
unfolding understood everything office_schema analyzed_schema
approvals_selects params = record {
  usual = record { command = refl; listing = refl; plain = (refl, refl) };
  analyzed = record { command = refl; listing = refl; plain = (refl, refl) };
}

approvals_means : (net : List ℕ) → Means values 11 one_test approvals_columns approvals_by (Text net ∷ [])
    (is_of_net net) approvals_shown approvals_order
approvals_means net = record {
  tests_same = net_requested net;
  shows_same = λ r. ap (λ v. v ∷ []) (column_is r 1);
  orders_same = λ x y. then-Equal _ ∙ rw (column_is x 1, column_is y 1) refl;
}

pub approvals_found : {X : Type 0} (rows_of : X → List Row) (net : List ℕ) → Queries rows_of approvals_text
    (Text net ∷ []) (λ t rows. IsSelected (is_of_net net) approvals_shown approvals_order t.approval rows)
unfolding Queries
approvals_found rows_of net = finds_now approvals_text 11 one_test approvals_columns approvals_by _
    (Text net ∷ []) (approvals_selects (Text net ∷ [])) values (is_of_net net) approvals_shown approvals_order
    (approvals_means net) rows_of

pub approvals_plain : (s : Schema) → IsCurrentSchema s → IsPlain (understood s approvals_text)
approvals_plain s now = (in_each (approvals_selects []) s now).plain
