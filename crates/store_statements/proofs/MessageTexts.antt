-- What the texts on `message` make of it, and show of it.
use Rattle.store_statements.proofs.Common.{◌≡◌, ℕ, List, [], ◌∷◌, codes, Ok, refl, ap, ◌∙◌, length, Text, Row, Term}
use Rattle.store_statements.proofs.Common.{col, Schema, Delete, Key, then-Equal, Executes, IsPlain, command_of}
use Rattle.store_statements.proofs.Common.{IsCurrentSchema, tables_of, values, IsSelected, column_is, IsOfficeAs, makes}
use Rattle.store_statements.proofs.Common.{removes, InEach, in_each, query, ascending, IsSelect, Means, finds_now}
use Rattle.sqlite_tied.specs.Compute.{everything}
use Rattle.sqlite.specs.Listing.{understood}
use Rattle.store_tables.specs.Schema.{analyzed_schema, office_schema}
use Rattle.store_tables.proofs.TableIndices.{message, message_there, message_only}
use Rattle.store_statements.specs.Rows.{is_any, is_of_net}
use Rattle.store_statements.specs.Shown.{messages_order, messages_shown}
use Rattle.store_statements.proofs.Requested.{all_wanted, net_requested, none_left, one_test}
use Rattle.store_statements.proofs.Texts.{Queries, Runs}

-- ---- clear_messages

abbrev clear_messages_text : List ℕ
clear_messages_text = codes "DELETE FROM message"

clear_messages_is : InEach (λ s. command_of (understood s clear_messages_text)
    ≡ Delete 2 (record { lets = []; body = query 3 [] (col 1 0 ∷ []) [] [] }))
unfolding understood everything office_schema analyzed_schema
clear_messages_is = record { usual = refl; analyzed = refl }

clear_messages_plain : InEach (λ s. IsPlain (understood s clear_messages_text))
unfolding understood everything office_schema analyzed_schema
clear_messages_plain = record { usual = (refl, refl); analyzed = (refl, refl) }

pub clears : Runs clear_messages_text [] (λ t. record t { message = [] }) (λ t. length t.message)
unfolding office_schema Runs
clears old new r office ended ran = makes clear_messages_text [] _ _ old new r does ended ran
  where
    does : (count : ℕ) → Executes clear_messages_text [] old new (Ok count)
        → IsOfficeAs old new × (tables_of new.now.trees ≡ record (tables_of old.now.trees) { message = [] })
        × (count ≡ length (tables_of old.now.trees).message)
    does count h =
        let rows = (tables_of old.now.trees).message in
        let it = removes 2 message message_there message_only clear_messages_text [] [] clear_messages_is
        clear_messages_plain is_any (λ r. refl) message_there old new office count h in (
          it.0,
          it.1 ∙ ap (λ (l : List Row). record (tables_of old.now.trees) { message = l }) (none_left rows),
          it.2
              ∙ ap (λ l. length l) (all_wanted rows),
        )

-- ---- select_messages

abbrev pub messages_text : List ℕ
messages_text = codes "SELECT owner, body FROM message WHERE net = ?1 ORDER BY number"

abbrev messages_columns : List Term
messages_columns = col 1 4 ∷ col 1 5 ∷ []

abbrev messages_by : List (Term × Key)
messages_by = (col 1 2, ascending) ∷ []

messages_selects : (params : Row) → InEach (λ s. IsSelect s messages_text 3 one_test messages_columns messages_by
    (codes "owner" ∷ codes "body" ∷ []) params)
unfolding understood everything office_schema analyzed_schema
messages_selects params = record {
  usual = record { command = refl; listing = refl; plain = (refl, refl) };
  analyzed = record { command = refl; listing = refl; plain = (refl, refl) };
}

messages_means : (net : List ℕ) → Means values 3 one_test messages_columns messages_by (Text net ∷ []) (is_of_net net)
    messages_shown messages_order
messages_means net = record {
  tests_same = net_requested net;
  shows_same = λ r. rw (column_is r 3, column_is r 4) refl;
  orders_same = λ x y. then-Equal _ ∙ rw (column_is x 1, column_is y 1) refl;
}

pub messages_found : {X : Type 0} (rows_of : X → List Row) (net : List ℕ) → Queries rows_of messages_text
    (Text net ∷ []) (λ t rows. IsSelected (is_of_net net) messages_shown messages_order t.message rows)
unfolding Queries
messages_found rows_of net = finds_now messages_text 3 one_test messages_columns messages_by _ (Text net ∷ [])
    (messages_selects (Text net ∷ [])) values (is_of_net net) messages_shown messages_order (messages_means net) rows_of

pub messages_plain : (s : Schema) → IsCurrentSchema s → IsPlain (understood s messages_text)
messages_plain s now = (in_each (messages_selects []) s now).plain
