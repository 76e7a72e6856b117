-- What a SELECT from one table of the office shows, whatever its condition.
use Rattle.store_tables.proofs.Common.{◌≡◌, ℕ, List, [], map, Bool, false, Ok, Err, Result, refl, subst, IfOk, Ordering}
use Rattle.store_tables.proofs.Common.{Error, Null, Row, Term, key_cmp, Key, Binary, overlay, Select, understood}
use Rattle.store_tables.proofs.Common.{reads_listing, State, Shown, IsPlain, command_of, reads_as, Schema}
use Rattle.store_tables.specs.Schema.{IsCurrentSchema}
use Rattle.store_tables.specs.Selected.{IsSelected}
use Rattle.store_tables.proofs.Current.{InEach, in_each}
use Rattle.store_tables.proofs.Changing.{plain_trees}
use Rattle.store_tables.proofs.Selecting.{query, answers, wanted, shown, keys, IsFound, selects}

-- a column of ORDER BY, without DESC
abbrev pub ascending : Key
ascending = record { collation = Binary; descending = false }

-- what the text of a SELECT means under a schema
pub record IsSelect (schema : Schema) (sql : List ℕ) (t : ℕ) (tests project : List Term) (order : List (Term × Key))
    (names : List (List ℕ)) (params : Row) : Type 0 where
  pub command : command_of (understood schema sql)
      ≡ Select (record { lets = []; body = query t tests project order params }) names
  pub listing : reads_listing schema sql ≡ false
  pub plain : IsPlain (understood schema sql)

-- and what that is of the rows as they are shown
pub record Means (values : Row → Row) (t : ℕ) (tests project : List Term) (order : List (Term × Key)) (params : Row)
    (test : Row → Bool) (show : Row → Row) (by : Row → Row → Ordering) : Type 0 where
  pub tests_same : (r : Row) → test (values r) ≡ wanted t tests project order params r
  pub shows_same : (r : Row) → show (values r) ≡ shown t tests project order params r
  pub orders_same : (x y : Row) → key_cmp 0 (map (λ k. k.1) order) (keys t tests project order params x)
      (keys t tests project order params y) ≡ by (values x) (values y)

module _ (schema : Schema) (sql : List ℕ) (t : ℕ) (tests project : List Term) (order : List (Term × Key))
    (names : List (List ℕ)) (params : Row) (is_select : IsSelect schema sql t tests project order names params)
    (values : Row → Row) (test : Row → Bool) (show : Row → Row) (by : Row → Row → Ordering)
    (means : Means values t tests project order params test show by) where
  finds_these : (old new : State) (rows : List Row) → old.now.schema ≡ schema → Shown sql params old new rows
      → IsSelected test show by (map values (old.now.trees t)) rows
  finds_these old new rows has h =
      let read = reads_as sql params old new schema has _ is_select.command is_select.plain is_select.listing rows h in
      let f = answers t tests project order params (overlay old.now.trees []) rows (read.answer Null) in
      selects values t tests project order params test show by means.tests_same means.shows_same means.orders_same
      (old.now.trees t) rows
      (subst (λ table. IsFound t tests project order params table rows) (plain_trees old.now.trees t) f)

  pub finds : {X : Type 0} (rows_of : X → List Row) (old new : State) (r : Result X Error) → old.now.schema ≡ schema
      → IfOk r (λ x. Shown sql params old new (rows_of x))
      → IfOk r (λ x. IsSelected test show by (map values (old.now.trees t)) (rows_of x))
  finds rows_of old new (Err e) has h = tt
  finds rows_of old new (Ok x) has h = finds_these old new (rows_of x) has h

-- the same under each schema that an office's tables have
module _ (sql : List ℕ) (t : ℕ) (tests project : List Term) (order : List (Term × Key))
    (names : List (List ℕ)) (params : Row)
    (is_select : InEach (λ s. IsSelect s sql t tests project order names params))
    (values : Row → Row) (test : Row → Bool) (show : Row → Row) (by : Row → Row → Ordering)
    (means : Means values t tests project order params test show by) where
  pub finds_now : {X : Type 0} (rows_of : X → List Row) (old new : State) (r : Result X Error)
      → IsCurrentSchema old.now.schema
      → IfOk r (λ x. Shown sql params old new (rows_of x))
      → IfOk r (λ x. IsSelected test show by (map values (old.now.trees t)) (rows_of x))
  finds_now rows_of old new r now =
      finds old.now.schema sql t tests project order names params (in_each is_select old.now.schema now) values test
      show by means rows_of old new r refl
