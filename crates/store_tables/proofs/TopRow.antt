-- What a SELECT with LIMIT 1 shows of one table of the office: the first row of what it would show without.
use Rattle.store_tables.proofs.Common.{◌≡◌, ℕ, List, [], map, Bool, true, false, pos, Ok, Err, Result, refl, subst}
use Rattle.store_tables.proofs.Common.{IfOk, Ordering, Error, Int, Null, Row, Trees, Term, lit, Query, IsAnswer, Output}
use Rattle.store_tables.proofs.Common.{Key, Binary, overlay, Select, understood, reads_listing, State, Shown, IsPlain}
use Rattle.store_tables.proofs.Common.{command_of, reads_as, Schema}
use Rattle.store_tables.specs.Schema.{IsCurrentSchema}
use Rattle.store_tables.specs.Selected.{IsFirstSelected}
use Rattle.store_tables.proofs.Current.{InEach, in_each}
use Rattle.store_tables.proofs.Changing.{plain_trees}
use Rattle.store_tables.proofs.Finding.{Means}
use Rattle.store_tables.proofs.Selecting.{IsFound, answers, query, selects}

-- a column of ORDER BY, with DESC
abbrev pub descending : Key
descending = record { collation = Binary; descending = true }

module _ (t : ℕ) (tests project : List Term) (order : List (Term × Key)) (params : Row) where
  abbrev pub top_query : Query
  top_query = record (query t tests project order params) { limit = lit (Int (pos 1)) }

  all_of : (db : Trees) (rows : List Row) (a : IsAnswer top_query db params rows)
      → IsAnswer (query t tests project order params) db params (map (λ (o : Output). o.1) a.ordered)
  all_of db rows a = record {
    staged = a.staged;
    grouped = a.grouped;
    kept = a.kept;
    distinct = a.distinct;
    ordered = a.ordered;
    same = a.same;
    sorted = a.sorted;
    shown = refl;
  }

-- what the text of such a SELECT means under a schema
pub record IsTopSelect (schema : Schema) (sql : List ℕ) (t : ℕ) (tests project : List Term) (order : List (Term × Key))
    (names : List (List ℕ)) (params : Row) : Type 0 where
  pub command : command_of (understood schema sql)
      ≡ Select (record { lets = []; body = top_query t tests project order params }) names
  pub listing : reads_listing schema sql ≡ false
  pub plain : IsPlain (understood schema sql)

module _ (sql : List ℕ) (t : ℕ) (tests project : List Term) (order : List (Term × Key)) (names : List (List ℕ))
    (params : Row) (is_select : InEach (λ s. IsTopSelect s sql t tests project order names params))
    (values : Row → Row) (test : Row → Bool) (show : Row → Row) (by : Row → Row → Ordering)
    (means : Means values t tests project order params test show by) where
  tops_these : (old new : State) (rows : List Row) → IsCurrentSchema old.now.schema → Shown sql params old new rows
      → IsFirstSelected test show by (map values (old.now.trees t)) rows
  tops_these old new rows has h =
      let is = in_each is_select old.now.schema has in
      let read = reads_as sql params old new old.now.schema refl _ is.command is.plain is.listing rows h in
      let a : IsAnswer (top_query t tests project order params) (overlay old.now.trees []) params rows =
      read.answer Null in
      let all = map (λ (o : Output). o.1) a.ordered in
      let f = answers t tests project order params (overlay old.now.trees []) all
      (all_of t tests project order params (overlay old.now.trees []) rows a) in
      record {
        all = all;
        selected = selects values t tests project order params test show by means.tests_same means.shows_same
            means.orders_same (old.now.trees t) all
            (subst (λ table. IsFound t tests project order params table all) (plain_trees old.now.trees t) f);
        first = a.shown;
      }

  pub tops : {X : Type 0} (rows_of : X → List Row) (old new : State) (r : Result X Error)
      → IsCurrentSchema old.now.schema
      → IfOk r (λ x. Shown sql params old new (rows_of x))
      → IfOk r (λ x. IsFirstSelected test show by (map values (old.now.trees t)) (rows_of x))
  tops rows_of old new (Err e) has h = tt
  tops rows_of old new (Ok x) has h = tops_these old new (rows_of x) has h
