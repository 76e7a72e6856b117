-- What a count of one table's rows answers, and a SELECT of the first of them.
use Rattle.store_tables.proofs.Common.{◌≡◌, ◌∙◌, inl, inr, ℕ, zero, suc, pos, negsuc, List, [], ◌∷◌, map, length, Bool}
use Rattle.store_tables.proofs.Common.{cond, Some, None, refl, sym, ap, subst, arith, filter, flat_map, IsPermutation}
use Rattle.store_tables.proofs.Common.{IfOk, AllZip, list_all, cases_Bool, length-map, length_permutation, Null, Int}
use Rattle.store_tables.proofs.Common.{Row, Trees, Term, lit, col, holds, Binary, Query, inner, end, IsAnswer, output}
use Rattle.store_tables.proofs.Common.{Output, Error, Select, understood, reads_listing, overlay, State, Shown, IsPlain}
use Rattle.store_tables.proofs.Common.{command_of, reads_as, Schema}
use Rattle.std.specs.Prelude.{min, take, All, Result, Ok, Err, codes, false}
use Rattle.std.proofs.lemmas.List.Sorted.{All-permutation}
use Rattle.sqlite_sql.specs.Aggregate.{count}
use Rattle.sqlite_sql.specs.Group.{Aggregate, Grouping, IsSummary, value_over}
use Rattle.sqlite_sql.specs.Term.{Env}
use Rattle.sqlite_sql.specs.declared.aggregate.AggregateOp.TheVariants.{CountRows}
use Rattle.store_tables.specs.Schema.{IsCurrentSchema}
use Rattle.store_tables.specs.Tables.{values}
use Rattle.store_tables.proofs.Current.{InEach, in_each}
use Rattle.store_tables.proofs.Changing.{plain_trees}
use Rattle.store_tables.proofs.Selecting.{filter_map_is}

only : {X : Type 0} (x : X) → All (λ z. z ≡ x) (x ∷ [])
only x zero d lt = refl
only x (suc k) d lt = absurd (omega (arith, lt))

one_of : {X : Type 0} (x : X) (ys : List X) → IsPermutation (x ∷ []) ys → ys ≡ x ∷ []
one_of {X} x [] same = let e : length {A = X} [] ≡ length (x ∷ []) = length_permutation (x ∷ []) [] same in
    absurd (omega (arith, e))
one_of x (y ∷ []) same =
    ap (λ z. z ∷ []) (All-permutation (λ z. z ≡ x) (x ∷ []) (y ∷ []) same (only x) 0 x (omega arith))
one_of x (y ∷ z ∷ ys) same = let e : length (y ∷ z ∷ ys) ≡ length (x ∷ []) =
    length_permutation (x ∷ []) (y ∷ z ∷ ys) same in absurd (omega (arith, e))

abbrev rows_counted : Aggregate
rows_counted = record { op = CountRows; distinct = false; collation = Binary; argument = lit Null }

abbrev counting : Grouping
counting = record { keys = []; collations = []; aggregates = rows_counted ∷ []; having = [] }

same_some : {X : Type 0} (x y : X) → Some x ≡ Some y → x ≡ y
same_some x y e = cc

module _ (t : ℕ) (tests : List Term) (params : Row) where
  abbrev pub count_query : Query
  count_query = record {
    from = inner t end;
    filter = tests;
    group = Some counting;
    project = col 1 0 ∷ [];
    distinct = false;
    collations = [];
    order = [];
    limit = lit (Int (negsuc 0));
    offset = lit (Int (pos 0));
  }

  abbrev pub wants : Row → Bool
  wants r = list_all (holds (params ∷ r ∷ [])) tests

  pub matched : (rows : List Row) → length (flat_map (λ r. cond (wants r) ((params ∷ r ∷ []) ∷ []) []) rows)
      ≡ length (filter wants rows)
  matched [] = refl
  matched (r ∷ rows) = elim (cases_Bool (wants r))
      [ inl hit ↦ rw (hit, matched rows) | inr miss ↦ rw (miss, matched rows) ]

  -- one group of all rows has one summary, their number
  summary : (order : List Env) (rows : List Row) → AllZip (IsSummary counting) (order ∷ []) rows
      → rows ≡ (count (length order) ∷ []) ∷ []
  summary order [] h = absurd h
  summary order (r ∷ s ∷ rows) h = absurd h.1
  summary order (r ∷ []) h = ap (λ x. x ∷ []) (by_values h.0.0 h.0.1 h.0.2)
    where
      by_values : (values : Row) → AllZip (λ a v. value_over order a ≡ Some v) (rows_counted ∷ []) values → r ≡ values
          → r ≡ count (length order) ∷ []
      by_values [] all is = absurd all
      by_values (v ∷ w ∷ values) all is = absurd all.1
      by_values (v ∷ []) all is =
          is ∙ ap (λ x. x ∷ []) (same_some v (count (length order))
          (sym all.0 ∙ ap (λ n. Some (count n)) (length-map order _)))

  pub counted : (db : Trees) (rows : List Row) → IsAnswer count_query db params rows
      → rows ≡ (count (length (filter wants (db t))) ∷ []) ∷ []
  counted db rows a =
      let g = a.grouped in
      let order = g.grouping.0 in
      let value = count (length order) in
      let rows_are : g.rows ≡ (value ∷ []) ∷ [] =
      summary order g.rows (subst (λ l. AllZip (IsSummary counting) l g.rows) g.grouping.2 g.summaries) in
      let staged : a.staged ≡ (params ∷ (value ∷ []) ∷ []) ∷ [] =
      g.having ∙ ap (λ l. filter (λ env. list_all (holds env) []) (map (λ r. params ∷ r ∷ []) l)) rows_are in
      let kept : a.kept ≡ ([], value ∷ []) ∷ [] = a.distinct ∙ ap (map (output count_query)) staged in
      let ordered : a.ordered ≡ ([], value ∷ []) ∷ [] =
      one_of ([], value ∷ []) a.ordered (subst (λ l. IsPermutation l a.ordered) kept a.same) in
      let many : length order ≡ length (filter wants (db t)) = length_permutation _ order g.grouping.1
      ∙ matched (db t) in
      a.shown ∙ ap (map (λ (o : Output). o.1)) ordered ∙ ap (λ n. (count n ∷ []) ∷ []) many

-- one of the rows of a table that pass the tests, if there is one

length_first : {X Y : Type 0} (f : X → Y) (xs : List X) → length (take 1 (map f xs)) ≡ min 1 (length xs)
length_first f [] = refl
length_first f (x ∷ xs) = let e : min 1 (suc (length xs)) ≡ 1 = omega arith in sym e

module _ (t : ℕ) (tests project : List Term) (params : Row) where
  abbrev pub any_query : Query
  any_query = record {
    from = inner t end;
    filter = tests;
    group = None;
    project = project;
    distinct = false;
    collations = [];
    order = [];
    limit = lit (Int (pos 1));
    offset = lit (Int (pos 0));
  }

  any_shown : (db : Trees) (rows : List Row) → IsAnswer any_query db params rows
      → length rows ≡ min 1 (length (filter (wants t tests params) (db t)))
  any_shown db rows a =
      let kept : length a.kept ≡ length (filter (wants t tests params) (db t)) = ap length a.distinct
      ∙ length-map a.staged (output any_query) ∙ ap length a.grouped ∙ matched t tests params (db t) in
      let ordered : length a.ordered ≡ length a.kept = length_permutation a.kept a.ordered a.same in
      ap length a.shown ∙ length_first (λ (o : Output). o.1) a.ordered ∙ ap (min 1) (ordered ∙ kept)

-- what such a text means under a schema
pub record IsAnySelect (schema : Schema) (sql : List ℕ) (t : ℕ) (tests project : List Term) (names : List (List ℕ))
    (params : Row) : Type 0 where
  pub command : command_of (understood schema sql)
      ≡ Select (record { lets = []; body = any_query t tests project params }) names
  pub listing : reads_listing schema sql ≡ false
  pub plain : IsPlain (understood schema sql)

module _ (sql : List ℕ) (t : ℕ) (tests project : List Term) (names : List (List ℕ)) (params : Row)
    (is_select : InEach (λ s. IsAnySelect s sql t tests project names params)) (test : Row → Bool)
    (same : (r : Row) → test r ≡ list_all (holds (params ∷ r ∷ [])) tests) where
  test_is : (xs : List Row) → filter (wants t tests params) xs ≡ filter test xs
  test_is [] = refl
  test_is (x ∷ xs) = ap (λ b. cond b (x ∷ filter (wants t tests params) xs) (filter (wants t tests params) xs))
      (sym (same x)) ∙ ap (λ l. cond (test x) (x ∷ l) l) (test_is xs)

  shows_any_of : (old new : State) (rows : List Row) → IsCurrentSchema old.now.schema → Shown sql params old new rows
      → length rows ≡ min 1 (length (filter test (old.now.trees t)))
  shows_any_of old new rows schema h =
      let is = in_each is_select old.now.schema schema in
      let read = reads_as sql params old new old.now.schema refl _ is.command is.plain is.listing rows h in
      any_shown t tests project params (overlay old.now.trees []) rows (read.answer Null)
      ∙ ap (λ l. min 1 (length l)) (ap (filter (wants t tests params)) (plain_trees old.now.trees t)
      ∙ test_is (old.now.trees t))

  pub shows_any : {X : Type 0} (rows_of : X → List Row) (old new : State) (r : Result X Error)
      → IsCurrentSchema old.now.schema
      → IfOk r (λ x. Shown sql params old new (rows_of x))
      → IfOk r (λ x. length (rows_of x) ≡ min 1 (length (filter test (old.now.trees t))))
  shows_any rows_of old new (Err e) schema h = tt
  shows_any rows_of old new (Ok x) schema h = shows_any_of old new (rows_of x) schema h

-- what the text of a count means under a schema
pub record IsCountSelect (schema : Schema) (sql : List ℕ) (t : ℕ) (tests : List Term) (params : Row) : Type 0 where
  pub command : command_of (understood schema sql)
      ≡ Select (record { lets = []; body = count_query t tests params }) (codes "count(*)" ∷ [])
  pub listing : reads_listing schema sql ≡ false
  pub plain : IsPlain (understood schema sql)

module _ (sql : List ℕ) (t : ℕ) (tests : List Term) (params : Row)
    (is_select : InEach (λ s. IsCountSelect s sql t tests params))
    (test : Row → Bool)
    (same : (r : Row) → test (values r) ≡ list_all (holds (params ∷ r ∷ [])) tests) where
  counts_these : (old new : State) (rows : List Row) → IsCurrentSchema old.now.schema → Shown sql params old new rows
      → rows ≡ (count (length (filter test (map values (old.now.trees t)))) ∷ []) ∷ []
  counts_these old new rows schema h =
      let is = in_each is_select old.now.schema schema in
      let read = reads_as sql params old new old.now.schema refl _ is.command is.plain is.listing rows h in
      let passes = wants t tests params in
      let table = old.now.trees t in
      let many : length (filter passes table) ≡ length (filter test (map values table)) =
      sym (length-map (filter passes table) values) ∙ ap length (filter_map_is values test passes same table) in
      counted t tests params (overlay old.now.trees []) rows (read.answer Null)
      ∙ ap (λ l. (count (length (filter passes l)) ∷ []) ∷ []) (plain_trees old.now.trees t)
      ∙ ap (λ n. (count n ∷ []) ∷ []) many

  pub counts : {X : Type 0} (rows_of : X → List Row) (old new : State) (r : Result X Error)
      → IsCurrentSchema old.now.schema
      → IfOk r (λ x. Shown sql params old new (rows_of x))
      → IfOk r (λ x. rows_of x ≡ (count (length (filter test (map values (old.now.trees t)))) ∷ []) ∷ [])
  counts rows_of old new (Err e) schema h = tt
  counts rows_of old new (Ok x) schema h = counts_these old new (rows_of x) schema h
