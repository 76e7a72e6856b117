-- What a SELECT from one table answers.
use Rattle.store_tables.proofs.Common.{◌≡◌, inl, inr, ℕ, ◌+◌, ◌<◌, ℤ, pos, negsuc, List, [], ◌∷◌, map, length, Bool}
use Rattle.store_tables.proofs.Common.{false, true, cond, Some, None, refl, sym, ap, subst, ◌∙◌, arith, filter}
use Rattle.store_tables.proofs.Common.{IsPermutation, flat_map, ◌&&◌, list_all, length-map, is_eq, cases_Bool, Value}
use Rattle.store_tables.proofs.Common.{Null, Int, Text, Key, Row, value_cmp, Trees, Term, lit, holds, is_true, Compare}
use Rattle.store_tables.proofs.Common.{Eq, Binary, Ordering, Query, inner, end, IsAnswer, output, Output, key_cmp}
use Rattle.std.proofs.Common.{get_or}
use Rattle.std.specs.Prelude.{IsSorted}
use Rattle.std.specs.List.{swap}
use Rattle.std.specs.List.Sorted.{IsSortedBy, apply_swaps, SwapsInRange}
use Rattle.std.proofs.Math.ListN.{get_or-map, set}
use Rattle.std.proofs.lemmas.List.{map-set, get_or-map as map_at}
use Rattle.std.specs.Ordering.{is_lt}
use Rattle.std.proofs.lemmas.List.Sorted.{IsPermutation-map}
use Rattle.sqlite.specs.Term.{eval_all}
use Rattle.sqlite.specs.Ops.{binary, from_truth}
use Rattle.sqlite_value.proofs.OrderLemmas.{value_cmp-Null}
use Rattle.store_tables.specs.Selected.{IsSelected}
use Rattle.sqlite.specs.Query.{output_cmp}

swap_map : {X Y : Type 0} (f : X → Y) (l : List X) (i j : ℕ) → swap (map f l) i j ≡ map f (swap l i j)
swap_map f [] i j = refl
swap_map f (d ∷ ys) i j =
    let a = get_or-map f (d ∷ ys) j d in
    let b = get_or-map f (d ∷ ys) i d in
    let inner : set (map f (d ∷ ys)) i (f (get_or (d ∷ ys) j d)) ≡ map f (set (d ∷ ys) i (get_or (d ∷ ys) j d)) =
    sym (map-set f (d ∷ ys) i (get_or (d ∷ ys) j d)) in
    ap (λ v. set (set (map f (d ∷ ys)) i v) j (get_or (map f (d ∷ ys)) i (f d))) a
    ∙ ap (λ v. set (set (map f (d ∷ ys)) i (f (get_or (d ∷ ys) j d))) j v) b
    ∙ ap (λ l. set l j (f (get_or (d ∷ ys) i d))) inner
    ∙ sym (map-set f (set (d ∷ ys) i (get_or (d ∷ ys) j d)) j (get_or (d ∷ ys) i d))

swaps_map : {X Y : Type 0} (f : X → Y) (xs : List X) (moves : List (ℕ × ℕ))
    → apply_swaps (map f xs) moves ≡ map f (apply_swaps xs moves)
swaps_map f xs [] = refl
swaps_map f xs (p ∷ ps) = ap (λ l. swap l p.0 p.1) (swaps_map f xs ps) ∙ swap_map f (apply_swaps xs ps) p.0 p.1

-- a permutation of what f gives is what f gives of a permutation
unmapped : {X Y : Type 0} (f : X → Y) (xs : List X) (ys : List Y) → IsPermutation (map f xs) ys → (zs : List X)
    × IsPermutation xs zs × (ys ≡ map f zs)
unmapped f xs ys h = (
  apply_swaps xs h.moves,
  record { moves = h.moves; below = subst (λ n. SwapsInRange n h.moves) (length-map xs f) h.below; is = refl },
  h.is
      ∙ swaps_map f xs h.moves,
)

module _ (t : ℕ) (tests project : List Term) (order : List (Term × Key)) (params : Row) where
  abbrev pub query : Query
  query = record {
    from = inner t end;
    filter = tests;
    group = None;
    project = project;
    distinct = false;
    collations = [];
    order = order;
    limit = lit (Int (negsuc 0));
    offset = lit (Int (pos 0));
  }

  abbrev pub wanted : Row → Bool
  wanted r = list_all (holds (params ∷ r ∷ [])) tests

  abbrev pub keys : Row → Row
  keys r = eval_all (map (λ k. k.0) order) (params ∷ r ∷ [])

  abbrev pub shown : Row → Row
  shown r = eval_all project (params ∷ r ∷ [])

  abbrev outputs : Row → Output
  outputs r = (keys r, shown r)

  met : (rows : List Row) → map (output query) (flat_map (λ r. cond (wanted r) ((params ∷ r ∷ []) ∷ []) []) rows)
      ≡ map outputs (filter wanted rows)
  met [] = refl
  met (r ∷ rows) = elim (cases_Bool (wanted r)) [ inl t ↦ rw (t, met rows) | inr f ↦ rw (f, met rows) ]

  pub record IsFound (rows : List Row) (answer : List Row) : Type 0 where
    pub found : List Row
    pub same : IsPermutation (filter wanted rows) found
    pub sorted : IsSortedBy (λ x y. is_lt (key_cmp 0 (map (λ k. k.1) order) (keys x) (keys y))) found
    pub is : answer ≡ map shown found

  pub answers : (db : Trees) (rows : List Row) → IsAnswer query db params rows → IsFound (db t) rows
  answers db rows a =
      let kept = a.distinct ∙ ap (map (output query)) a.grouped ∙ met (db t) in
      let back = unmapped outputs (filter wanted (db t)) a.ordered
      (subst (λ k. IsPermutation k a.ordered) kept a.same) in
      let found = back.0 in
      record {
        found = found;
        same = back.1;
        sorted = λ k d low high. rw (get_or-map outputs found (k + 1) d, get_or-map outputs found k d) at
            (subst (λ l. IsSorted (output_cmp query) l) back.2 a.sorted k (outputs d) low
            (subst (λ n. k + 1 < n) (sym (length-map found outputs)) high));
        is = a.shown ∙ ap (map (λ (o : Output). o.1)) back.2 ∙ second found;
      }
    where
      second : (zs : List Row) → map (λ (o : Output). o.1) (map outputs zs) ≡ map shown zs
      second [] = refl
      second (z ∷ zs) = ap (◌∷◌ (shown z)) (second zs)

pub filter_map_is : {X Y : Type 0} (f : X → Y) (p : Y → Bool) (q : X → Bool) → ((x : X) → p (f x) ≡ q x) → (xs : List X)
    → map f (filter q xs) ≡ filter p (map f xs)
filter_map_is f p q same [] = refl
filter_map_is f p q same (x ∷ xs) =
    elim (cases_Bool (q x)) [
      | inl t ↦ rw (same x, t, filter_map_is f p q same xs)
      | inr n ↦ rw
          (same x, n, filter_map_is f p q same xs)
    ]

pub map_is : {X Y Z : Type 0} (f : X → Y) (g : Y → Z) (h : X → Z) → ((x : X) → g (f x) ≡ h x) → (xs : List X)
    → map h xs ≡ map g (map f xs)
map_is f g h same [] = refl
map_is f g h same (x ∷ xs) = rw (same x, map_is f g h same xs)

pub truth_of : (b : Bool) → is_true (from_truth (Some b)) ≡ b
truth_of true = refl
truth_of false = refl

-- a comparison holds where the value is the parameter
pub holds_text : (v : Value) (t : List ℕ) → is_true (binary (Compare Eq Binary) v (Text t))
    ≡ is_eq (value_cmp v (Text t))
unfolding binary
holds_text Null t = rw (value_cmp-Null (Text t))
holds_text it t = truth_of _

pub holds_int : (v : Value) (n : ℤ) → is_true (binary (Compare Eq Binary) v (Int n)) ≡ is_eq (value_cmp v (Int n))
unfolding binary
holds_int Null n = rw (value_cmp-Null (Int n))
holds_int it n = truth_of _

pub and_true : (b : Bool) → (b && true) ≡ b
and_true true = refl
and_true false = refl

-- what is found of the rows of the tree is selected of the rows as they are shown
pub selects : (values : Row → Row) (t : ℕ) (tests project : List Term) (order : List (Term × Key)) (params : Row)
    (test : Row → Bool) (show : Row → Row) (by : Row → Row → Ordering)
    → ((r : Row) → test (values r) ≡ wanted t tests project order params r)
    → ((r : Row) → show (values r) ≡ shown t tests project order params r)
    → ((x y : Row) → key_cmp 0 (map (λ k. k.1) order) (keys t tests project order params x)
    (keys t tests project order params y) ≡ by (values x) (values y))
    → (rows answer : List Row) → IsFound t tests project order params rows answer
    → IsSelected test show by (map values rows) answer
selects values t tests project order params test show by tests_same shows_same orders_same rows answer f = record {
  found = map values f.found;
  same = subst (λ l. IsPermutation l (map values f.found))
      (filter_map_is values test (wanted t tests project order params) tests_same rows)
      (IsPermutation-map values _ f.found f.same);
  sorted = λ k d low high.
      let within : k + 1 < length f.found = subst (λ n. k + 1 < n) (length-map f.found values) high in
      let a = map_at values f.found (k + 1) [] d within in
      let b = map_at values f.found k [] d (omega arith) in
      ap (λ r. is_lt (by r (get_or (map values f.found) k d))) a
      ∙ ap (λ r. is_lt (by (values (get_or f.found (k + 1) [])) r)) b
      ∙ ap is_lt (sym (orders_same (get_or f.found (k + 1) []) (get_or f.found k []))) ∙ f.sorted k [] low within;
  is = f.is ∙ map_is values show (shown t tests project order params) shows_same f.found;
}
