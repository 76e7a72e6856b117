-- Live messages written one after the other, in the order of their numbers.
use Rattle.store_migrate.proofs.Common.{◌≡◌, ◌∙◌, ℕ, false, List, [], ◌∷◌, ◌++◌, refl, sym, ap, subst, arith}
use Rattle.store_migrate.proofs.Common.{if◌then◌else◌, AllByRecursion, is_lt, Less, Database, by_number, LiveMessage}
use Rattle.store_migrate.proofs.Common.{Tables, tables_of, HasRows}
use Rattle.std.proofs.Common.{◌&&◌}
use Rattle.std.specs.List.Sorted.{IsStrictlySortedBy}
use Rattle.std.specs.Ordering.{nat_cmp}
use Rattle.std.specs.declared.cmp.Ordering.{Ordering}
use Rattle.std.specs.declared.cmp.Ordering.TheVariants.{Greater}
use Rattle.std.proofs.lemmas.Bool.Decides.{nat_tests}
use Rattle.base.specs.Keyed.{are_above, put, put_by_order}
use Rattle.can_id.specs.Ident.{dbc_number}
use Rattle.store_rows.specs.LiveWritten.{IsLive, with_live}
use Rattle.store_rows.proofs.LiveSet.{message_set, message_set_alone, message_set_elsewhere}
use Rattle.store_migrate.specs.Carried.{AddsLive, but_live}

-- ---- lists in order

pub middle : {X : Type 0} (P : X → Type 0) (xs : List X) (y : X) (ys : List X) → AllByRecursion P (xs ++ y ∷ ys) → P y
middle P [] y ys all = all.0
middle P (x ∷ xs) y ys all = middle P xs y ys all.1

front_all : {X : Type 0} (P : X → Type 0) (xs ys : List X) → AllByRecursion P (xs ++ ys) → AllByRecursion P xs
front_all P [] ys all = tt
front_all P (x ∷ xs) ys all = (all.0, front_all P xs ys all.1)

pub front_ascends : {X : Type 0} (by : X → X → Ordering) (xs ys : List X) → IsStrictlySortedBy by (xs ++ ys)
    → IsStrictlySortedBy by xs
unfolding IsStrictlySortedBy
front_ascends by [] ys sorted = tt
front_ascends by (x ∷ xs) ys sorted = (front_all (λ z. by x z ≡ Less) xs ys sorted.0, front_ascends by xs ys sorted.1)

-- ---- the last of a list in order is put after the others

abbrev number_of : LiveMessage → ℕ
number_of m = dbc_number m.message.ident

above : (x m : LiveMessage) → by_number x m ≡ Less → by_number m x ≡ Greater
above x m below =
    let less : nat_cmp (number_of x) (number_of m) ≡ Less = below in
    let greater : nat_cmp (number_of m) (number_of x) ≡ Greater = grind (arith, nat_tests, less) in
    greater

last_put : (xs : List LiveMessage) (m : LiveMessage) → IsStrictlySortedBy by_number (xs ++ m ∷ [])
    → put by_number m xs ≡ xs ++ m ∷ []
unfolding IsStrictlySortedBy
last_put [] m sorted = refl
last_put (x ∷ []) m sorted = ap (λ o. put_by_order o m x []) (above x m sorted.0.0)
last_put (x ∷ y ∷ xs) m sorted =
    let after : by_number m y ≡ Greater = above y m (middle (λ z. by_number y z ≡ Less) xs m [] sorted.1.0) in
    let none : are_above by_number m (y ∷ xs) ≡ false = ap (λ o. is_lt o && are_above by_number m xs) after in
    ap (λ b. if b then put_by_order (by_number m x) m x (y ∷ xs) else x ∷ put by_number m (y ∷ xs)) none
    ∙ ap (λ l. x ∷ l) (last_put (y ∷ xs) m sorted.1)

-- ---- what is written

pub none_added : (name : List ℕ) (t : Tables) → AddsLive name [] t t
none_added name t = record { here = λ sorted none. none; others = λ other apart. refl; rest = refl }

pub next_added : (name : List ℕ) (m : LiveMessage) → IsLive m → (live : List LiveMessage) (t mid t2 : Tables)
    → t2 ≡ with_live name m mid → AddsLive name live t mid
    → AddsLive name (live ++ m ∷ []) t t2
next_added name m known live t mid t2 written added = subst (AddsLive name (live ++ m ∷ []) t) (sym written) (record {
  here = λ sorted none.
      subst (λ l. HasRows name (with_live name m mid) l) (last_put live m sorted)
      (message_set name m known mid live (added.here (front_ascends by_number live (m ∷ []) sorted) none));
  others = λ other apart. message_set_elsewhere name m known mid other apart ∙ added.others other apart;
  rest = ap but_live (message_set_alone name m known mid) ∙ added.rest;
})

-- to a database that is the same
pub added_alike : (name : List ℕ) (live : List LiveMessage) (before after : Database) (t2 : Tables) → after ≡ before
    → AddsLive name live (tables_of after.trees) t2 → AddsLive name live (tables_of before.trees) t2
added_alike name live before after t2 same = subst (λ (d : Database). AddsLive name live (tables_of d.trees) t2) same
