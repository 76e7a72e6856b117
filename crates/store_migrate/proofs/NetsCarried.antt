-- Networks carried over one after the other, in the order of their names.
use Rattle.store_migrate.proofs.Common.{◌≡◌, ◌∙◌, ℕ, pos, false, List, [], ◌∷◌, ◌++◌, map, filter, refl, sym, ap, subst}
use Rattle.store_migrate.proofs.Common.{if◌then◌else◌, AllByRecursion, Less, Int, Database, column, by_number}
use Rattle.store_migrate.proofs.Common.{LiveMessage, Net, Tables, tables_of, AreListed, AreLiveRows, HasBodies, HasRows}
use Rattle.store_migrate.proofs.Common.{live_in, IsRowOf}
use Rattle.std.proofs.Common.{◌||◌, Bool, true, cond, Option, Some}
use Rattle.std.specs.Prelude.{find}
use Rattle.std.specs.List.Sorted.{IsStrictlySortedBy}
use Rattle.std.specs.Ordering.{is_eq}
use Rattle.std.specs.Str.{bytes_eq}
use Rattle.std.proofs.lemmas.Map.Text.{is_eq-slice_cmp}
use Rattle.std.proofs.lemmas.Slice.Eq.{bytes_eq-Decides}
use Rattle.base.specs.Keyed.{text_cmp}
use Rattle.office_types.specs.State.{by_name}
use Rattle.store_statements.specs.Rows.{is_of_net, message_row}
use Rattle.store_statements.specs.Shown.{messages_order}
use Rattle.store_rows.specs.Rows.{IsMessageRow}
use Rattle.store_rows.proofs.LiveChanges.{ascend_by_rows}
use Rattle.store_migrate.specs.Carried.{AddsLive, CarriesNet, CarriesNets, named_in}
use Rattle.store_migrate.proofs.LiveAdded.{front_ascends, middle}

-- ---- bodies are in the order of their numbers

pub bodies_ascend : (name : List ℕ) (t : Tables) (live : List LiveMessage) → HasBodies name t live
    → IsStrictlySortedBy by_number live
bodies_ascend name t live bodies =
    ascend_by_rows (IsRowOf message_row (IsMessageRow name))
    (λ m row r. ap (λ x. column x 1) r.2 ∙ ap (λ n. Int (pos n)) r.1.number) live bodies.found bodies.ascending
    bodies.each

-- what was read of a network and written
pub net_carried : (name : List ℕ) (read : List LiveMessage) (t t2 : Tables)
    → ((live : List LiveMessage) → HasBodies name t live → read ≡ live) → AddsLive name read t t2 → CarriesNet name t t2
net_carried name read t t2 found added = record {
  here = λ live bodies none.
      let same = found live bodies in
      subst (λ l. HasRows name t2 l) same
      (added.here (subst (λ l. IsStrictlySortedBy by_number l) (sym same) (bodies_ascend name t live bodies)) none);
  others = added.others;
  rest = added.rest;
}

-- ---- names

or_true : (b : Bool) → (b || true) ≡ true
or_true true = refl
or_true false = refl

named_last : (names : List (List ℕ)) (n name : List ℕ) → bytes_eq n name ≡ true → named_in (names ++ n ∷ []) name ≡ true
named_last [] n name is = ap (λ b. b || false) is
named_last (x ∷ names) n name is = ap (λ b. bytes_eq x name || b) (named_last names n name is)
    ∙ or_true (bytes_eq x name)

named_before : (names : List (List ℕ)) (n name : List ℕ) → bytes_eq n name ≡ false
    → named_in (names ++ n ∷ []) name ≡ named_in names name
named_before [] n name apart = ap (λ b. b || false) apart
named_before (x ∷ names) n name apart = ap (λ b. bytes_eq x name || b) (named_before names n name apart)

-- a name isn't among those below it
not_among : (names : List (List ℕ)) (n : List ℕ) → IsStrictlySortedBy text_cmp (names ++ n ∷ [])
    → named_in names n ≡ false
unfolding IsStrictlySortedBy
not_among [] n sorted = refl
not_among (x ∷ names) n sorted =
    let apart : bytes_eq x n ≡ false = sym (is_eq-slice_cmp x n)
    ∙ ap is_eq (middle (λ z. text_cmp x z ≡ Less) names n [] sorted.0) in
    ap (λ b. b || named_in names n) apart ∙ not_among names n sorted.1

abbrev name_of : Net → List ℕ
name_of net = net.name

names_above : (net : Net) (nets : List Net) → AllByRecursion (λ other. by_name net other ≡ Less) nets
    → AllByRecursion (λ other. text_cmp net.name other ≡ Less) (map name_of nets)
names_above net [] all = tt
names_above net (n ∷ nets) all = (all.0, names_above net nets all.1)

pub names_ascend : (nets : List Net) → IsStrictlySortedBy by_name nets → IsStrictlySortedBy text_cmp (map name_of nets)
unfolding IsStrictlySortedBy
names_ascend [] sorted = tt
names_ascend (net ∷ nets) sorted = (names_above net nets sorted.0, names_ascend nets sorted.1)

-- of the network of a name, the live messages are chosen by whether the name is among the networks'
pub chosen : (nets : List Net) (name : List ℕ)
    → (if named_in (map name_of nets) name then live_in (find (λ (net : Net). bytes_eq net.name name) nets) else [])
    ≡ live_in (find (λ (net : Net). bytes_eq net.name name) nets)
chosen [] name = refl
chosen (net ∷ nets) name =
    by_test (bytes_eq net.name name) (named_in (map name_of nets) name) (find (λ (n : Net). bytes_eq n.name name) nets)
    (chosen nets name)
  where
    by_test : (b named : Bool) (rest : Option Net) → cond named (live_in rest) [] ≡ live_in rest
        → cond (b || named) (live_in (cond b (Some net) rest)) [] ≡ live_in (cond b (Some net) rest)
    by_test true named rest same = refl
    by_test false named rest same = same

-- ---- one network after the other

pub none_carried : (t : Tables) → CarriesNets [] t t
none_carried t = record { each = λ sorted name live bodies none. none; rest = refl }

pub next_carried : (names : List (List ℕ)) (n : List ℕ) (t mid t2 : Tables) → CarriesNets names t mid
    → CarriesNet n mid t2 → CarriesNets (names ++ n ∷ []) t t2
next_carried names n t mid t2 before one = record { each = each; rest = one.rest ∙ before.rest }
  where
    bodies_stay : (name : List ℕ) (live : List LiveMessage) → HasBodies name t live → HasBodies name mid live
    bodies_stay name live = subst
        (λ rows. AreListed messages_order (IsRowOf message_row (IsMessageRow name)) (filter (is_of_net name) rows) live)
        (sym (ap (λ (u : Tables). u.message) before.rest))

    own : IsStrictlySortedBy text_cmp (names ++ n ∷ []) → (live : List LiveMessage) → HasBodies n t live
        → HasRows n t [] → HasRows n t2 live
    own sorted live bodies none =
        one.here live (bodies_stay n live bodies)
        (subst (λ b. HasRows n mid (if b then live else [])) (not_among names n sorted)
        (before.each (front_ascends text_cmp names (n ∷ []) sorted) n live bodies none))

    each : IsStrictlySortedBy text_cmp (names ++ n ∷ []) → (name : List ℕ) (live : List LiveMessage)
        → HasBodies name t live → HasRows name t []
        → HasRows name t2 (if named_in (names ++ n ∷ []) name then live else [])
    each sorted name live bodies none = by_test (bytes_eq n name) refl
      where
        by_test : (b : Bool) → bytes_eq n name ≡ b
            → HasRows name t2 (if named_in (names ++ n ∷ []) name then live else [])
        by_test true is =
            let same : n ≡ name = (bytes_eq-Decides n name).0 is in
            subst (λ b. HasRows name t2 (if b then live else [])) (sym (named_last names n name is))
            (subst (λ k. HasBodies k t live → HasRows k t [] → HasRows k t2 live) same (own sorted live) bodies none)
        by_test false apart =
            subst (λ b. HasRows name t2 (if b then live else [])) (sym (named_before names n name apart))
            (subst (λ rows. AreLiveRows name rows (if named_in names name then live else []))
            (sym (one.others name apart))
            (before.each (front_ascends text_cmp names (n ∷ []) sorted) name live bodies none))

-- of other names that are the same, in a database that is the same
pub carried_alike : (names others : List (List ℕ)) (before after : Database) (t2 : Tables) → names ≡ others
    → after ≡ before → CarriesNets names (tables_of after.trees) t2 → CarriesNets others (tables_of before.trees) t2
carried_alike names others before after t2 same is carried =
    subst (λ l. CarriesNets l (tables_of before.trees) t2) same
    (subst (λ (d : Database). CarriesNets names (tables_of d.trees) t2) is carried)
