-- The keys of a team's requests: no two of first arrivals are one, and a query shows them in order.
use Rattle.store_changes.proofs.Common.{◌≡◌, ◌∙◌, ℕ, ◌+◌, ◌<◌, Bool, true, false, cond, not, ◌&&◌, List, [], ◌∷◌, map}
use Rattle.store_changes.proofs.Common.{filter, length, get_or, refl, sym, ap, subst, arith, IsPermutation}
use Rattle.store_changes.proofs.Common.{AllByRecursion, bytes_eq, Less, IsPermutation-sym, IsPermutation-trans, Text}
use Rattle.store_changes.proofs.Common.{Row, column, IsPermutation-filter, Answered, first_arrivals, IsSelected}
use Rattle.store_changes.proofs.Common.{AreShown, text_test, filter_shown, IsNamed}
use Rattle.std.proofs.Common.{zero, suc}
use Rattle.std.specs.Prelude.{IsSorted}
use Rattle.std.specs.List.{IsDistinct}
use Rattle.std.specs.List.Sorted.{IsStrictlySortedBy}
use Rattle.std.specs.Cmp.{IsTotalOrder}
use Rattle.std.specs.Ordering.{eq_by_cmp, is_eq, is_lt, ordering_reverse}
use Rattle.std.specs.Cmp.Lexicographic.{lists_total, texts_ties}
use Rattle.std.specs.declared.cmp.Ordering.{Ordering}
use Rattle.std.specs.declared.cmp.Ordering.TheVariants.{Equal, Greater}
use Rattle.std.proofs.lemmas.Cmp.{nat_cmp_total}
use Rattle.std.proofs.lemmas.Map.Keys.{IsDistinct-IsPermutation, apart_from_distinct, sorted_from_all_adjacent}
use Rattle.std.proofs.lemmas.List.Sorted.{IsPermutation-map}
use Rattle.std.proofs.lemmas.Slice.Eq.{bytes_eq-Decides}
use Rattle.sqlite.specs.declared.types.Value.{Value}
use Rattle.sqlite.specs.Order.{value_cmp}
use Rattle.sqlite_value.proofs.OrderLemmas.{value_cmp-Text}
use Rattle.base.specs.Keyed.{text_cmp}
use Rattle.sqlite_trees.proofs.ListLemmas.{all-filter}
use Rattle.office_history.specs.History.{same_pair}
use Rattle.store_statements.specs.Rows.{is_of_team}
use Rattle.store_statements.specs.Shown.{keys_order, keys_shown}
use Rattle.store_changes.specs.Kept.{AreKept, AreKeysOf, IsKept}

-- ---- first arrivals are of pairs that differ

rest_apart : (a : Answered) (xs : List Answered)
    → AllByRecursion (λ b. same_pair a b ≡ false) (filter (λ b. not (same_pair a b)) xs)
rest_apart a [] = tt
rest_apart a (b ∷ xs) = by_test (same_pair a b) refl (rest_apart a xs)
  where
    rest : List Answered
    rest = filter (λ c. not (same_pair a c)) xs

    by_test : (t : Bool) → same_pair a b ≡ t → AllByRecursion (λ c. same_pair a c ≡ false) rest
        → AllByRecursion (λ c. same_pair a c ≡ false) (cond (not t) (b ∷ rest) rest)
    by_test true e later = later
    by_test false e later = (e, later)

apart_filter : {X : Type 0} (e : X → X → Bool) (p : X → Bool) (xs : List X) → IsDistinct e xs
    → IsDistinct e (filter p xs)
unfolding IsDistinct
apart_filter e p [] apart = tt
apart_filter e p (x ∷ xs) apart = by_test (p x) (all-filter (λ y. e x y ≡ false) p xs apart.0)
    (apart_filter e p xs apart.1)
  where
    by_test : (t : Bool) → AllByRecursion (λ y. e x y ≡ false) (filter p xs) → IsDistinct e (filter p xs)
        → IsDistinct e (cond t (x ∷ filter p xs) (filter p xs))
    by_test true first later = (first, later)
    by_test false first later = later

firsts_apart : (h : List Answered) → IsDistinct same_pair (first_arrivals h)
unfolding IsDistinct
firsts_apart [] = tt
firsts_apart (a ∷ h) = (
  rest_apart a (first_arrivals h),
  apart_filter same_pair (λ b. not (same_pair a b)) (first_arrivals h) (firsts_apart h),
)

-- ---- so those of one team have keys that differ

module _ (team : List ℕ) where
  abbrev is_mine : Answered → Bool
  is_mine a = bytes_eq a.team team

  abbrev keys_in : List Answered → List (List ℕ)
  keys_in xs = map (λ (a : Answered). a.key) (filter is_mine xs)

  abbrev differ : List ℕ → List ℕ → Bool
  differ = eq_by_cmp text_cmp

  others_differ : (a : Answered) → a.team ≡ team → (xs : List Answered)
      → AllByRecursion (λ b. same_pair a b ≡ false) xs
      → AllByRecursion (λ k. differ a.key k ≡ false) (keys_in xs)
  others_differ a own [] apart = tt
  others_differ a own (b ∷ xs) apart = by_test (is_mine b) refl (others_differ a own xs apart.1)
    where
      by_test : (t : Bool) → is_mine b ≡ t → AllByRecursion (λ k. differ a.key k ≡ false) (keys_in xs)
          → AllByRecursion (λ k. differ a.key k ≡ false)
          (map (λ (c : Answered). c.key) (cond t (b ∷ filter is_mine xs) (filter is_mine xs)))
      by_test true e later =
          let same : bytes_eq a.team b.team ≡ true =
          (bytes_eq-Decides a.team b.team).1 (own ∙ sym ((bytes_eq-Decides b.team team).0 e)) in (
            sym (texts_ties a.key b.key) ∙ sym (ap (λ t. t && bytes_eq a.key b.key) same) ∙ apart.0,
            later,
          )
      by_test false e later = later

  keys_differ : (xs : List Answered) → IsDistinct same_pair xs → IsDistinct differ (keys_in xs)
  unfolding IsDistinct
  keys_differ [] apart = tt
  keys_differ (a ∷ xs) apart = by_test (is_mine a) refl (keys_differ xs apart.1)
    where
      by_test : (t : Bool) → is_mine a ≡ t → IsDistinct differ (keys_in xs)
          → IsDistinct differ (map (λ (c : Answered). c.key) (cond t (a ∷ filter is_mine xs) (filter is_mine xs)))
      by_test true e later = (others_differ a ((bytes_eq-Decides a.team team).0 e) xs apart.0, later)
      by_test false e later = later

-- ---- as they are shown

abbrev HasKey : List ℕ → Row → Type 0
HasKey key row = column row 1 ≡ Text key

abbrev text_in : Value → List ℕ
text_in (Text text) = text
text_in it = []

abbrev key_in : Row → List ℕ
key_in row = text_in (column row 1)

unshown : (keys : List (List ℕ)) (rows : List Row) → AreShown IsNamed keys (map keys_shown rows)
    → AreShown HasKey keys rows
unshown [] [] all = tt
unshown [] (x ∷ rows) all = absurd all
unshown (k ∷ keys) [] all = absurd all
unshown (k ∷ keys) (x ∷ rows) all = (all.0, unshown keys rows all.1)

keys_are : (keys : List (List ℕ)) (rows : List Row) → AreShown HasKey keys rows → keys ≡ map key_in rows
keys_are [] [] all = refl
keys_are [] (x ∷ rows) all = absurd all
keys_are (k ∷ keys) [] all = absurd all
keys_are (k ∷ keys) (x ∷ rows) all =
    ap (λ v. v ∷ keys) (sym (ap text_in all.0)) ∙ ap (λ l. key_in x ∷ l) (keys_are keys rows all.1)

arrivals_keys : (xs : List Answered) (rows : List Row) → AreShown IsKept xs rows
    → map key_in rows ≡ map (λ (a : Answered). a.key) xs
arrivals_keys [] [] all = refl
arrivals_keys [] (x ∷ rows) all = absurd all
arrivals_keys (a ∷ xs) [] all = absurd all
arrivals_keys (a ∷ xs) (x ∷ rows) all =
    ap (λ r. key_in r ∷ map key_in rows) all.0.2 ∙ ap (λ l. a.key ∷ l) (arrivals_keys xs rows all.1)

key_at : (keys : List (List ℕ)) (rows : List Row) → AreShown HasKey keys rows → (k : ℕ) (d : List ℕ) (e : Row)
    → k < length keys → HasKey (get_or keys k d) (get_or rows k e)
key_at [] rows all k d e low = absurd (omega (arith, low))
key_at (key ∷ keys) [] all k d e low = absurd all
key_at (key ∷ keys) (x ∷ rows) all zero d e low = all.0
key_at (key ∷ keys) (x ∷ rows) all (suc k) d e low = key_at keys rows all.1 k d e (omega (arith, low))

as_many : (keys : List (List ℕ)) (rows : List Row) → AreShown HasKey keys rows → length rows ≡ length keys
as_many [] [] all = refl
as_many [] (x ∷ rows) all = absurd all
as_many (key ∷ keys) [] all = absurd all
as_many (key ∷ keys) (x ∷ rows) all = ap suc (as_many keys rows all.1)

less_from : (r : Ordering) → is_eq r ≡ false → is_lt (ordering_reverse r) ≡ false → r ≡ Less
less_from Less a b = refl
less_from Equal a b = absurd (cc)
less_from Greater a b = absurd (cc)

abbrev texts_total : IsTotalOrder text_cmp
texts_total = lists_total nat_cmp_total

-- keys of rows in order ascend, where no two are one
keys_ascend : (keys : List (List ℕ)) (rows : List Row) → AreShown HasKey keys rows → IsSorted keys_order rows
    → IsDistinct (eq_by_cmp text_cmp) keys → IsStrictlySortedBy text_cmp keys
keys_ascend [] rows all sorted apart = sorted_from_all_adjacent texts_total [] [] (λ k high. absurd (omega (arith, high)))
keys_ascend (key ∷ keys) [] all sorted apart = absurd all
keys_ascend (key ∷ keys) (x ∷ rows) all sorted apart =
    let ks = key ∷ keys in
    let rs = x ∷ rows in
    sorted_from_all_adjacent texts_total ks key (λ k high.
    let a = get_or ks k key in
    let b = get_or ks (k + 1) key in
    let counted = as_many ks rs all in
    let low : k < length ks = omega (arith, high) in
    let here : k + 1 < length rs = omega (arith, high, counted) in
    let order : keys_order (get_or rs (k + 1) x) (get_or rs k x) ≡ text_cmp b a =
    ap (λ v. value_cmp v (column (get_or rs k x) 1)) (key_at ks rs all (k + 1) key x high)
    ∙ ap (value_cmp (Text b)) (key_at ks rs all k key x low) ∙ value_cmp-Text b a in
    less_from (text_cmp a b) (apart_from_distinct (eq_by_cmp text_cmp) ks k (k + 1) key apart (omega arith) high)
    (ap is_lt (sym (texts_total.antisymm b a)) ∙ sym (ap is_lt order) ∙ sorted k x (omega arith) here))

pub keys_are_of : (team of : List ℕ) (h : List Answered) (table rows : List Row) (keys : List (List ℕ))
    → AreKept h table → IsSelected (is_of_team of) keys_shown keys_order table rows → AreShown IsNamed keys rows
    → of ≡ team → AreKeysOf team h keys
keys_are_of team of h table rows keys kept sel shown is_team =
    let wanted = is_of_team team in
    let selected : IsPermutation (filter wanted table) sel.found =
    subst (λ t. IsPermutation (filter (is_of_team t) table) sel.found) is_team sel.same in
    let mine = filter (is_mine team) (first_arrivals h) in
    let own = filter wanted kept.found in
    let each : AreShown IsKept mine own =
    filter_shown (is_mine team) wanted (λ a row is. sym (ap wanted is.2 ∙ text_test a.team team)) (first_arrivals h)
    kept.found kept.each in
    let named : AreShown HasKey keys sel.found = unshown keys sel.found (subst (AreShown IsNamed keys) sel.is shown) in
    let moved : IsPermutation own sel.found =
    IsPermutation-trans own (filter wanted table) sel.found
    (IsPermutation-sym (filter wanted table) own (IsPermutation-filter wanted table kept.found kept.same)) selected in
    let same : IsPermutation (keys_in team (first_arrivals h)) keys =
    subst (λ l. IsPermutation l keys) (arrivals_keys mine own each)
    (subst (IsPermutation (map key_in own)) (sym (keys_are keys sel.found named))
    (IsPermutation-map key_in own sel.found moved)) in
    let apart = IsDistinct-IsPermutation (eq_by_cmp text_cmp) flips (keys_in team (first_arrivals h)) keys same
    (keys_differ team (first_arrivals h) (firsts_apart h)) in
    record { same = same; ascending = keys_ascend keys sel.found named sel.sorted apart }
  where
    flips : (a b : List ℕ) → eq_by_cmp text_cmp a b ≡ eq_by_cmp text_cmp b a
    flips a b = ap is_eq (texts_total.antisymm a b) ∙ turned (text_cmp b a)
      where
        turned : (r : Ordering) → is_eq (ordering_reverse r) ≡ is_eq r
        turned Less = refl
        turned Equal = refl
        turned Greater = refl
