-- What a binary search for a name finds.
use Rattle.std.proofs.Common.{◌≡◌, ◌+◌, ◌<◌, ◌||◌, ◌∙◌, ℕ, suc, Bool, true, false, cond, not, List}
use Rattle.std.proofs.Common.{[], ◌∷◌, length, get_or, map}
use Rattle.std.proofs.Common.{Bor, Some, None, Result, Ok, Err, IfOk, inl, inr, is_some, refl, sym, ap, arith}
use Rattle.std.specs.Prelude.{nat_lt, position}
use Rattle.std.specs.Cmp.Lexicographic.{slice_cmp}
use Rattle.std.specs.List.{HoldsAt, list_any, position_or_len}
use Rattle.std.specs.List.Sorted.{IsBinarySearchResult, IsNonDecreasingBy, IsSearchInRange, IsSortedBy}
use Rattle.std.specs.Ordering.{is_eq, is_lt, nat_cmp, ordering_index, ordering_reverse}
use Rattle.std.specs.Result.{result_ok}
use Rattle.std.specs.declared.cmp.Ordering.TheVariants.{Less, Equal, Greater}
use Rattle.std.proofs.Math.ListN.{get_or-map}
use Rattle.std.proofs.lemmas.Bool.{cases_lt, le-ltb, lt-ltb}
use Rattle.std.proofs.lemmas.Bool.Decides.{nat_tests}
use Rattle.std.proofs.lemmas.Cmp.{nat_list_cmp_total}
use Rattle.std.proofs.lemmas.List.{length-map}
use Rattle.std.proofs.lemmas.List.Sorted.{searchable_from_sorted}
use Rattle.std.proofs.lemmas.List.Sums.{position_or_len_is}
use Rattle.std.proofs.lemmas.Map.Keys.{Less-from_sorted}
use Rattle.std.proofs.lemmas.Map.Text.{is_eq-slice_cmp}
use Rattle.std.proofs.lemmas.Slice.Eq.{bytes_eq-Decides}
use Rattle.base.specs.Keyed.{text_cmp}
use Rattle.page_parts.specs.Names.{AreAscending, has_name, index_in, is_name}

-- ---- positions

at_position : {X : Type 0} (p : X → Bool) (xs : List X) (i : ℕ) → position_or_len p xs ≡ i → i < length xs
    → position p xs ≡ Some i
at_position p xs i is within =
    ap (λ k. cond (nat_lt k (length xs)) (Some k) None) is
    ∙ ap (λ b. cond b (Some i) None) (lt-ltb i (length xs) within)

at_none : {X : Type 0} (p : X → Bool) (xs : List X) → position_or_len p xs ≡ length xs → position p xs ≡ None
at_none p xs is =
    ap (λ k. cond (nat_lt k (length xs)) (Some k) None) is
    ∙ ap (λ b. cond b (Some (length xs)) None) (le-ltb (length xs) (length xs) (omega arith))

one_more : (n m : ℕ) → nat_lt (1 + n) (suc m) ≡ nat_lt n m
one_more n m = grind (arith, nat_tests)

some_below : (b : Bool) (n : ℕ) → is_some (cond b (Some n) None) ≡ b
some_below true n = refl
some_below false n = refl

below_length : {X : Type 0} (p : X → Bool) (xs : List X) → nat_lt (position_or_len p xs) (length xs) ≡ list_any p xs
below_length p [] = refl
below_length p (x ∷ xs) = elim (p x) as
    (λ b. nat_lt (cond (not b) (1 + position_or_len p xs) 0) (length (x ∷ xs)) ≡ (b || list_any p xs)) [
      | true ↦ lt-ltb 0 (length (x ∷ xs)) (omega arith)
      | false ↦ one_more (position_or_len p xs) (length xs) ∙ below_length p xs
    ]

-- there is a position exactly where some item passes
pub some_position : {X : Type 0} (p : X → Bool) (xs : List X) → is_some (position p xs) ≡ list_any p xs
some_position p xs =
    some_below (nat_lt (position_or_len p xs) (length xs)) (position_or_len p xs) ∙ below_length p xs

-- ---- names

abbrev text : Bor (List ℕ) → List ℕ
text one = one.now

at_index : (all : List (Bor (List ℕ))) (k : ℕ) (d : Bor (List ℕ)) → get_or (map text all) k d.now ≡ (get_or all k d).now
at_index all k d = get_or-map text all k d

same : (name one : List ℕ) → slice_cmp nat_cmp one name ≡ Equal → is_name name one ≡ true
same name one e = sym (is_eq-slice_cmp one name) ∙ ap is_eq e

lesser : (name one : List ℕ) → slice_cmp nat_cmp one name ≡ Less → is_name name one ≡ false
lesser name one e = sym (is_eq-slice_cmp one name) ∙ ap is_eq e

greater : (name one : List ℕ) → slice_cmp nat_cmp one name ≡ Greater → is_name name one ≡ false
greater name one e = sym (is_eq-slice_cmp one name) ∙ ap is_eq e

sorted : (all : List (Bor (List ℕ))) → AreAscending (map text all)
    → IsSortedBy (λ a b. is_lt (slice_cmp nat_cmp a.now b.now)) all
sorted all ascending = λ k d low high.
    let long = length-map all text in
    let here = at_index all k d in
    let next = at_index all (k + 1) d in
    let a = (get_or all k d).now in
    let b = (get_or all (k + 1) d).now in
    let less =
    Less-from_sorted text_cmp (map text all) k (k + 1) d.now ascending (omega arith) (omega (arith, high, long)) in
    let rises : slice_cmp nat_cmp a b ≡ Less =
    ap (λ v. slice_cmp nat_cmp v b) (sym here)
    ∙ ap (λ v. slice_cmp nat_cmp (get_or (map text all) k d.now) v) (sym next) ∙ less in
    ap is_lt (nat_list_cmp_total.antisymm b a ∙ ap ordering_reverse rises)

pub found : (all : List (Bor (List ℕ))) (name : List ℕ) (r : Result ℕ ℕ) → IsSearchInRange r (length all)
    → IfOk r (HoldsAt (λ (y : Bor (List ℕ)). slice_cmp nat_cmp y.now name ≡ Equal) all)
    → IsBinarySearchResult (λ (y : Bor (List ℕ)). slice_cmp nat_cmp y.now name) all r
    → AreAscending (map text all)
    → result_ok r ≡ index_in (map text all) name
found [] name (Ok i) within equal splits ascending = absurd (omega (arith, within))
found [] name (Err i) within equal splits ascending = refl
found (x ∷ xs) name (Ok i) within equal splits ascending =
    let all = x ∷ xs in
    let texts = map text all in
    let inside : i < length texts = omega (arith, within, length-map all text) in
    let here = at_index all i x in
    let is : get_or texts i x.now ≡ name =
    here ∙ (bytes_eq-Decides (get_or all i x).now name).0 (same name (get_or all i x).now (equal x)) in
    let before : (k : ℕ) → k < i → is_name name (get_or texts k x.now) ≡ false = λ k lt.
    lesser name (get_or texts k x.now)
    (ap (λ v. slice_cmp nat_cmp (get_or texts k x.now) v) (sym is)
    ∙ Less-from_sorted text_cmp texts k i x.now ascending lt inside) in
    let at : i < length texts → is_name name (get_or texts i x.now) ≡ true = λ lt.
    ap (is_name name) here ∙ same name (get_or all i x).now (equal x) in
    sym (at_position (is_name name) texts i
    (position_or_len_is (is_name name) texts i x.now (omega (arith, inside)) before at) inside)
found (x ∷ xs) name (Err i) within equal splits ascending =
    let all = x ∷ xs in
    let texts = map text all in
    let long = length-map all text in
    let rises : IsNonDecreasingBy (λ (y : Bor (List ℕ)). ordering_index (slice_cmp nat_cmp y.now name)) all =
    searchable_from_sorted nat_list_cmp_total text all name (sorted all ascending) in
    let parts = splits rises in
    let apart : (k : ℕ) → k < length texts → is_name name (get_or texts k x.now) ≡ false = λ k lt.
    ap (is_name name) (at_index all k x) ∙ elim (cases_lt k i) [
      | inl below ↦ lesser name (get_or all k x).now (parts.0 k x (omega arith) below)
      | inr above ↦ greater name (get_or all k x).now (parts.1 k x above (omega (arith, lt, long)))
    ] in
    sym (at_none (is_name name) texts
    (position_or_len_is (is_name name) texts (length texts) x.now (omega arith) apart (λ lt. absurd (omega (arith, lt)))))

-- some name is found exactly where it is among the names
pub has_index : (names : List (List ℕ)) (name : List ℕ) → is_some (index_in names name) ≡ has_name names name
has_index names name = some_position (is_name name) names
