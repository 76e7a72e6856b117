-- The rows of signals set one after the other.
use Rattle.store_changes.proofs.Common.{◌≡◌, ◌∙◌, ℕ, ◌+◌, ◌<◌, pos, Bool, true, false, cond, not, ◌&&◌, ◌||◌, List, []}
use Rattle.store_changes.proofs.Common.{◌∷◌, ◌++◌, append-nil, append_assoc, filter, Option, Some, None, refl, sym, ap}
use Rattle.store_changes.proofs.Common.{subst, arith, AllByRecursion, filter-append, Int, Row, column, Signal}
use Rattle.store_changes.proofs.Common.{ValueText, live_named, SignalPath, LiveMessage, has_text, Tables, has_place_of}
use Rattle.store_changes.proofs.Common.{AreShown, sig_values, AreTextsSet, IsSpnSet, value_rows, with_spns, with_texts}
use Rattle.store_changes.proofs.Common.{PlacesAscend}
use Rattle.std.proofs.Common.{flat_map}
use Rattle.std.specs.Prelude.{◌==◌}
use Rattle.std.proofs.lemmas.Bool.Decides.{nat_tests}
use Rattle.std.proofs.lemmas.Grind.{flat_map-append}
use Rattle.std.proofs.lemmas.List.Folds.{list_any-append}
use Rattle.office_types.proofs.Least.{or_false}
use Rattle.store_tables.specs.Selected.{has_number}
use Rattle.store_rows.specs.LiveWritten.{HasSpn, HasTexts, is_of_placed, with_rows_of}
use Rattle.store_rows.proofs.Keys.{and_none}
use Rattle.store_rows.proofs.LiveNamed.{at_any, at_place}
use Rattle.store_rows.proofs.LiveOut.{passes_both}

-- ---- one more signal

-- the last of places that ascend is above the others
pub ascend_parts : (placed : List (ℕ × Signal)) (q : ℕ × Signal) → PlacesAscend (placed ++ q ∷ []) → PlacesAscend placed
    × AllByRecursion (λ (o : ℕ × Signal). o.0 < q.0) placed
ascend_parts [] q ascend = (tt, tt)
ascend_parts (p ∷ placed) q ascend =
    let rest = ascend_parts placed q ascend.1 in
    let both = split placed ascend.0 in
    ((both.0, rest.0), (both.1, rest.1))
  where
    split : (some : List (ℕ × Signal)) → AllByRecursion (λ (o : ℕ × Signal). p.0 < o.0) (some ++ q ∷ [])
        → AllByRecursion (λ (o : ℕ × Signal). p.0 < o.0) some × (p.0 < q.0)
    split [] above = (tt, above.0)
    split (o ∷ some) above = let more = split some above.1 in ((above.0, more.0), more.1)

-- what holds of each row, if it does of the signals that the rows show
pub all_shown : {A X : Type 0} (R : A → X → Type 0) (P : Type 0) (items : List A) (rows : List X)
    → AreShown R items rows → AllByRecursion (λ (x : X). P) rows → AllByRecursion (λ (a : A). P) items
all_shown R P [] rows shown all = tt
all_shown R P (a ∷ items) [] shown all = absurd shown
all_shown R P (a ∷ items) (x ∷ rows) shown all = (all.0, all_shown R P items rows shown.1 all.1)

same_filter : {X : Type 0} (p q : X → Bool) → ((x : X) → p x ≡ q x) → (xs : List X) → filter p xs ≡ filter q xs
same_filter p q same xs = λ i. filter (λ x. same x i) xs

all_pass : {X : Type 0} (p : X → Bool) (xs : List X) → AllByRecursion (λ x. p x ≡ true) xs → filter p xs ≡ xs
all_pass p [] all = refl
all_pass p (x ∷ xs) all = ap (λ t. cond t (x ∷ filter p xs) (filter p xs)) all.0 ∙ ap (λ l. x ∷ l) (all_pass p xs all.1)

-- of another network or message, or at none of the places
not_either : (t n m l : Bool)
    → not (t && (n && (m || (l || false)))) ≡ (not (t && (n && m)) && not (t && (n && (l || false))))
not_either false n m l = refl
not_either true false m l = refl
not_either true true true l = refl
not_either true true false l = refl

module _ (net : List ℕ) (number : ℕ) (new : ℕ × Signal → List Row) where
  abbrev set : List (ℕ × Signal) → List Row → List Row
  set placed rows = with_rows_of net number new placed rows

  abbrev stays : List (ℕ × Signal) → Row → Bool
  stays placed row = not (is_of_placed net number placed row)

  -- with no signal, no row changes
  pub none_set : (rows : List Row) → set [] rows ≡ rows
  none_set rows = append-nil (filter (stays []) rows) ∙ all rows
    where
      none : (row : Row) → is_of_placed net number [] row ≡ false
      none row = ap (λ b. has_text 0 net row && b) (and_none (has_number 1 number row)) ∙ and_none (has_text 0 net row)

      all : (xs : List Row) → filter (stays []) xs ≡ xs
      all [] = refl
      all (x ∷ xs) = ap (λ b. cond (not b) (x ∷ filter (stays []) xs) (filter (stays []) xs)) (none x)
          ∙ ap (λ l. x ∷ l) (all xs)

  -- with one, the rows at its place
  pub one_set : (q : ℕ × Signal) (rows : List Row)
      → set (q ∷ []) rows ≡ filter (λ row. not (has_place_of net number q.0 row)) rows ++ new q
  one_set q rows =
      ap (λ l. filter (stays (q ∷ [])) rows ++ l) (append-nil (new q))
      ∙ ap (λ l. l ++ new q) (same_filter (stays (q ∷ [])) (λ row. not (has_place_of net number q.0 row))
      (λ row. ap (λ b. not (has_text 0 net row && (has_number 1 number row && b))) (or_false (has_number 2 q.0 row)))
      rows)

  module _ (new_at : (q : ℕ × Signal) → AllByRecursion (λ r. column r 2 ≡ Int (pos q.0)) (new q)) (q : ℕ × Signal) where
    apart : (m n : ℕ) → m < n → (n == m) ≡ false
    apart m n less = grind (arith, nat_tests, less)

    stays_at : (place : ℕ) (row : Row) → place < q.0 → column row 2 ≡ Int (pos place) → stays (q ∷ []) row ≡ true
    stays_at place row less is =
        ap (λ b. not (has_text 0 net row && (has_number 1 number row && b)))
        (at_place place row is (q ∷ []) ∙ ap (λ b. b || false) (apart place q.0 less))
        ∙ ap (λ b. not (has_text 0 net row && b)) (and_none (has_number 1 number row))
        ∙ ap not (and_none (has_text 0 net row))

    rows_stay : (place : ℕ) (rows : List Row) → place < q.0 → AllByRecursion (λ r. column r 2 ≡ Int (pos place)) rows
        → AllByRecursion (λ r. stays (q ∷ []) r ≡ true) rows
    rows_stay place [] less at = tt
    rows_stay place (r ∷ rows) less at = (stays_at place r less at.0, rows_stay place rows less at.1)

    new_stay : (placed : List (ℕ × Signal)) → AllByRecursion (λ (o : ℕ × Signal). o.0 < q.0) placed
        → filter (stays (q ∷ [])) (flat_map new placed) ≡ flat_map new placed
    new_stay [] below = refl
    new_stay (o ∷ placed) below =
        filter-append (stays (q ∷ [])) (new o) (flat_map new placed)
        ∙ ap (λ l. l ++ filter (stays (q ∷ [])) (flat_map new placed))
        (all_pass (stays (q ∷ [])) (new o) (rows_stay o.0 (new o) below.0 (new_at o)))
        ∙ ap (λ l. new o ++ l) (new_stay placed below.1)

    both_stay : (placed : List (ℕ × Signal)) (row : Row)
        → stays (placed ++ q ∷ []) row ≡ (stays placed row && stays (q ∷ []) row)
    both_stay placed row =
        ap (λ b. not (has_text 0 net row && (has_number 1 number row && b)))
        (list_any-append (λ (o : ℕ × Signal). has_number 2 o.0 row) placed (q ∷ []))
        ∙ not_either (has_text 0 net row) (has_number 1 number row) (at_any placed row) (has_number 2 q.0 row)

    -- signals and then one at a later place, as all of them at once
    pub set_after : (placed : List (ℕ × Signal)) (rows : List Row)
        → AllByRecursion (λ (o : ℕ × Signal). o.0 < q.0) placed
        → set (q ∷ []) (set placed rows) ≡ set (placed ++ q ∷ []) rows
    set_after placed rows below =
        ap (λ l. l ++ flat_map new (q ∷ []))
        (filter-append (stays (q ∷ [])) (filter (stays placed) rows) (flat_map new placed))
        ∙ ap (λ l. (l ++ filter (stays (q ∷ [])) (flat_map new placed)) ++ flat_map new (q ∷ []))
        (passes_both (stays placed) (stays (q ∷ [])) (stays (placed ++ q ∷ [])) (both_stay placed) rows)
        ∙ ap (λ l. (filter (stays (placed ++ q ∷ [])) rows ++ l) ++ flat_map new (q ∷ [])) (new_stay placed below)
        ∙ append_assoc (filter (stays (placed ++ q ∷ [])) rows) (flat_map new placed) (flat_map new (q ∷ []))
        ∙ ap (λ l. filter (stays (placed ++ q ∷ [])) rows ++ l) (sym (flat_map-append new placed (q ∷ [])))

-- ---- suspect parameter numbers

module _ (net : List ℕ) (number n : ℕ) where
  abbrev spn_rows : ℕ × Signal → List Row
  spn_rows q = sig_values net number q.0 (record q.1 { spn = n }) ∷ []

  pub none_numbered : (t : Tables) → with_spns net number n [] t ≡ t
  none_numbered t = ap (λ (l : List Row). record t { sig = l }) (none_set net number spn_rows t.sig)

  pub one_numbered : (q : ℕ × Signal) (place : ℕ) (row : Row) (t : Tables) → place ≡ q.0
      → row ≡ sig_values net number q.0 (record q.1 { spn = n })
      → (record t { sig = filter (λ r. not (has_place_of net number place r)) t.sig ++ row ∷ [] })
      ≡ with_spns net number n (q ∷ []) t
  one_numbered q place row t same is =
      ap (λ k. record t { sig = filter (λ r. not (has_place_of net number k r)) t.sig ++ row ∷ [] }) same
      ∙ ap (λ (r : Row). record t { sig = filter (λ r. not (has_place_of net number q.0 r)) t.sig ++ r ∷ [] }) is
      ∙ sym (ap (λ (l : List Row). record t { sig = l }) (one_set net number spn_rows q t.sig))

  pub numbered_after : (placed : List (ℕ × Signal)) (q : ℕ × Signal) (t : Tables) → PlacesAscend (placed ++ q ∷ [])
      → with_spns net number n (q ∷ []) (with_spns net number n placed t) ≡ with_spns net number n (placed ++ q ∷ []) t
  numbered_after placed q t ascend =
      ap (λ (l : List Row). record t { sig = l })
      (set_after net number spn_rows (λ o. (refl, tt)) q placed t.sig (ascend_parts placed q ascend).1)

pub spn_set : (name : List ℕ) (path : SignalPath) (n : ℕ) (live : List LiveMessage) (m : LiveMessage) (t t2 : Tables)
    → live_named live path.message ≡ Some m
    → HasSpn name m path.signal n t t2 → IsSpnSet name path n live t t2
spn_set name path n live m t t2 there has =
    subst {0, 0} (λ (o : Option LiveMessage). elim o [ None ↦ t2 ≡ t | Some m ↦ HasSpn name m path.signal n t t2 ])
    (sym there) has

-- ---- value texts

module _ (net : List ℕ) (number : ℕ) (values : List ValueText) where
  abbrev text_rows : ℕ × Signal → List Row
  text_rows q = value_rows net number q.0 0 values

  texts_at : (place seat : ℕ) (some : List ValueText)
      → AllByRecursion (λ r. column r 2 ≡ Int (pos place)) (value_rows net number place seat some)
  texts_at place seat [] = tt
  texts_at place seat (v ∷ some) = (refl, texts_at place (seat + 1) some)

  pub none_described : (t : Tables) → with_texts net number values [] t ≡ t
  none_described t = ap (λ (l : List Row). record t { sigvalue = l }) (none_set net number text_rows t.sigvalue)

  pub one_described : (q : ℕ × Signal) (place : ℕ) (t : Tables) → place ≡ q.0
      → (record t {
        sigvalue = filter (λ r. not (has_place_of net number place r)) t.sigvalue ++ value_rows net number
            place 0 values;
      }) ≡ with_texts net number values (q ∷ []) t
  one_described q place t same =
      ap (λ k. record t {
        sigvalue = filter (λ r. not (has_place_of net number k r)) t.sigvalue ++ value_rows net number
            k 0 values;
      }) same
      ∙ sym (ap (λ (l : List Row). record t { sigvalue = l }) (one_set net number text_rows q t.sigvalue))

  pub described_after : (placed : List (ℕ × Signal)) (q : ℕ × Signal) (t : Tables) → PlacesAscend (placed ++ q ∷ [])
      → with_texts net number values (q ∷ []) (with_texts net number values placed t) ≡ with_texts net number values
      (placed ++ q ∷ []) t
  described_after placed q t ascend =
      ap (λ (l : List Row). record t { sigvalue = l })
      (set_after net number text_rows (λ o. texts_at o.0 0 values) q placed t.sigvalue
      (ascend_parts placed q ascend).1)

pub texts_set : (name : List ℕ) (path : SignalPath) (values : List ValueText) (live : List LiveMessage)
    (m : LiveMessage) (t t2 : Tables) → live_named live path.message ≡ Some m
    → HasTexts name m path.signal values t t2 → AreTextsSet name path values live t t2
texts_set name path values live m t t2 there has =
    subst {0, 0} (λ (o : Option LiveMessage). elim o
    [ None ↦ t2 ≡ t | Some m ↦ HasTexts name m path.signal values t t2 ]) (sym there) has
