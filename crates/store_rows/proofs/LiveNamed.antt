-- The rows of a message's signals of a name, in place of those that they had: its other signals stay, and all other
-- rows.
use Rattle.store_rows.proofs.Common.{◌≡◌, ◌∙◌, ℕ, ◌+◌, ◌<◌, pos, Bool, true, false, cond, not, ◌&&◌, ◌||◌, List, []}
use Rattle.store_rows.proofs.Common.{◌∷◌, ◌++◌, append-nil, append_assoc, map, filter, refl, sym, ap, subst, arith}
use Rattle.store_rows.proofs.Common.{◌==◌, IsPermutation, AllByRecursion, list_any, is_eq, ordering_then, bytes_eq}
use Rattle.store_rows.proofs.Common.{Ordering, Less, eq-eqb, nat_tests, filter-append, IsPermutation-refl, Int, Text}
use Rattle.store_rows.proofs.Common.{Row, column, value_cmp, IsPermutation-filter, all-filter, at_signal, Signal}
use Rattle.store_rows.proofs.Common.{ValueText, IsDecimal, has_number, Tables, is_of_net, receivers_order, sigs_order}
use Rattle.store_rows.proofs.Common.{sigvalues_order}
use Rattle.std.proofs.Common.{flat_map}
use Rattle.std.specs.List.Sorted.{IsStrictlySortedBy}
use Rattle.std.proofs.lemmas.List.Sorted.{IsPermutation-append_comm, IsPermutation-append_left}
use Rattle.std.proofs.lemmas.List.Sorted.{IsPermutation-append_right}
use Rattle.store_rows.specs.Listed.{AreListed, AreShown}
use Rattle.store_rows.specs.Live.{AreSignalsOf, HasDecimals, HasNumber, HaveNumbers, IsReceiverRow, IsSigRow}
use Rattle.store_rows.specs.Live.{IsSigValueRow, live_rows, numbered_rows, parts_of, sig_values}
use Rattle.store_rows.specs.LiveWritten.{AreItsPlaces, is_of_placed, placed_named, value_rows, with_rows_of, with_spns}
use Rattle.store_rows.specs.LiveWritten.{with_texts}
use Rattle.store_rows.specs.SignalShowing.{PlacesAscend}
use Rattle.store_rows.proofs.Keys.{int_test, number_below, other_net}
use Rattle.store_rows.proofs.Listing.{moved_listed}
use Rattle.store_rows.proofs.LiveChanges.{AreOf, all_of, all_other, all_own, has, none_of, not_both, of_one, same_rows}
use Rattle.store_rows.proofs.LiveMore.{both_ascend, both_shown}
use Rattle.store_rows.proofs.LiveOut.{number_test}
use Rattle.store_rows.proofs.LiveRows.{place_of, places_ascend}
use Rattle.store_rows.proofs.LiveSet.{AreNamed, four, other_rows, own_rows, texts_ascend}
use Rattle.store_rows.proofs.PutTogether.{receivers_in, signal_in, values_in}
use Rattle.store_rows.proofs.SeatRows.{all_append}
use Rattle.store_rows.proofs.Setting.{left_here, left_others}

-- ---- the places of some signals

-- one of them has the place
abbrev pub has_place : List (ℕ × Signal) → ℕ → Bool
has_place own place = list_any (λ (q : ℕ × Signal). q.0 == place) own

greater_apart : (m n : ℕ) → n < m → (m == n) ≡ false
greater_apart m n less = grind (arith, nat_tests, less)

lesser_apart : (m n : ℕ) → m < n → (m == n) ≡ false
lesser_apart m n less = grind (arith, nat_tests, less)

module _ (p : ℕ × Signal → Bool) where
  abbrev IsOwn : List (ℕ × Signal) → ℕ × Signal → Type 0
  IsOwn own q = has_place own q.0 ≡ p q

  none_later : (place : ℕ) (placed : List (ℕ × Signal)) → AllByRecursion (λ (q : ℕ × Signal). place < q.0) placed
      → has_place (filter p placed) place ≡ false
  none_later place [] above = refl
  none_later place (q ∷ placed) above = by_test (p q) (none_later place placed above.1)
    where
      by_test : (b : Bool) → has_place (filter p placed) place ≡ false
          → has_place (cond b (q ∷ filter p placed) (filter p placed)) place ≡ false
      by_test true rest = ap (λ t. t || has_place (filter p placed) place) (greater_apart q.0 place above.0) ∙ rest
      by_test false rest = rest

  one_before : (o : ℕ × Signal) (own placed : List (ℕ × Signal)) → AllByRecursion (λ (q : ℕ × Signal). o.0 < q.0) placed
      → AllByRecursion (IsOwn own) placed → AllByRecursion (IsOwn (o ∷ own)) placed
  one_before o own [] above all = tt
  one_before o own (q ∷ placed) above all =
      (ap (λ t. t || has_place own q.0) (lesser_apart o.0 q.0 above.0) ∙ all.0, one_before o own placed above.1 all.1)

  -- places that ascend are those of the signals that pass a test, where the signals pass it
  pub their_places : (placed : List (ℕ × Signal)) → PlacesAscend placed
      → AllByRecursion (IsOwn (filter p placed)) placed
  their_places [] ascend = tt
  their_places (q ∷ placed) ascend = by_test (p q) refl (their_places placed ascend.1)
    where
      by_test : (b : Bool) → p q ≡ b → AllByRecursion (IsOwn (filter p placed)) placed
          → AllByRecursion (IsOwn (cond b (q ∷ filter p placed) (filter p placed))) (q ∷ placed)
      by_test true is rest = (
        ap (λ t. t || has_place (filter p placed) q.0) (eq-eqb q.0 q.0 refl)
            ∙ sym is,
        one_before q (filter p placed) placed ascend.0 rest,
      )
      by_test false is rest = (none_later q.0 placed ascend.0 ∙ sym is, rest)

all_above : (signal : List ℕ) (place : ℕ) (placed : List (ℕ × Signal))
    → AllByRecursion (λ (q : ℕ × Signal). place < q.0) placed
    → AllByRecursion (λ (q : ℕ × Signal). place < q.0) (placed_named signal placed)
all_above signal place placed above = all-filter (λ (q : ℕ × Signal). place < q.0) (λ q. bytes_eq q.1.name signal)
    placed above

-- those of the name ascend too
pub named_ascend : (signal : List ℕ) (placed : List (ℕ × Signal)) → PlacesAscend placed
    → PlacesAscend (placed_named signal placed)
named_ascend signal [] ascend = tt
named_ascend signal (q ∷ placed) ascend = by_test (bytes_eq q.1.name signal) (named_ascend signal placed ascend.1)
  where
    by_test : (b : Bool) → PlacesAscend (placed_named signal placed)
        → PlacesAscend (cond b (q ∷ placed_named signal placed) (placed_named signal placed))
    by_test true rest = (all_above signal q.0 placed ascend.0, rest)
    by_test false rest = rest

place_among : (own : List (ℕ × Signal)) (place : ℕ) → list_any (λ k. k == place) (map (λ (q : ℕ × Signal). q.0) own)
    ≡ has_place own place
place_among [] place = refl
place_among (q ∷ own) place = ap (λ t. (q.0 == place) || t) (place_among own place)

-- the places of the signals of a name
pub places_of_named : (signal : List ℕ) (placed : List (ℕ × Signal)) → PlacesAscend placed
    → AreItsPlaces signal (map (λ (q : ℕ × Signal). q.0) (placed_named signal placed)) placed
places_of_named signal placed ascend = each placed (their_places (λ q. bytes_eq q.1.name signal) placed ascend)
  where
    own : List (ℕ × Signal)
    own = placed_named signal placed

    each : (some : List (ℕ × Signal))
        → AllByRecursion (λ (q : ℕ × Signal). has_place own q.0 ≡ bytes_eq q.1.name signal) some
        → AreItsPlaces signal (map (λ (q : ℕ × Signal). q.0) own) some
    each [] all = tt
    each (q ∷ some) all = (place_among own q.0 ∙ all.0, each some all.1)

-- ---- the rows of those signals

abbrev pub at_any : List (ℕ × Signal) → Row → Bool
at_any own row = list_any (λ (q : ℕ × Signal). has_number 2 q.0 row) own

pub at_place : (place : ℕ) (row : Row) → column row 2 ≡ Int (pos place) → (own : List (ℕ × Signal))
    → at_any own row ≡ has_place own place
at_place place row is [] = refl
at_place place row is (q ∷ own) =
    let one : has_number 2 q.0 row ≡ (q.0 == place) =
    ap (λ v. is_eq (value_cmp v (Int (pos q.0)))) is ∙ ap is_eq (int_test place q.0) ∙ sym (number_test q.0 place) in
    ap (λ t. t || at_any own row) one ∙ ap (λ t. (q.0 == place) || t) (at_place place row is own)

all_flat : {X : Type 0} (P : X → Type 0) (f : ℕ × Signal → List X) → ((q : ℕ × Signal) → AllByRecursion P (f q))
    → (own : List (ℕ × Signal)) → AllByRecursion P (flat_map f own)
all_flat P f each [] = tt
all_flat P f each (q ∷ own) = all_append P (f q) (flat_map f own) (each q) (all_flat P f each own)

-- ---- rows of changed signals, among those of the others

-- a list of items, cut where the first ones end
record IsCut {A X : Type 0} (R : A → X → Type 0) (mine rest : List A) (rows : List X) : Type 0 where
  own : List X
  others : List X
  whole : rows ≡ own ++ others
  own_shown : AreShown R mine own
  others_shown : AreShown R rest others

cut : {A X : Type 0} (R : A → X → Type 0) (mine rest : List A) (rows : List X) → AreShown R (mine ++ rest) rows
    → IsCut R mine rest rows
cut R [] rest rows shown = record { own = []; others = rows; whole = refl; own_shown = tt; others_shown = shown }
cut R (a ∷ mine) rest [] shown = absurd shown
cut R (a ∷ mine) rest (r ∷ rows) shown =
    let more = cut R mine rest rows shown.1 in
    record {
      own = r ∷ more.own;
      others = more.others;
      whole = ap (λ l. r ∷ l) more.whole;
      own_shown =
          (shown.0, more.own_shown);
      others_shown = more.others_shown;
    }

all_first : {X : Type 0} (P : X → Type 0) (xs ys : List X) → AllByRecursion P (xs ++ ys) → AllByRecursion P xs
all_first P [] ys all = tt
all_first P (x ∷ xs) ys all = (all.0, all_first P xs ys all.1)

first_ascends : {X : Type 0} (by : X → X → Ordering) (xs ys : List X) → IsStrictlySortedBy by (xs ++ ys)
    → IsStrictlySortedBy by xs
unfolding IsStrictlySortedBy
first_ascends by [] ys sorted = tt
first_ascends by (x ∷ xs) ys sorted = (all_first (λ z. by x z ≡ Less) xs ys sorted.0, first_ascends by xs ys sorted.1)

rest_ascends : {X : Type 0} (by : X → X → Ordering) (xs ys : List X) → IsStrictlySortedBy by (xs ++ ys)
    → IsStrictlySortedBy by ys
unfolding IsStrictlySortedBy
rest_ascends by [] ys sorted = sorted
rest_ascends by (x ∷ xs) ys sorted = rest_ascends by xs ys sorted.1

-- a signal that passes the test is changed
abbrev pub changed_at : (ℕ × Signal → Bool) → (Signal → Signal) → ℕ × Signal → ℕ × Signal
changed_at p change q = (q.0, cond (p q) (change q.1) q.1)

-- the rows of its parts, once it is changed
pub record IsNew {A : Type 0} (order : Row → Row → Ordering) (R : ℕ × A → Row → Type 0) (part : Signal → List A)
    (change : Signal → Signal) (new : ℕ × Signal → List Row) (q : ℕ × Signal) : Type 0 where
  pub ascending : IsStrictlySortedBy order (new q)
  pub each : AreShown R (map (λ x. (q.0, x)) (part (change q.1))) (new q)

-- a row at the place of a signal goes if the signal is changed
abbrev pub GoesIfChanged : (ℕ × Signal → Bool) → (Row → Bool) → ℕ × Signal → Type 0
GoesIfChanged p stays q = (row : Row) → column row 2 ≡ Int (pos q.0) → stays row ≡ not (p q)

-- the rows show parts of signals, in the order of the signals' places first
module _ {A : Type 0} (order : Row → Row → Ordering) (R : ℕ × A → Row → Type 0)
    (place_is : (i : ℕ × A) (row : Row) → R i row → column row 2 ≡ Int (pos i.0))
    (by_place : (x y : Row) → value_cmp (column x 2) (column y 2) ≡ Less → order x y ≡ Less) (part : Signal → List A)
    (p : ℕ × Signal → Bool) (change : Signal → Signal) where
  abbrev own_parts : ℕ → Signal → List (ℕ × A)
  own_parts place s = map (λ x. (place, x)) (part s)

  abbrev changed : List (ℕ × Signal) → List (ℕ × Signal)
  changed placed = map (changed_at p change) placed

  rows_at : (place : ℕ) (xs : List A) (rows : List Row) → AreShown R (map (λ x. (place, x)) xs) rows
      → AllByRecursion (λ r. column r 2 ≡ Int (pos place)) rows
  rows_at place [] [] shown = tt
  rows_at place [] (r ∷ rows) shown = absurd shown
  rows_at place (x ∷ xs) [] shown = absurd shown
  rows_at place (x ∷ xs) (r ∷ rows) shown = (place_is (place, x) r shown.0, rows_at place xs rows shown.1)

  rows_above : (place : ℕ) (items : List (ℕ × A)) (rows : List Row) → AllByRecursion (λ (i : ℕ × A). place < i.0) items
      → AreShown R items rows
      → AllByRecursion (λ r. value_cmp (Int (pos place)) (column r 2) ≡ Less) rows
  rows_above place [] [] above shown = tt
  rows_above place [] (r ∷ rows) above shown = absurd shown
  rows_above place (i ∷ items) [] above shown = absurd shown
  rows_above place (i ∷ items) (r ∷ rows) above shown = (
    ap (value_cmp (Int (pos place))) (place_is i r shown.0) ∙ number_below place i.0 above.0,
    rows_above place items rows above.1 shown.1,
  )

  parts_at : (place k : ℕ) (xs : List A) → place < k
      → AllByRecursion (λ (i : ℕ × A). place < i.0) (map (λ x. (k, x)) xs)
  parts_at place k [] less = tt
  parts_at place k (x ∷ xs) less = (less, parts_at place k xs less)

  parts_above : (place : ℕ) (placed : List (ℕ × Signal)) → AllByRecursion (λ (q : ℕ × Signal). place < q.0) placed
      → AllByRecursion (λ (i : ℕ × A). place < i.0) (parts_of part (changed placed))
  parts_above place [] above = tt
  parts_above place (q ∷ placed) above =
      all_append (λ (i : ℕ × A). place < i.0) (own_parts q.0 (cond (p q) (change q.1) q.1))
      (parts_of part (changed placed))
      (parts_at place q.0 (part (cond (p q) (change q.1) q.1)) above.0) (parts_above place placed above.1)

  one_below : (place : ℕ) (x : Row) (rows : List Row) → column x 2 ≡ Int (pos place)
      → AllByRecursion (λ r. value_cmp (Int (pos place)) (column r 2) ≡ Less) rows
      → AllByRecursion (λ r. order x r ≡ Less) rows
  one_below place x [] is above = tt
  one_below place x (r ∷ rows) is above =
      (by_place x r (ap (λ v. value_cmp v (column r 2)) is ∙ above.0), one_below place x rows is above.1)

  all_below : (place : ℕ) (xs rows : List Row) → AllByRecursion (λ r. column r 2 ≡ Int (pos place)) xs
      → AllByRecursion (λ r. value_cmp (Int (pos place)) (column r 2) ≡ Less) rows
      → AllByRecursion (λ x. AllByRecursion (λ r. order x r ≡ Less) rows) xs
  all_below place [] rows at above = tt
  all_below place (x ∷ xs) rows at above = (one_below place x rows at.0 above, all_below place xs rows at.1 above)

  module _ (new : ℕ × Signal → List Row) (stays : Row → Bool) where
    abbrev AreNew : List (ℕ × Signal) → Type 0
    AreNew some = AllByRecursion (IsNew order R part change new) some

    abbrev Go : List (ℕ × Signal) → Type 0
    Go some = AllByRecursion (GoesIfChanged p stays) some

    stays_if : (x : Row) (xs : List Row) (b : Bool) → stays x ≡ b
        → filter stays (x ∷ xs) ≡ cond b (x ∷ filter stays xs) (filter stays xs)
    stays_if x xs b is = ap (λ t. cond t (x ∷ filter stays xs) (filter stays xs)) is

    own_go : (place : ℕ) (rows : List Row) → ((row : Row) → column row 2 ≡ Int (pos place) → stays row ≡ false)
        → AllByRecursion (λ r. column r 2 ≡ Int (pos place)) rows → filter stays rows ≡ []
    own_go place [] none at = refl
    own_go place (r ∷ rows) none at = stays_if r rows false (none r at.0) ∙ own_go place rows none at.1

    own_stay : (place : ℕ) (rows : List Row) → ((row : Row) → column row 2 ≡ Int (pos place) → stays row ≡ true)
        → AllByRecursion (λ r. column r 2 ≡ Int (pos place)) rows → filter stays rows ≡ rows
    own_stay place [] all at = refl
    own_stay place (r ∷ rows) all at = stays_if r rows true (all r at.0)
        ∙ ap (λ l. r ∷ l) (own_stay place rows all at.1)

    -- the rows in order: new ones in place of those that go
    merged : (placed : List (ℕ × Signal)) (found : List Row) → PlacesAscend placed → AreNew (filter p placed)
        → Go placed
        → IsStrictlySortedBy order found → AreShown R (parts_of part placed) found
        → AreListed order R (filter stays found ++ flat_map new (filter p placed)) (parts_of part (changed placed))
    merged [] [] ascend news goes sorted shown =
        record { found = []; same = IsPermutation-refl []; ascending = sorted; each = tt }
    merged [] (r ∷ found) ascend news goes sorted shown = absurd shown
    merged (q ∷ placed) found ascend news goes sorted shown =
        by_test (p q) refl news (λ some. merged placed split.others ascend.1 some goes.1
        (rest_ascends order split.own split.others sorted_both) split.others_shown)
      where
        left : List (ℕ × Signal)
        left = filter p placed

        split : IsCut R (own_parts q.0 q.1) (parts_of part placed) found
        split = cut R (own_parts q.0 q.1) (parts_of part placed) found shown

        sorted_both : IsStrictlySortedBy order (split.own ++ split.others)
        sorted_both = subst (IsStrictlySortedBy order) split.whole sorted

        At : List Row → Type 0
        At rows = AllByRecursion (λ r. column r 2 ≡ Int (pos q.0)) rows

        own_at : At split.own
        own_at = rows_at q.0 (part q.1) split.own split.own_shown

        kept_are : filter stays found ≡ filter stays split.own ++ filter stays split.others
        kept_are = ap (filter stays) split.whole ∙ filter-append stays split.own split.others

        -- rows at the place, and then those of the other signals
        join : (rows : List Row) (s : Signal)
            (more : AreListed order R (filter stays split.others ++ flat_map new left) (parts_of part (changed placed)))
            → IsStrictlySortedBy order rows → AreShown R (own_parts q.0 s) rows
            → AreListed order R (rows ++ (filter stays split.others ++ flat_map new left))
            (own_parts q.0 s ++ parts_of part (changed placed))
        join rows s more up shows = record {
          found = rows ++ more.found;
          same = IsPermutation-append_right rows (filter stays split.others ++ flat_map new left) more.found more.same;
          ascending = both_ascend order rows more.found up more.ascending
              (all_below q.0 rows more.found (rows_at q.0 (part s) rows shows)
              (rows_above q.0 (parts_of part (changed placed)) more.found (parts_above q.0 placed ascend.0) more.each));
          each = both_shown R (own_parts q.0 s) (parts_of part (changed placed)) rows more.found shows more.each;
        }

        by_test : (b : Bool) → p q ≡ b → AreNew (cond b (q ∷ left) left)
            → (AreNew left → AreListed order R (filter stays split.others ++ flat_map new left)
            (parts_of part (changed placed)))
            → AreListed order R (filter stays found ++ flat_map new (cond b (q ∷ left) left))
            (own_parts q.0 (cond b (change q.1) q.1) ++ parts_of part (changed placed))
        by_test true is some rest =
            let kept : filter stays found ≡ filter stays split.others =
            kept_are ∙ ap (λ l. l ++ filter stays split.others)
            (own_go q.0 split.own (λ row at. goes.0 row at ∙ ap not is) own_at) in
            let moved : IsPermutation (filter stays split.others ++ (new q ++ flat_map new left))
            (new q ++ (filter stays split.others ++ flat_map new left)) =
            subst (λ l. IsPermutation l (new q ++ (filter stays split.others ++ flat_map new left)))
            (append_assoc (filter stays split.others) (new q) (flat_map new left))
            (subst (IsPermutation ((filter stays split.others ++ new q) ++ flat_map new left))
            (append_assoc (new q) (filter stays split.others) (flat_map new left))
            (IsPermutation-append_left (flat_map new left) (filter stays split.others ++ new q)
            (new q ++ filter stays split.others) (IsPermutation-append_comm (filter stays split.others) (new q))))
            in
            subst (λ l. AreListed order R (l ++ (new q ++ flat_map new left))
            (own_parts q.0 (change q.1) ++ parts_of part (changed placed))) (sym kept)
            (moved_listed (new q ++ (filter stays split.others ++ flat_map new left))
            (filter stays split.others ++ (new q ++ flat_map new left))
            (own_parts q.0 (change q.1) ++ parts_of part (changed placed)) moved
            (join (new q) (change q.1) (rest some.1) some.0.ascending some.0.each))
        by_test false is some rest =
            let kept : filter stays found ≡ split.own ++ filter stays split.others =
            kept_are ∙ ap (λ l. l ++ filter stays split.others)
            (own_stay q.0 split.own (λ row at. goes.0 row at ∙ ap not is) own_at) in
            subst (λ l. AreListed order R l (own_parts q.0 q.1 ++ parts_of part (changed placed)))
            (sym (ap (λ l. l ++ flat_map new left) kept
            ∙ append_assoc split.own (filter stays split.others) (flat_map new left)))
            (join split.own q.1 (rest some) (first_ascends order split.own split.others sorted_both) split.own_shown)

    pub changed_listed : (placed : List (ℕ × Signal)) (rows : List Row) → PlacesAscend placed → AreNew (filter p placed)
        → Go placed
        → AreListed order R rows (parts_of part placed)
        → AreListed order R (filter stays rows ++ flat_map new (filter p placed)) (parts_of part (changed placed))
    changed_listed placed rows ascend news goes h =
        moved_listed (filter stays h.found ++ flat_map new (filter p placed))
        (filter stays rows ++ flat_map new (filter p placed)) (parts_of part (changed placed))
        (IsPermutation-append_left (flat_map new (filter p placed)) (filter stays rows) (filter stays h.found)
        (IsPermutation-filter stays rows h.found h.same))
        (merged placed h.found ascend news goes h.ascending h.each)

-- parts of another kind stay
pub same_parts : {A : Type 0} (part : Signal → List A) (p : ℕ × Signal → Bool) (change : Signal → Signal)
    → ((s : Signal) → part (change s) ≡ part s) → (placed : List (ℕ × Signal))
    → parts_of part (map (changed_at p change) placed) ≡ parts_of part placed
same_parts part p change same [] = refl
same_parts part p change same (q ∷ placed) = by_test (p q)
    ∙ ap (λ l. map (λ x. (q.0, x)) (part q.1) ++ l) (same_parts part p change same placed)
  where
    by_test : (b : Bool) → map (λ x. (q.0, x)) (part (cond b (change q.1) q.1))
        ++ parts_of part (map (changed_at p change) placed)
        ≡ map (λ x. (q.0, x)) (part q.1) ++ parts_of part (map (changed_at p change) placed)
    by_test true = ap (λ l. map (λ x. (q.0, x)) l ++ parts_of part (map (changed_at p change) placed)) (same q.1)
    by_test false = refl

-- ---- among the rows of a table

module _ (net : List ℕ) (number : ℕ) (new : ℕ × Signal → List Row) (new_named : (q : ℕ × Signal) → AreNamed net (new q))
    (new_of : (q : ℕ × Signal) → AreOf number (new q)) (own : List (ℕ × Signal)) where
  abbrev rows_new : List Row
  rows_new = flat_map new own

  abbrev go : Row → Bool
  go row = is_of_placed net number own row

  abbrev after : List Row → List Row
  after table = with_rows_of net number new own table

  named : AreNamed net rows_new
  named = all_flat (λ r. column r 0 ≡ Text net) new new_named own

  of : AreOf number rows_new
  of = all_flat (λ r. column r 1 ≡ Int (pos number)) new new_of own

  here : (table : List Row) → filter (is_of_net net) (after table) ≡ filter (λ r. not (has number r && at_any own r))
      (filter (is_of_net net) table) ++ rows_new
  here table =
      filter-append (is_of_net net) (filter (λ r. not (go r)) table) rows_new
      ∙ ap (λ l. filter (is_of_net net) (filter (λ r. not (go r)) table) ++ l) (own_rows net rows_new named)
      ∙ ap (λ l. l ++ rows_new)
      (left_here (is_of_net net) go (λ r. has number r && at_any own r)
      (λ r mine. ap (λ b. b && (has number r && at_any own r)) mine) table)

  pub rows_of_number : (table : List Row) → numbered_rows number (filter (is_of_net net) (after table))
      ≡ filter (λ r. not (at_any own r)) (numbered_rows number (filter (is_of_net net) table)) ++ rows_new
  rows_of_number table =
      ap (numbered_rows number) (here table)
      ∙ filter-append (has number) (filter (λ r. not (has number r && at_any own r)) (filter (is_of_net net) table))
      rows_new
      ∙ ap (λ l. numbered_rows number (filter (λ r. not (has number r && at_any own r)) (filter (is_of_net net) table))
      ++ l) (all_of number rows_new (all_own number rows_new of))
      ∙ ap (λ l. l ++ rows_new)
      (left_here (has number) (λ r. has number r && at_any own r) (at_any own)
      (λ r mine. ap (λ b. b && at_any own r) mine) (filter (is_of_net net) table))

  pub rows_of_another : (other : ℕ) (table : List Row) → (number ≡ other → ⊥)
      → numbered_rows other (filter (is_of_net net) (after table)) ≡ numbered_rows other (filter (is_of_net net) table)
  rows_of_another other table apart =
      ap (numbered_rows other) (here table)
      ∙ filter-append (has other) (filter (λ r. not (has number r && at_any own r)) (filter (is_of_net net) table))
      rows_new
      ∙ ap (λ l. numbered_rows other (filter (λ r. not (has number r && at_any own r)) (filter (is_of_net net) table))
      ++ l) (none_of other rows_new (all_other number other rows_new apart of))
      ∙ append-nil (numbered_rows other
      (filter (λ r. not (has number r && at_any own r)) (filter (is_of_net net) table)))
      ∙ left_others (has other) (λ r. has number r && at_any own r)
      (λ r mine. ap (λ b. b && at_any own r) (not_both number other r apart mine)) (filter (is_of_net net) table)

  pub rows_elsewhere : (other : List ℕ) (table : List Row) → bytes_eq net other ≡ false
      → filter (is_of_net other) (after table) ≡ filter (is_of_net other) table
  rows_elsewhere other table apart =
      filter-append (is_of_net other) (filter (λ r. not (go r)) table) rows_new
      ∙ ap (λ l. filter (is_of_net other) (filter (λ r. not (go r)) table) ++ l)
      (other_rows net other rows_new apart named)
      ∙ append-nil (filter (is_of_net other) (filter (λ r. not (go r)) table))
      ∙ left_others (is_of_net other) go
      (λ r mine. ap (λ b. b && (has number r && at_any own r)) (other_net net net other refl apart r mine)) table

  pub rows_numbered : (table : List Row) → AllByRecursion HasNumber (filter (is_of_net net) table)
      → AllByRecursion HasNumber (filter (is_of_net net) (after table))
  rows_numbered table all =
      subst (AllByRecursion HasNumber) (sym (here table))
      (all_append HasNumber (filter (λ r. not (has number r && at_any own r)) (filter (is_of_net net) table)) rows_new
      (all-filter HasNumber (λ r. not (has number r && at_any own r)) (filter (is_of_net net) table) all)
      (of_one number rows_new of))

-- ---- a message's signals, once those of a name are changed

abbrev named_as : List ℕ → ℕ × Signal → Bool
named_as signal q = bytes_eq q.1.name signal

signals_changed : (signal : List ℕ) (change : Signal → Signal) (placed : List (ℕ × Signal))
    → map signal_in (map (changed_at (named_as signal) change) placed) ≡ at_signal change signal (map signal_in placed)
signals_changed signal change [] = refl
signals_changed signal change (q ∷ placed) =
    ap (λ l. cond (bytes_eq q.1.name signal) (change q.1) q.1 ∷ l) (signals_changed signal change placed)

module _ (net : List ℕ) (number : ℕ) (signal : List ℕ) (t : Tables) (signals : List Signal)
    (h : AreSignalsOf net number (live_rows net t) signals) where
  abbrev own : List (ℕ × Signal)
  own = placed_named signal h.placed

  -- of the message's rows, those of the signals of the name go
  goes_each : (placed : List (ℕ × Signal)) → AllByRecursion (λ (q : ℕ × Signal). has_place own q.0 ≡ named_as signal q)
      placed
      → AllByRecursion (GoesIfChanged (named_as signal) (λ r. not (at_any own r))) placed
  goes_each [] all = tt
  goes_each (q ∷ placed) all = (λ row is. ap not (at_place q.0 row is own ∙ all.0), goes_each placed all.1)

  pub goes : AllByRecursion (GoesIfChanged (named_as signal) (λ r. not (at_any own r))) h.placed
  goes = goes_each h.placed (their_places (named_as signal) h.placed (places_ascend net number t signals h))

  decimals_each : (placed : List (ℕ × Signal)) (rows : List Row) → AreShown (IsSigRow net number) placed rows
      → AllByRecursion (λ (q : ℕ × Signal). HasDecimals q.1) placed
  decimals_each [] rows shown = tt
  decimals_each (q ∷ placed) [] shown = absurd shown
  decimals_each (q ∷ placed) (r ∷ rows) shown = (shown.0.decimals, decimals_each placed rows shown.1)

  pub have_decimals : AllByRecursion (λ (q : ℕ × Signal). HasDecimals q.1) own
  have_decimals = all-filter (λ (q : ℕ × Signal). HasDecimals q.1) (named_as signal) h.placed
      (decimals_each h.placed h.sigs.found h.sigs.each)

-- ---- suspect parameter numbers

lesser_place : (x y : Row) → value_cmp (column x 2) (column y 2) ≡ Less → sigs_order x y ≡ Less
lesser_place x y less = less

parts_alone : (placed : List (ℕ × Signal)) → parts_of (λ (s : Signal). s ∷ []) placed ≡ placed
parts_alone [] = refl
parts_alone (q ∷ placed) = ap (λ l. q ∷ l) (parts_alone placed)

module _ (net : List ℕ) (number n : ℕ) where
  abbrev numbered : Signal → Signal
  numbered s = record s { spn = n }

  abbrev pub spn_rows : ℕ × Signal → List Row
  spn_rows q = sig_values net number q.0 (record q.1 { spn = n }) ∷ []

  pub spn_named : (q : ℕ × Signal) → AreNamed net (spn_rows q)
  spn_named q = (refl, tt)

  pub spn_of : (q : ℕ × Signal) → AreOf number (spn_rows q)
  spn_of q = (refl, tt)

  spn_new : (own : List (ℕ × Signal)) → AllByRecursion (λ (q : ℕ × Signal). HasDecimals q.1) own
      → AllByRecursion (IsNew sigs_order (IsSigRow net number) (λ (s : Signal). s ∷ []) numbered spn_rows) own
  unfolding IsStrictlySortedBy
  spn_new [] all = tt
  spn_new (q ∷ own) all = (
    record {
      ascending = (tt, tt);
      each = (
        record {
          row_is = refl;
          decimals =
              record { factor = all.0.factor; offset = all.0.offset; minimum = all.0.minimum; maximum = all.0.maximum };
        },
        tt,
      );
    },
    spn_new own all.1,
  )

  -- the message has its signals, those of the name with the number
  pub spns_set : (signal : List ℕ) (t : Tables) (signals : List Signal)
      (h : AreSignalsOf net number (live_rows net t) signals)
      → AreSignalsOf net number (live_rows net (with_spns net number n (placed_named signal h.placed) t))
      (at_signal numbered signal signals)
  spns_set signal t signals h =
      let own = placed_named signal h.placed in
      let p = named_as signal in
      let now = map (changed_at p numbered) h.placed in
      let before : AreListed sigs_order (IsSigRow net number) (numbered_rows number (filter (is_of_net net) t.sig))
      (parts_of (λ (s : Signal). s ∷ []) h.placed) =
      subst (AreListed sigs_order (IsSigRow net number) (numbered_rows number (filter (is_of_net net) t.sig)))
      (sym (parts_alone h.placed)) h.sigs in
      let listed = changed_listed sigs_order (IsSigRow net number) (place_of net number) lesser_place
      (λ (s : Signal). s ∷ []) p numbered spn_rows (λ r. not (at_any own r))
      h.placed (numbered_rows number (filter (is_of_net net) t.sig)) (places_ascend net number t signals h)
      (spn_new own (have_decimals net number signal t signals h)) (goes net number signal t signals h) before in
      record {
        placed = now;
        are = signals_changed signal numbered h.placed ∙ ap (at_signal numbered signal) h.are;
        sigs = subst (λ l. AreListed sigs_order (IsSigRow net number) l now)
            (sym (rows_of_number net number spn_rows spn_named spn_of own t.sig))
            (subst (AreListed sigs_order (IsSigRow net number)
            (filter (λ r. not (at_any own r)) (numbered_rows number (filter (is_of_net net) t.sig))
            ++ flat_map spn_rows own)) (parts_alone now) listed);
        receivers = subst (AreListed receivers_order (IsReceiverRow net number)
            (numbered_rows number (filter (is_of_net net) t.receiver)))
            (sym (same_parts receivers_in p numbered (λ s. refl) h.placed)) h.receivers;
        values = subst (AreListed sigvalues_order (IsSigValueRow net number)
            (numbered_rows number (filter (is_of_net net) t.sigvalue)))
            (sym (same_parts values_in p numbered (λ s. refl) h.placed)) h.values;
      }

  module _ (own : List (ℕ × Signal)) (t : Tables) where
    abbrev after_spns : Tables
    after_spns = with_spns net number n own t

    pub spns_apart : (other : ℕ) (signals : List Signal) → (number ≡ other → ⊥)
        → AreSignalsOf net other (live_rows net t) signals → AreSignalsOf net other (live_rows net after_spns) signals
    spns_apart other signals apart =
        same_rows net other (live_rows net t) (live_rows net after_spns) signals
        (rows_of_another net number spn_rows spn_named spn_of own other t.sig apart) refl refl

    pub spns_numbered : HaveNumbers (live_rows net t) → HaveNumbers (live_rows net after_spns)
    spns_numbered all = record {
      sigs = rows_numbered net number spn_rows spn_named spn_of own t.sig all.sigs;
      receivers = all.receivers;
      values = all.values;
    }

    pub spns_elsewhere : (other : List ℕ) → bytes_eq net other ≡ false → live_rows other after_spns ≡ live_rows other t
    spns_elsewhere other apart =
        four (filter (is_of_net other) t.msg) (filter (is_of_net other) t.msg)
        (filter (is_of_net other) after_spns.sig) (filter (is_of_net other) t.sig)
        (filter (is_of_net other) t.receiver) (filter (is_of_net other) t.receiver)
        (filter (is_of_net other) t.sigvalue) (filter (is_of_net other) t.sigvalue)
        refl (rows_elsewhere net number spn_rows spn_named spn_of own other t.sig apart) refl refl

-- ---- value texts

lesser_first : (x y : Row) → value_cmp (column x 2) (column y 2) ≡ Less → sigvalues_order x y ≡ Less
lesser_first x y less = ap (λ c. ordering_then c (value_cmp (column x 3) (column y 3))) less

module _ (net : List ℕ) (number : ℕ) (values : List ValueText) where
  abbrev described : Signal → Signal
  described s = record s { values = values }

  abbrev pub new_texts : ℕ × Signal → List Row
  new_texts q = value_rows net number q.0 0 values

  rows_named : (place seat : ℕ) (some : List ValueText) → AreNamed net (value_rows net number place seat some)
  rows_named place seat [] = tt
  rows_named place seat (v ∷ some) = (refl, rows_named place (seat + 1) some)

  rows_of : (place seat : ℕ) (some : List ValueText) → AreOf number (value_rows net number place seat some)
  rows_of place seat [] = tt
  rows_of place seat (v ∷ some) = (refl, rows_of place (seat + 1) some)

  pub texts_named : (q : ℕ × Signal) → AreNamed net (new_texts q)
  texts_named q = rows_named q.0 0 values

  pub texts_of : (q : ℕ × Signal) → AreOf number (new_texts q)
  texts_of q = rows_of q.0 0 values

  rows_show : (place seat : ℕ) (some : List ValueText) → AllByRecursion (λ (v : ValueText). IsDecimal v.value) some
      → AreShown (IsSigValueRow net number) (map (λ v. (place, v)) some) (value_rows net number place seat some)
  rows_show place seat [] all = tt
  rows_show place seat (v ∷ some) all =
      (record { seat = seat; row_is = refl; decimal = all.0 }, rows_show place (seat + 1) some all.1)

  text_place : (i : ℕ × ValueText) (row : Row) → IsSigValueRow net number i row → column row 2 ≡ Int (pos i.0)
  text_place i row r = ap (λ x. column x 2) r.row_is

  texts_new : (own : List (ℕ × Signal))
      → AllByRecursion (λ (q : ℕ × Signal). AllByRecursion (λ (v : ValueText). IsDecimal v.value) values) own
      → AllByRecursion (IsNew sigvalues_order (IsSigValueRow net number) values_in described new_texts) own
  texts_new [] all = tt
  texts_new (q ∷ own) all = (
    record {
      ascending = subst (IsStrictlySortedBy sigvalues_order) (append-nil (new_texts q))
          (texts_ascend net number ((q.0, described q.1) ∷ []) (tt, tt));
      each = rows_show q.0 0 values all.0;
    },
    texts_new own all.1,
  )

  -- the row of a signal has no text
  sigs_same : (p : ℕ × Signal → Bool) (placed : List (ℕ × Signal)) (rows : List Row)
      → AreShown (IsSigRow net number) placed rows
      → AreShown (IsSigRow net number) (map (changed_at p described) placed) rows
  sigs_same p [] rows shown = shown
  sigs_same p (q ∷ placed) [] shown = absurd shown
  sigs_same p (q ∷ placed) (r ∷ rows) shown = (by_test (p q), sigs_same p placed rows shown.1)
    where
      by_test : (b : Bool) → IsSigRow net number (q.0, cond b (described q.1) q.1) r
      by_test true = record {
        row_is = shown.0.row_is;
        decimals = record {
          factor = shown.0.decimals.factor;
          offset = shown.0.decimals.offset;
          minimum =
              shown.0.decimals.minimum;
          maximum = shown.0.decimals.maximum;
        };
      }
      by_test false = shown.0

  -- the message has its signals, those of the name with the texts
  pub texts_set : (signal : List ℕ) (t : Tables) (signals : List Signal)
      (h : AreSignalsOf net number (live_rows net t) signals)
      → AllByRecursion (λ (q : ℕ × Signal). AllByRecursion (λ (v : ValueText). IsDecimal v.value) values)
      (placed_named signal h.placed)
      → AreSignalsOf net number (live_rows net (with_texts net number values (placed_named signal h.placed) t))
      (at_signal described signal signals)
  texts_set signal t signals h decimals =
      let own = placed_named signal h.placed in
      let p = named_as signal in
      let now = map (changed_at p described) h.placed in
      record {
        placed = now;
        are = signals_changed signal described h.placed ∙ ap (at_signal described signal) h.are;
        sigs = record {
          found = h.sigs.found;
          same = h.sigs.same;
          ascending = h.sigs.ascending;
          each =
              sigs_same p h.placed h.sigs.found h.sigs.each;
        };
        receivers = subst (AreListed receivers_order (IsReceiverRow net number)
            (numbered_rows number (filter (is_of_net net) t.receiver)))
            (sym (same_parts receivers_in p described (λ s. refl) h.placed)) h.receivers;
        values = subst (λ l. AreListed sigvalues_order (IsSigValueRow net number) l (parts_of values_in now))
            (sym (rows_of_number net number new_texts texts_named texts_of own t.sigvalue))
            (changed_listed sigvalues_order (IsSigValueRow net number) text_place lesser_first values_in p described
            new_texts (λ r. not (at_any own r))
            h.placed (numbered_rows number (filter (is_of_net net) t.sigvalue)) (places_ascend net number t signals h)
            (texts_new own decimals) (goes net number signal t signals h) h.values);
      }

  module _ (own : List (ℕ × Signal)) (t : Tables) where
    abbrev after_texts : Tables
    after_texts = with_texts net number values own t

    pub texts_apart : (other : ℕ) (signals : List Signal) → (number ≡ other → ⊥)
        → AreSignalsOf net other (live_rows net t) signals → AreSignalsOf net other (live_rows net after_texts) signals
    texts_apart other signals apart =
        same_rows net other (live_rows net t) (live_rows net after_texts) signals refl refl
        (rows_of_another net number new_texts texts_named texts_of own other t.sigvalue apart)

    pub texts_numbered : HaveNumbers (live_rows net t) → HaveNumbers (live_rows net after_texts)
    texts_numbered all = record {
      sigs = all.sigs;
      receivers = all.receivers;
      values =
          rows_numbered net number new_texts texts_named texts_of own t.sigvalue all.values;
    }

    pub texts_elsewhere : (other : List ℕ) → bytes_eq net other ≡ false
        → live_rows other after_texts ≡ live_rows other t
    texts_elsewhere other apart =
        four (filter (is_of_net other) t.msg) (filter (is_of_net other) t.msg)
        (filter (is_of_net other) t.sig) (filter (is_of_net other) t.sig)
        (filter (is_of_net other) t.receiver) (filter (is_of_net other) t.receiver)
        (filter (is_of_net other) after_texts.sigvalue) (filter (is_of_net other) t.sigvalue)
        refl refl refl (rows_elsewhere net number new_texts texts_named texts_of own other t.sigvalue apart)
