-- The rows of a signal removed by its place: its message has the other signals, and all other rows stay.
use Rattle.store_rows.proofs.Common.{◌≡◌, ◌∙◌, ℕ, pos, Bool, true, false, cond, not, ◌&&◌, ◌||◌, List, [], ◌∷◌, ◌++◌}
use Rattle.store_rows.proofs.Common.{map, filter, refl, sym, ap, subst, arith, ◌==◌, AllByRecursion, list_any, is_eq}
use Rattle.store_rows.proofs.Common.{nat_cmp, bytes_eq, nat_tests, filter-append, Int, Row, column, value_cmp}
use Rattle.store_rows.proofs.Common.{all-filter, without_signal, Signal, has_number, Tables, is_of_net, receivers_order}
use Rattle.store_rows.proofs.Common.{sigs_order, sigvalues_order}
use Rattle.store_statements.specs.Rows.{has_place_of}
use Rattle.store_rows.specs.Listed.{AreListed}
use Rattle.store_rows.specs.Live.{AreSignalsOf, HasNumber, HaveNumbers, IsReceiverRow, IsSigRow, IsSigValueRow}
use Rattle.store_rows.specs.Live.{live_rows, numbered_rows, parts_of}
use Rattle.store_rows.specs.LiveWritten.{AreItsPlaces, without_place, without_places}
use Rattle.store_rows.proofs.Keys.{int_test, other_net}
use Rattle.store_rows.proofs.Listing.{kept_listed}
use Rattle.store_rows.proofs.LiveChanges.{has, not_both, same_rows}
use Rattle.store_rows.proofs.LiveSet.{four}
use Rattle.store_rows.proofs.PutTogether.{receivers_in, signal_in, values_in}
use Rattle.store_rows.proofs.Setting.{left_here, left_others}

-- ---- lists

stays_if : {A : Type 0} (p : A → Bool) (x : A) (xs : List A) (b : Bool) → p x ≡ b
    → filter p (x ∷ xs) ≡ cond b (x ∷ filter p xs) (filter p xs)
stays_if p x xs b is = ap (λ t. cond t (x ∷ filter p xs) (filter p xs)) is

all_stay : {A : Type 0} (p : A → Bool) → ((x : A) → p x ≡ true) → (xs : List A) → filter p xs ≡ xs
all_stay p one [] = refl
all_stay p one (x ∷ xs) = stays_if p x xs true (one x) ∙ ap (λ l. x ∷ l) (all_stay p one xs)

none_stays : {A : Type 0} (p : A → Bool) → ((x : A) → p x ≡ false) → (xs : List A) → filter p xs ≡ []
none_stays p one [] = refl
none_stays p one (x ∷ xs) = stays_if p x xs false (one x) ∙ none_stays p one xs

-- what passes one test and then another
pub passes_both : {A : Type 0} (p q r : A → Bool) → ((x : A) → r x ≡ (p x && q x)) → (xs : List A)
    → filter q (filter p xs) ≡ filter r xs
passes_both p q r same [] = refl
passes_both {A} p q r same (x ∷ xs) = by_tests (p x) (q x) refl refl (passes_both p q r same xs)
  where
    by_tests : (a b : Bool) → p x ≡ a → q x ≡ b → filter q (filter p xs) ≡ filter r xs
        → filter q (filter p (x ∷ xs)) ≡ filter r (x ∷ xs)
    by_tests true true e f rest =
        ap (filter q) (stays_if p x xs true e) ∙ stays_if q x (filter p xs) true f ∙ ap (λ l. x ∷ l) rest
        ∙ sym (stays_if r x xs true (same x ∙ ap (λ t. t && q x) e ∙ f))
    by_tests true false e f rest =
        ap (filter q) (stays_if p x xs true e) ∙ stays_if q x (filter p xs) false f ∙ rest
        ∙ sym (stays_if r x xs false (same x ∙ ap (λ t. t && q x) e ∙ f))
    by_tests false b e f rest = ap (filter q) (stays_if p x xs false e) ∙ rest
        ∙ sym (stays_if r x xs false (same x ∙ ap (λ t. t && q x) e))

-- ---- one place

pub number_test : (m n : ℕ) → (m == n) ≡ is_eq (nat_cmp n m)
number_test m n = grind (arith, nat_tests)

-- a signal, or a part of one, has another place
abbrev is_elsewhere : {A : Type 0} → ℕ → ℕ × A → Bool
is_elsewhere place i = not (place == i.0)

abbrev at_place : ℕ → Row → Bool
at_place place row = has_number 2 place row

place_test : (place other : ℕ) (row : Row) → column row 2 ≡ Int (pos other)
    → not (place == other) ≡ not (at_place place row)
place_test place other row is =
    ap not (number_test place other ∙ ap is_eq (sym (int_test other place))
    ∙ ap (λ v. is_eq (value_cmp v (Int (pos place)))) (sym is))

module _ {A : Type 0} (part : Signal → List A) (place : ℕ) where
  parts_left : (placed : List (ℕ × Signal)) → filter (is_elsewhere place) (parts_of part placed)
      ≡ parts_of part (filter (is_elsewhere place) placed)
  parts_left [] = refl
  parts_left (p ∷ placed) = by_test (not (place == p.0)) refl (parts_left placed)
    where
      own : List A → List (ℕ × A)
      own xs = map (λ x. (p.0, x)) xs

      own_stay : not (place == p.0) ≡ true → (xs : List A) → filter (is_elsewhere place) (own xs) ≡ own xs
      own_stay is [] = refl
      own_stay is (x ∷ xs) = stays_if (is_elsewhere place) (p.0, x) (own xs) true is
          ∙ ap (λ l. (p.0, x) ∷ l) (own_stay is xs)

      own_go : not (place == p.0) ≡ false → (xs : List A) → filter (is_elsewhere place) (own xs) ≡ []
      own_go is [] = refl
      own_go is (x ∷ xs) = stays_if (is_elsewhere place) (p.0, x) (own xs) false is ∙ own_go is xs

      by_test : (b : Bool) → not (place == p.0) ≡ b → filter (is_elsewhere place) (parts_of part placed)
          ≡ parts_of part (filter (is_elsewhere place) placed)
          → filter (is_elsewhere place) (parts_of part (p ∷ placed))
          ≡ parts_of part (filter (is_elsewhere place) (p ∷ placed))
      by_test true is rest =
          filter-append (is_elsewhere place) (own (part p.1)) (parts_of part placed)
          ∙ ap (λ l. l ++ filter (is_elsewhere place) (parts_of part placed)) (own_stay is (part p.1))
          ∙ ap (λ l. own (part p.1) ++ l) rest
          ∙ sym (ap (parts_of part) (stays_if (is_elsewhere place) p placed true is))
      by_test false is rest =
          filter-append (is_elsewhere place) (own (part p.1)) (parts_of part placed)
          ∙ ap (λ l. l ++ filter (is_elsewhere place) (parts_of part placed)) (own_go is (part p.1))
          ∙ rest
          ∙ sym (ap (parts_of part) (stays_if (is_elsewhere place) p placed false is))

module _ (net : List ℕ) (number place : ℕ) where
  abbrev gone : Row → Bool
  gone row = has_place_of net number place row

  -- of the network's rows, those of the number and the place go
  left_of_net : (table : List Row) → filter (is_of_net net) (filter (λ r. not (gone r)) table)
      ≡ filter (λ r. not (has number r && at_place place r)) (filter (is_of_net net) table)
  left_of_net table = left_here (is_of_net net) gone (λ r. has number r && at_place place r)
      (λ r here. ap (λ b. b && (has number r && at_place place r)) here) table

  left_of_number : (table : List Row)
      → numbered_rows number (filter (is_of_net net) (filter (λ r. not (gone r)) table))
      ≡ filter (λ r. not (at_place place r)) (numbered_rows number (filter (is_of_net net) table))
  left_of_number table =
      ap (numbered_rows number) (left_of_net table)
      ∙ left_here (has number) (λ r. has number r && at_place place r) (at_place place)
      (λ r here. ap (λ b. b && at_place place r) here) (filter (is_of_net net) table)

  pub left_of_another : (other : ℕ) (table : List Row) → (number ≡ other → ⊥)
      → numbered_rows other (filter (is_of_net net) (filter (λ r. not (gone r)) table))
      ≡ numbered_rows other (filter (is_of_net net) table)
  left_of_another other table apart =
      ap (numbered_rows other) (left_of_net table)
      ∙ left_others (has other) (λ r. has number r && at_place place r)
      (λ r here. ap (λ b. b && at_place place r) (not_both number other r apart here)) (filter (is_of_net net) table)

  left_elsewhere : (other : List ℕ) (table : List Row) → bytes_eq net other ≡ false
      → filter (is_of_net other) (filter (λ r. not (gone r)) table) ≡ filter (is_of_net other) table
  left_elsewhere other table apart =
      left_others (is_of_net other) gone
      (λ r here. ap (λ b. b && (has number r && at_place place r)) (other_net net net other refl apart r here))
      table

  module _ (t : Tables) where
    abbrev after : Tables
    after = without_place net number place t

    pub place_elsewhere : (other : List ℕ) → bytes_eq net other ≡ false → live_rows other after ≡ live_rows other t
    place_elsewhere other apart =
        four (filter (is_of_net other) t.msg) (filter (is_of_net other) t.msg)
        (filter (is_of_net other) (filter (λ r. not (gone r)) t.sig)) (filter (is_of_net other) t.sig)
        (filter (is_of_net other) (filter (λ r. not (gone r)) t.receiver)) (filter (is_of_net other) t.receiver)
        (filter (is_of_net other) (filter (λ r. not (gone r)) t.sigvalue)) (filter (is_of_net other) t.sigvalue)
        refl (left_elsewhere other t.sig apart) (left_elsewhere other t.receiver apart)
        (left_elsewhere other t.sigvalue apart)

    numbered_left : (table : List Row) → AllByRecursion HasNumber (filter (is_of_net net) table)
        → AllByRecursion HasNumber (filter (is_of_net net) (filter (λ r. not (gone r)) table))
    numbered_left table all =
        subst (AllByRecursion HasNumber) (sym (left_of_net table))
        (all-filter HasNumber (λ r. not (has number r && at_place place r)) (filter (is_of_net net) table) all)

    pub place_numbered : HaveNumbers (live_rows net t) → HaveNumbers (live_rows net after)
    place_numbered all = record {
      sigs = numbered_left t.sig all.sigs;
      receivers =
          numbered_left t.receiver all.receivers;
      values = numbered_left t.sigvalue all.values;
    }

    -- the signals of other messages stay
    pub place_apart : (other : ℕ) (signals : List Signal) → (number ≡ other → ⊥)
        → AreSignalsOf net other (live_rows net t) signals → AreSignalsOf net other (live_rows net after) signals
    place_apart other signals apart =
        same_rows net other (live_rows net t) (live_rows net after) signals (left_of_another other t.sig apart)
        (left_of_another other t.receiver apart) (left_of_another other t.sigvalue apart)

    -- and those of the message that have another place
    place_gone : (signals : List Signal) (h : AreSignalsOf net number (live_rows net t) signals)
        → AreSignalsOf net number (live_rows net after) (map signal_in (filter (is_elsewhere place) h.placed))
    place_gone signals h = record {
      placed = filter (is_elsewhere place) h.placed;
      are = refl;
      sigs = subst (λ l. AreListed sigs_order (IsSigRow net number) l (filter (is_elsewhere place) h.placed))
          (sym (left_of_number t.sig))
          (kept_listed (is_elsewhere place) (λ r. not (at_place place r))
          (λ q row is. place_test place q.0 row (ap (λ (r : Row). column r 2) is.row_is))
          (numbered_rows number (filter (is_of_net net) t.sig)) h.placed h.sigs);
      receivers = subst (λ l. AreListed receivers_order (IsReceiverRow net number) l
          (parts_of receivers_in (filter (is_elsewhere place) h.placed))) (sym (left_of_number t.receiver))
          (subst (AreListed receivers_order (IsReceiverRow net number)
          (filter (λ r. not (at_place place r)) (numbered_rows number (filter (is_of_net net) t.receiver))))
          (parts_left receivers_in place h.placed)
          (kept_listed (is_elsewhere place) (λ r. not (at_place place r))
          (λ q row is. place_test place q.0 row (ap (λ (r : Row). column r 2) is.row_is))
          (numbered_rows number (filter (is_of_net net) t.receiver)) (parts_of receivers_in h.placed) h.receivers));
      values = subst (λ l. AreListed sigvalues_order (IsSigValueRow net number) l
          (parts_of values_in (filter (is_elsewhere place) h.placed))) (sym (left_of_number t.sigvalue))
          (subst (AreListed sigvalues_order (IsSigValueRow net number)
          (filter (λ r. not (at_place place r)) (numbered_rows number (filter (is_of_net net) t.sigvalue))))
          (parts_left values_in place h.placed)
          (kept_listed (is_elsewhere place) (λ r. not (at_place place r))
          (λ q row is. place_test place q.0 row (ap (λ (r : Row). column r 2) is.row_is))
          (numbered_rows number (filter (is_of_net net) t.sigvalue)) (parts_of values_in h.placed) h.values));
    }

-- ---- places, one after the other

module _ (net : List ℕ) (number : ℕ) where
  abbrev stays : List ℕ → ℕ × Signal → Bool
  stays places q = not (list_any (λ p. p == q.0) places)

  not_either : (a b : Bool) → not (a || b) ≡ (not a && not b)
  not_either true b = refl
  not_either false b = refl

  places_gone : (places : List ℕ) (t : Tables) (signals : List Signal)
      (h : AreSignalsOf net number (live_rows net t) signals)
      → AreSignalsOf net number (live_rows net (without_places net number places t))
      (map signal_in (filter (stays places) h.placed))
  unfolding place_gone
  places_gone [] t signals h =
      subst (AreSignalsOf net number (live_rows net t))
      (sym h.are ∙ ap (map signal_in) (sym (all_stay (stays []) (λ q. refl) h.placed))) h
  places_gone (place ∷ places) t signals h =
      subst (AreSignalsOf net number
      (live_rows net (without_places net number places (without_place net number place t))))
      (ap (map signal_in) (passes_both (is_elsewhere place) (stays places) (stays (place ∷ places))
      (λ q. not_either (place == q.0) (list_any (λ p. p == q.0) places)) h.placed))
      (places_gone places (without_place net number place t) (map signal_in (filter (is_elsewhere place) h.placed))
      (place_gone net number place t signals h))

  pub places_numbered : (places : List ℕ) (t : Tables) → HaveNumbers (live_rows net t)
      → HaveNumbers (live_rows net (without_places net number places t))
  places_numbered [] t all = all
  places_numbered (place ∷ places) t all =
      places_numbered places (without_place net number place t) (place_numbered net number place t all)

  pub places_apart : (places : List ℕ) (t : Tables) (other : ℕ) (signals : List Signal) → (number ≡ other → ⊥)
      → AreSignalsOf net other (live_rows net t) signals
      → AreSignalsOf net other (live_rows net (without_places net number places t)) signals
  places_apart [] t other signals apart h = h
  places_apart (place ∷ places) t other signals apart h =
      places_apart places (without_place net number place t) other signals apart
      (place_apart net number place t other signals apart h)

  pub places_elsewhere : (places : List ℕ) (t : Tables) (other : List ℕ) → bytes_eq net other ≡ false
      → live_rows other (without_places net number places t) ≡ live_rows other t
  places_elsewhere [] t other apart = refl
  places_elsewhere (place ∷ places) t other apart =
      places_elsewhere places (without_place net number place t) other apart
      ∙ place_elsewhere net number place t other apart

  -- the heads stay, and so do all tables that have no signals
  pub places_alone : (places : List ℕ) (t : Tables)
      → (record (without_places net number places t) { sig = t.sig; receiver = t.receiver; sigvalue = t.sigvalue }) ≡ t
  places_alone [] t = refl
  places_alone (place ∷ places) t =
      ap (λ (u : Tables). record u { sig = t.sig; receiver = t.receiver; sigvalue = t.sigvalue })
      (places_alone places (without_place net number place t))

  -- the places of the signals of a name: the signals of other names are left
  others_left : (signal : List ℕ) (places : List ℕ) (placed : List (ℕ × Signal)) → AreItsPlaces signal places placed
      → map signal_in (filter (stays places) placed) ≡ without_signal (map signal_in placed) signal
  others_left signal places [] own = refl
  others_left signal places (q ∷ placed) own =
      ap (λ b. map signal_in (cond (not b) (q ∷ filter (stays places) placed) (filter (stays places) placed))) own.0
      ∙ by_test (bytes_eq q.1.name signal) (others_left signal places placed own.1)
    where
      by_test : (b : Bool) → map signal_in (filter (stays places) placed) ≡ without_signal (map signal_in placed) signal
          → map signal_in (cond (not b) (q ∷ filter (stays places) placed) (filter (stays places) placed))
          ≡ cond (not b) (q.1 ∷ without_signal (map signal_in placed) signal)
          (without_signal (map signal_in placed) signal)
      by_test true rest = rest
      by_test false rest = ap (λ l. q.1 ∷ l) rest

  pub signal_gone : (signal : List ℕ) (places : List ℕ) (t : Tables) (signals : List Signal)
      (h : AreSignalsOf net number (live_rows net t) signals) → AreItsPlaces signal places h.placed
      → AreSignalsOf net number (live_rows net (without_places net number places t)) (without_signal signals signal)
  signal_gone signal places t signals h own =
      subst (AreSignalsOf net number (live_rows net (without_places net number places t)))
      (others_left signal places h.placed own ∙ ap (λ l. without_signal l signal) h.are)
      (places_gone places t signals h)
