-- Signals added to a message that is there, at places above those of its signals: its other rows stay.
use Rattle.store_rows.proofs.Common.{◌≡◌, ◌∙◌, ℕ, ◌+◌, ◌<◌, pos, List, [], ◌∷◌, ◌++◌, append_assoc, map, filter, refl}
use Rattle.store_rows.proofs.Common.{sym, ap, subst, AllByRecursion, ordering_then, Ordering, Less, filter-append}
use Rattle.store_rows.proofs.Common.{IsPermutation-append, IsPermutation-refl, Int, Row, column, value_cmp, Signal}
use Rattle.store_rows.proofs.Common.{ValueText, Tables, is_of_net, receivers_order, sigs_order, sigvalues_order}
use Rattle.std.specs.List.Sorted.{IsStrictlySortedBy}
use Rattle.store_rows.specs.Listed.{AreListed, AreShown}
use Rattle.store_rows.specs.Live.{AreSignalsOf, IsReceiverRow, IsSigRow, IsSigValueRow, live_rows, numbered_rows}
use Rattle.store_rows.specs.Live.{parts_of}
use Rattle.store_rows.specs.LiveWritten.{IsSignal, placed_from, receiver_rows, value_rows, with_signal}
use Rattle.store_rows.proofs.Keys.{number_below}
use Rattle.store_rows.proofs.LiveChanges.{AreOf, all_of, all_own, has, of_each}
use Rattle.store_rows.proofs.LiveSet.{AreNamed, all_with, ascend_from, name_rows, named_each, names_ascend, names_show}
use Rattle.store_rows.proofs.LiveSet.{own_rows, sig_rows, sigs_ascend, sigs_show, text_rows, texts_ascend, texts_show}
use Rattle.store_rows.proofs.PutTogether.{receivers_in, signal_in, values_in}
use Rattle.store_rows.proofs.SeatRows.{all_append}

-- ---- lists after lists

pub both_ascend : {X : Type 0} (by : X → X → Ordering) (xs ys : List X) → IsStrictlySortedBy by xs
    → IsStrictlySortedBy by ys → AllByRecursion (λ x. AllByRecursion (λ y. by x y ≡ Less) ys) xs
    → IsStrictlySortedBy by (xs ++ ys)
unfolding IsStrictlySortedBy
both_ascend by [] ys one two below = two
both_ascend by (x ∷ xs) ys one two below =
    (all_append (λ y. by x y ≡ Less) xs ys one.0 below.0, both_ascend by xs ys one.1 two below.1)

pub both_shown : {A X : Type 0} (R : A → X → Type 0) (items items2 : List A) (rows rows2 : List X)
    → AreShown R items rows → AreShown R items2 rows2 → AreShown R (items ++ items2) (rows ++ rows2)
both_shown R [] items2 [] rows2 one two = two
both_shown R [] items2 (r ∷ rows) rows2 one two = absurd one
both_shown R (a ∷ items) items2 [] rows2 one two = absurd one
both_shown R (a ∷ items) items2 (r ∷ rows) rows2 one two = (one.0, both_shown R items items2 rows rows2 one.1 two)

-- each row of the first list is below each of the second
below_each : {A X : Type 0} (R : A → X → Type 0) (Q : A → Type 0) (by : X → X → Ordering) (new : List X)
    → ((a : A) (x : X) → R a x → Q a → AllByRecursion (λ y. by x y ≡ Less) new)
    → (items : List A) (rows : List X) → AllByRecursion Q items → AreShown R items rows
    → AllByRecursion (λ x. AllByRecursion (λ y. by x y ≡ Less) new) rows
below_each R Q by new one [] [] all shown = tt
below_each R Q by new one [] (r ∷ rows) all shown = absurd shown
below_each R Q by new one (a ∷ items) [] all shown = absurd shown
below_each R Q by new one (a ∷ items) (r ∷ rows) all shown =
    (one a r shown.0 all.0, below_each R Q by new one items rows all.1 shown.1)

more_listed : {A : Type 0} (by : Row → Row → Ordering) (R : A → Row → Type 0) (Q : A → Type 0) (items items2 : List A)
    (rows new : List Row) → AreListed by R rows items → IsStrictlySortedBy by new
    → AreShown R items2 new → AllByRecursion Q items
    → ((a : A) (x : Row) → R a x → Q a → AllByRecursion (λ y. by x y ≡ Less) new)
    → AreListed by R (rows ++ new) (items ++ items2)
more_listed by R Q items items2 rows new h sorted shown all one = record {
  found = h.found ++ new;
  same = IsPermutation-append rows h.found new new h.same (IsPermutation-refl new);
  ascending = both_ascend by h.found new h.ascending sorted (below_each R Q by new one items h.found all h.each);
  each = both_shown R items items2 h.found new h.each shown;
}

-- ---- places

parts_after : {A : Type 0} (part : Signal → List A) (placed placed2 : List (ℕ × Signal))
    → parts_of part (placed ++ placed2) ≡ parts_of part placed ++ parts_of part placed2
parts_after part [] placed2 = refl
parts_after part (p ∷ placed) placed2 =
    ap (λ l. map (λ x. (p.0, x)) (part p.1) ++ l) (parts_after part placed placed2)
    ∙ sym (append_assoc (map (λ x. (p.0, x)) (part p.1)) (parts_of part placed) (parts_of part placed2))

signals_after : (placed placed2 : List (ℕ × Signal)) → map signal_in (placed ++ placed2) ≡ map signal_in placed
    ++ map signal_in placed2
signals_after [] placed2 = refl
signals_after (p ∷ placed) placed2 = ap (λ l. p.1 ∷ l) (signals_after placed placed2)

at_one : {A : Type 0} (k p : ℕ) (xs : List A) → p < k → AllByRecursion (λ (i : ℕ × A). i.0 < k) (map (λ x. (p, x)) xs)
at_one k p [] less = tt
at_one k p (x ∷ xs) less = (less, at_one k p xs less)

parts_below : {A : Type 0} (part : Signal → List A) (k : ℕ) (placed : List (ℕ × Signal))
    → AllByRecursion (λ q. q.0 < k) placed → AllByRecursion (λ (i : ℕ × A). i.0 < k) (parts_of part placed)
parts_below part k [] below = tt
parts_below {A} part k (p ∷ placed) below =
    all_append (λ (i : ℕ × A). i.0 < k) (map (λ x. (p.0, x)) (part p.1)) (parts_of part placed)
    (at_one k p.0 (part p.1) below.0) (parts_below part k placed below.1)

-- ---- one signal

abbrev AreAt : ℕ → List Row → Type 0
AreAt k rows = AllByRecursion (λ y. column y 2 ≡ Int (pos k)) rows

module _ (net : List ℕ) (number k : ℕ) (s : Signal) where
  names_placed : (seat : ℕ) (names : List (List ℕ)) → AreAt k (receiver_rows net number k seat names)
  names_placed seat [] = tt
  names_placed seat (n ∷ names) = (refl, names_placed (seat + 1) names)

  texts_placed : (seat : ℕ) (values : List ValueText) → AreAt k (value_rows net number k seat values)
  texts_placed seat [] = tt
  texts_placed seat (v ∷ values) = (refl, texts_placed (seat + 1) values)

  abbrev p : List (ℕ × Signal)
  p = placed_from k (s ∷ [])

  lesser_place : (m : ℕ) (x y : Row) → column x 2 ≡ Int (pos m) → column y 2 ≡ Int (pos k) → m < k
      → value_cmp (column x 2) (column y 2) ≡ Less
  lesser_place m x y one two less = ap (λ v. value_cmp v (column y 2)) one ∙ ap (value_cmp (Int (pos m))) two
      ∙ number_below m k less

  by_place : (m : ℕ) (x : Row) (new : List Row) → column x 2 ≡ Int (pos m) → m < k → AreAt k new
      → AllByRecursion (λ y. sigs_order x y ≡ Less) new
  by_place m x [] is less at = tt
  by_place m x (y ∷ new) is less at = (lesser_place m x y is at.0 less, by_place m x new is less at.1)

  by_seat : (m : ℕ) (x : Row) (new : List Row) → column x 2 ≡ Int (pos m) → m < k → AreAt k new
      → AllByRecursion (λ y. receivers_order x y ≡ Less) new
  by_seat m x [] is less at = tt
  by_seat m x (y ∷ new) is less at = (
    ap (λ c. ordering_then c (value_cmp (column x 3) (column y 3))) (lesser_place m x y is at.0 less),
    by_seat m x new is less at.1,
  )

  more_rows : (table new : List Row) → AreNamed net new → AreOf number new
      → numbered_rows number (filter (is_of_net net) (table ++ new))
      ≡ numbered_rows number (filter (is_of_net net) table) ++ new
  more_rows table new named of =
      ap (numbered_rows number)
      (filter-append (is_of_net net) table new
      ∙ ap (λ l. filter (is_of_net net) table ++ l) (own_rows net new named))
      ∙ filter-append (has number) (filter (is_of_net net) table) new
      ∙ ap (λ l. numbered_rows number (filter (is_of_net net) table) ++ l) (all_of number new (all_own number new of))

  module _ (known : IsSignal s) (t : Tables) (signals : List Signal)
      (h : AreSignalsOf net number (live_rows net t) signals) (below : AllByRecursion (λ q. q.0 < k) h.placed) where
    abbrev pub sig_new : List Row
    sig_new = sig_rows net number p

    abbrev pub names_new : List Row
    names_new = name_rows net number p

    abbrev pub texts_new : List Row
    texts_new = text_rows net number p

    abbrev all_known : AllByRecursion IsSignal (s ∷ [])
    all_known = (known, tt)

    sigs_rows_are : numbered_rows number (filter (is_of_net net) (t.sig ++ sig_new))
        ≡ numbered_rows number (filter (is_of_net net) t.sig) ++ sig_new
    sigs_rows_are = more_rows t.sig sig_new (refl, tt) (refl, tt)

    names_rows_are : numbered_rows number (filter (is_of_net net) (t.receiver ++ names_new))
        ≡ numbered_rows number (filter (is_of_net net) t.receiver) ++ names_new
    names_rows_are = more_rows t.receiver names_new
        (named_each (IsReceiverRow net number) net (λ q x r. ap (λ y. column y 0) r.row_is) (parts_of receivers_in p)
        names_new (names_show net number p))
        (of_each (IsReceiverRow net number) number (λ q x r. ap (λ y. column y 1) r.row_is) (parts_of receivers_in p)
        names_new (names_show net number p))

    texts_rows_are : numbered_rows number (filter (is_of_net net) (t.sigvalue ++ texts_new))
        ≡ numbered_rows number (filter (is_of_net net) t.sigvalue) ++ texts_new
    texts_rows_are = more_rows t.sigvalue texts_new
        (named_each (IsSigValueRow net number) net (λ q x r. ap (λ y. column y 0) r.row_is) (parts_of values_in p)
        texts_new (texts_show net number k (s ∷ []) all_known))
        (of_each (IsSigValueRow net number) number (λ q x r. ap (λ y. column y 1) r.row_is) (parts_of values_in p)
        texts_new (texts_show net number k (s ∷ []) all_known))

    -- the message has one signal more, the last
    pub signal_added : AreSignalsOf net number (live_rows net (with_signal net number k s t)) (signals ++ s ∷ [])
    signal_added = subst (λ rows. AreSignalsOf net number rows (signals ++ s ∷ []))
        (sym (ap (live_rows net) (all_with net number p t))) (record {
          placed = h.placed ++ p;
          are = signals_after h.placed p ∙ ap (λ l. l ++ s ∷ []) h.are;
          sigs = subst (λ l. AreListed sigs_order (IsSigRow net number) l (h.placed ++ p)) (sym sigs_rows_are)
              (more_listed sigs_order (IsSigRow net number) (λ q. q.0 < k) h.placed p
              (numbered_rows number (filter (is_of_net net) t.sig)) sig_new h.sigs
              (sigs_ascend net number p (ascend_from net number k (s ∷ []))) (sigs_show net number k (s ∷ []) all_known)
              below
              (λ q x r less. by_place q.0 x sig_new (ap (λ y. column y 2) r.row_is) less (refl, tt)));
          receivers = subst (λ l. AreListed receivers_order (IsReceiverRow net number) l
              (parts_of receivers_in (h.placed ++ p))) (sym names_rows_are)
              (subst (AreListed receivers_order (IsReceiverRow net number)
              (numbered_rows number (filter (is_of_net net) t.receiver) ++ names_new))
              (sym (parts_after receivers_in h.placed p))
              (more_listed receivers_order (IsReceiverRow net number) (λ q. q.0 < k) (parts_of receivers_in h.placed)
              (parts_of receivers_in p)
              (numbered_rows number (filter (is_of_net net) t.receiver)) names_new h.receivers
              (names_ascend net number p (ascend_from net number k (s ∷ []))) (names_show net number p)
              (parts_below receivers_in k h.placed below)
              (λ q x r less. by_seat q.0 x names_new (ap (λ y. column y 2) r.row_is) less
              (all_append (λ y. column y 2 ≡ Int (pos k)) (receiver_rows net number k 0 s.receivers) []
              (names_placed 0 s.receivers) tt))));
          values = subst (λ l. AreListed sigvalues_order (IsSigValueRow net number) l (parts_of values_in (h.placed ++ p)))
              (sym texts_rows_are)
              (subst (AreListed sigvalues_order (IsSigValueRow net number)
              (numbered_rows number (filter (is_of_net net) t.sigvalue) ++ texts_new))
              (sym (parts_after values_in h.placed p))
              (more_listed sigvalues_order (IsSigValueRow net number) (λ q. q.0 < k) (parts_of values_in h.placed)
              (parts_of values_in p)
              (numbered_rows number (filter (is_of_net net) t.sigvalue)) texts_new h.values
              (texts_ascend net number p (ascend_from net number k (s ∷ [])))
              (texts_show net number k (s ∷ []) all_known) (parts_below values_in k h.placed below)
              (λ q x r less. by_seat q.0 x texts_new (ap (λ y. column y 2) r.row_is) less
              (all_append (λ y. column y 2 ≡ Int (pos k)) (value_rows net number k 0 s.values) []
              (texts_placed 0 s.values) tt))));
        })
