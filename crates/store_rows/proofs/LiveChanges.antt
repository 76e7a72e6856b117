-- The rows of a live message in place of those of its number: the message is put among the live ones.
use Rattle.store_rows.proofs.Common.{◌≡◌, ◌∙◌, ℕ, pos, Bool, true, false, cond, not, ◌&&◌, List, [], ◌∷◌, ◌++◌}
use Rattle.store_rows.proofs.Common.{append-nil, map, filter, find, Option, None, Some, refl, sym, ap, subst, arith}
use Rattle.store_rows.proofs.Common.{◌==◌, AllByRecursion, is_eq, is_lt, nat_cmp, Ordering, Less, Equal, Greater}
use Rattle.store_rows.proofs.Common.{eq-eqb, eqb-true, false≢true, nat_tests, filter-append, IsPermutation-refl, Int}
use Rattle.store_rows.proofs.Common.{Row, column, value_cmp, all-filter, are_above, put, put_cases, dbc_number, Signal}
use Rattle.store_rows.proofs.Common.{by_number, LiveMessage, has_number, msgs_order, receivers_order, sigs_order}
use Rattle.store_rows.proofs.Common.{sigvalues_order}
use Rattle.std.specs.List.Sorted.{IsStrictlySortedBy}
use Rattle.std.specs.Ordering.{on}
use Rattle.base.proofs.AscendingLists.{find_without}
use Rattle.store_rows.specs.Listed.{AreListed, AreShown}
use Rattle.store_rows.specs.Live.{AreLiveRows, AreSignalsOf, HasNumber, IsMsgRow, IsReceiverRow, IsSigRow}
use Rattle.store_rows.specs.Live.{IsSigValueRow, LiveRows, msg_values, numbered_rows, parts_of, signals_numbered}
use Rattle.store_rows.proofs.Keys.{int_test, number_order, one_value}
use Rattle.store_rows.proofs.Listing.{kept_listed, none_listed, set_listed}
use Rattle.store_rows.proofs.LiveRows.{msgs_total}
use Rattle.store_rows.proofs.PutTogether.{receivers_in, signal_in, values_in}
use Rattle.store_rows.proofs.SeatRows.{all_append}
use Rattle.store_rows.proofs.Setting.{left_none, left_others}

-- ---- what is found by a number, once a thing is put among others

module _ {A : Type 0} (key : A → ℕ) where
  abbrev by : A → A → Ordering
  by = on key nat_cmp

  either_way : (x y : A) (n : ℕ) (o : Option A) → (key x ≡ key y → ⊥)
      → cond (key y == n) (Some y) (cond (key x == n) (Some x) o) ≡ cond (key x == n) (Some x)
      (cond (key y == n) (Some y) o)
  either_way x y n o apart = by_tests (key x == n) (key y == n) refl refl
    where
      by_tests : (a b : Bool) → (key x == n) ≡ a → (key y == n) ≡ b
          → cond b (Some y) (cond a (Some x) o) ≡ cond a (Some x) (cond b (Some y) o)
      by_tests true true e f = absurd (apart (eqb-true (key x) n e ∙ sym (eqb-true (key y) n f)))
      by_tests true false e f = refl
      by_tests false true e f = refl
      by_tests false false e f = refl

  in_place : (x y : A) (n : ℕ) (o : Option A) → key x ≡ key y
      → cond (key x == n) (Some x) o ≡ cond (key x == n) (Some x) (cond (key y == n) (Some y) o)
  in_place x y n o same = by_test (key x == n) refl
    where
      by_test : (a : Bool) → (key x == n) ≡ a → cond a (Some x) o ≡ cond a (Some x) (cond (key y == n) (Some y) o)
      by_test true e = refl
      by_test false e = sym (ap (λ b. cond b (Some y) o) (sym (ap (λ k. k == n) same) ∙ e))

  pub above_if_same : (x y : A) (ys : List A) → key x ≡ key y → AllByRecursion (λ z. by y z ≡ Less) ys
      → are_above by x ys ≡ true
  above_if_same x y [] same below = refl
  above_if_same x y (z ∷ ys) same below =
      ap (λ (r : Ordering). is_lt r && are_above by x ys) (ap (λ k. nat_cmp k (key z)) same ∙ below.0)
      ∙ above_if_same x y ys same below.1

  pub put_finds : (x : A) (xs : List A) (n : ℕ) → IsStrictlySortedBy by xs
      → find (λ y. key y == n) (put by x xs) ≡ cond (key x == n) (Some x) (find (λ y. key y == n) xs)
  unfolding IsStrictlySortedBy
  put_finds x [] n sorted = refl
  put_finds x (y ∷ ys) n sorted =
      put_cases by x (λ zs. find (λ z. key z == n) zs ≡ cond (key x == n) (Some x) (find (λ z. key z == n) (y ∷ ys))) y
      ys
      (λ above e. refl)
      (λ above e. in_place x y n (find (λ z. key z == n) ys) (let same : nat_cmp (key x) (key y) ≡ Equal = e in
      grind (arith, nat_tests, same)))
      (λ above e. either_way x y n (find (λ z. key z == n) ys)
      (λ same. let greater : nat_cmp (key x) (key y) ≡ Greater = e in grind (arith, nat_tests, greater, same)))
      (λ late.
      ap (λ o. cond (key y == n) (Some y) o) (put_finds x ys n sorted.1)
      ∙ either_way x y n (find (λ z. key z == n) ys)
      (λ same. false≢true (sym late ∙ above_if_same x y ys same sorted.0)))

-- ---- rows of one number in place of others

abbrev pub has : ℕ → Row → Bool
has number row = has_number 1 number row

pub none_of : (number : ℕ) (rows : List Row) → AllByRecursion (λ r. has number r ≡ false) rows
    → filter (has number) rows ≡ []
none_of number [] all = refl
none_of number (r ∷ rows) all = ap (λ b. cond b (r ∷ filter (has number) rows) (filter (has number) rows)) all.0
    ∙ none_of number rows all.1

pub all_of : (number : ℕ) (rows : List Row) → AllByRecursion (λ r. has number r ≡ true) rows
    → filter (has number) rows ≡ rows
all_of number [] all = refl
all_of number (r ∷ rows) all = ap (λ b. cond b (r ∷ filter (has number) rows) (filter (has number) rows)) all.0
    ∙ ap (λ l. r ∷ l) (all_of number rows all.1)

has_own : (number : ℕ) (row : Row) → column row 1 ≡ Int (pos number) → has number row ≡ true
has_own number row is = ap (λ v. is_eq (value_cmp v (Int (pos number)))) is ∙ ap is_eq (int_test number number) ∙ same
  where
    same : is_eq (nat_cmp number number) ≡ true
    same = grind (arith, nat_tests)

has_other : (number other : ℕ) (row : Row) → column row 1 ≡ Int (pos number) → (number ≡ other → ⊥)
    → has other row ≡ false
has_other number other row is apart = ap (λ v. is_eq (value_cmp v (Int (pos other)))) is
    ∙ ap is_eq (int_test number other) ∙ differ
  where
    differ : is_eq (nat_cmp number other) ≡ false
    differ = grind (arith, nat_tests, apart)

-- each row is of the number
abbrev pub AreOf : ℕ → List Row → Type 0
AreOf number rows = AllByRecursion (λ r. column r 1 ≡ Int (pos number)) rows

pub all_own : (number : ℕ) (rows : List Row) → AreOf number rows → AllByRecursion (λ r. has number r ≡ true) rows
all_own number [] of = tt
all_own number (r ∷ rows) of = (has_own number r of.0, all_own number rows of.1)

pub all_other : (number other : ℕ) (rows : List Row) → (number ≡ other → ⊥) → AreOf number rows
    → AllByRecursion (λ r. has other r ≡ false) rows
all_other number other [] apart of = tt
all_other number other (r ∷ rows) apart of =
    (has_other number other r of.0 apart, all_other number other rows apart of.1)

pub of_one : (number : ℕ) (rows : List Row) → AreOf number rows → AllByRecursion HasNumber rows
of_one number [] of = tt
of_one number (r ∷ rows) of = (record { number = number; is = of.0 }, of_one number rows of.1)

-- the rows without those of the number, and then these
abbrev pub replaced : ℕ → List Row → List Row → List Row
replaced number new rows = filter (λ r. not (has number r)) rows ++ new

own_replaced : (number : ℕ) (new rows : List Row) → AreOf number new → numbered_rows number (replaced number new rows)
    ≡ new
own_replaced number new rows of =
    filter-append (has number) (filter (λ r. not (has number r)) rows) new
    ∙ ap (λ l. l ++ filter (has number) new) (left_none (has number) rows) ∙ all_of number new (all_own number new of)

replaced_numbered : (number : ℕ) (new rows : List Row) → AreOf number new → AllByRecursion HasNumber rows
    → AllByRecursion HasNumber (replaced number new rows)
replaced_numbered number new rows of all =
    all_append HasNumber (filter (λ r. not (has number r)) rows) new
    (all-filter HasNumber (λ r. not (has number r)) rows all) (of_one number new of)

not_equal : (number other : ℕ) → (number ≡ other → ⊥) → is_eq (nat_cmp other number) ≡ false
not_equal number other apart = grind (arith, nat_tests, apart)

pub not_both : (number other : ℕ) (r : Row) → (number ≡ other → ⊥) → has other r ≡ true → has number r ≡ false
not_both number other r apart here =
    one_value (column r 1) (Int (pos other)) (Int (pos number)) here
    (ap is_eq (int_test other number) ∙ not_equal number other apart)

other_replaced : (number other : ℕ) (new rows : List Row) → (number ≡ other → ⊥) → AreOf number new
    → numbered_rows other (replaced number new rows) ≡ numbered_rows other rows
other_replaced number other new rows apart of =
    filter-append (has other) (filter (λ r. not (has number r)) rows) new
    ∙ ap (λ l. filter (has other) (filter (λ r. not (has number r)) rows) ++ l)
    (none_of other new (all_other number other new apart of))
    ∙ append-nil (filter (has other) (filter (λ r. not (has number r)) rows))
    ∙ left_others (has other) (has number) (λ r here. not_both number other r apart here) rows

-- ---- the message

-- the rows of a message, which are to be set
pub record AreRowsFor (name : List ℕ) (m : LiveMessage) (sigs receivers values : List Row) : Type 0 where
  pub head : IsMsgRow name m (msg_values name m)
  pub placed : List (ℕ × Signal)
  pub are : map signal_in placed ≡ m.message.signals
  pub sigs_each : AreShown (IsSigRow name (dbc_number m.message.ident)) placed sigs
  pub sigs_ascend : IsStrictlySortedBy sigs_order sigs
  pub receivers_each : AreShown (IsReceiverRow name (dbc_number m.message.ident)) (parts_of receivers_in placed)
      receivers
  pub receivers_ascend : IsStrictlySortedBy receivers_order receivers
  pub values_each : AreShown (IsSigValueRow name (dbc_number m.message.ident)) (parts_of values_in placed) values
  pub values_ascend : IsStrictlySortedBy sigvalues_order values

abbrev pub with_rows_for : List ℕ → LiveMessage → List Row → List Row → List Row → LiveRows → LiveRows
with_rows_for name m sigs receivers values rows = record {
  msg = replaced (dbc_number m.message.ident) (msg_values name m ∷ []) rows.msg;
  sig = replaced (dbc_number m.message.ident) sigs rows.sig;
  receiver = replaced (dbc_number m.message.ident) receivers rows.receiver;
  sigvalue = replaced (dbc_number m.message.ident) values rows.sigvalue;
}

pub of_each : {A : Type 0} (R : A → Row → Type 0) (number : ℕ)
    → ((a : A) (x : Row) → R a x → column x 1 ≡ Int (pos number)) → (items : List A) (rows : List Row)
    → AreShown R items rows → AreOf number rows
of_each R number is [] [] shown = tt
of_each R number is [] (r ∷ rows) shown = absurd shown
of_each R number is (a ∷ items) [] shown = absurd shown
of_each R number is (a ∷ items) (r ∷ rows) shown = (is a r shown.0, of_each R number is items rows shown.1)

listed_alone : {A : Type 0} {order : Row → Row → Ordering} (R : A → Row → Type 0) (items : List A) (rows : List Row)
    → IsStrictlySortedBy order rows → AreShown R items rows → AreListed order R rows items
listed_alone R items rows sorted shown =
    record { found = rows; same = IsPermutation-refl rows; ascending = sorted; each = shown }

-- live messages whose rows are in the order of their numbers, which are in this column of theirs
module _ (R : LiveMessage → Row → Type 0) (number_is : (m : LiveMessage) (row : Row) → R m row
    → column row 1 ≡ Int (pos (dbc_number m.message.ident))) where
  above_all : (m : LiveMessage) (row : Row) (live : List LiveMessage) (rows : List Row)
      → column row 1 ≡ Int (pos (dbc_number m.message.ident)) → AllByRecursion (λ z. msgs_order row z ≡ Less) rows
      → AreShown R live rows → AllByRecursion (λ o. by_number m o ≡ Less) live
  above_all m row [] rows is below shown = tt
  above_all m row (o ∷ live) [] is below shown = absurd shown
  above_all m row (o ∷ live) (r ∷ rows) is below shown =
      let n = dbc_number o.message.ident in (
        sym (int_test (dbc_number m.message.ident) n) ∙ ap (λ v. value_cmp v (Int (pos n))) (sym is)
            ∙ ap (value_cmp (column row 1)) (sym (number_is o r shown.0)) ∙ below.0,
        above_all m row live rows is below.1 shown.1,
      )

  pub ascend_by_rows : (live : List LiveMessage) (rows : List Row) → IsStrictlySortedBy msgs_order rows
      → AreShown R live rows → IsStrictlySortedBy by_number live
  unfolding IsStrictlySortedBy
  ascend_by_rows [] rows sorted shown = tt
  ascend_by_rows (m ∷ live) [] sorted shown = absurd shown
  ascend_by_rows (m ∷ live) (r ∷ rows) sorted shown =
      (above_all m r live rows (number_is m r shown.0) sorted.0 shown.1, ascend_by_rows live rows sorted.1 shown.1)

module _ (name : List ℕ) where
  abbrev number_of : LiveMessage → ℕ
  number_of m = dbc_number m.message.ident

  number_is : (m : LiveMessage) (row : Row) → IsMsgRow name m row → column row 1 ≡ Int (pos (number_of m))
  number_is m row r = ap (λ x. column x 1) r.row_is

  -- the live messages are in the order of their numbers
  pub live_ascends : (live : List LiveMessage) (rows : List Row) → IsStrictlySortedBy msgs_order rows
      → AreShown (IsMsgRow name) live rows → IsStrictlySortedBy by_number live
  live_ascends = ascend_by_rows (IsMsgRow name) number_is

  pub same_rows : (number : ℕ) (rows rows2 : LiveRows) (signals : List Signal)
      → numbered_rows number rows2.sig ≡ numbered_rows number rows.sig
      → numbered_rows number rows2.receiver ≡ numbered_rows number rows.receiver
      → numbered_rows number rows2.sigvalue ≡ numbered_rows number rows.sigvalue
      → AreSignalsOf name number rows signals → AreSignalsOf name number rows2 signals
  same_rows number rows rows2 signals a b d h = record {
    placed = h.placed;
    are = h.are;
    sigs = subst (λ l. AreListed sigs_order (IsSigRow name number) l h.placed) (sym a) h.sigs;
    receivers = subst (λ l. AreListed receivers_order (IsReceiverRow name number) l (parts_of receivers_in h.placed))
        (sym b) h.receivers;
    values = subst (λ l. AreListed sigvalues_order (IsSigValueRow name number) l (parts_of values_in h.placed)) (sym d)
        h.values;
  }

  module _ (m : LiveMessage) (sigs receivers values : List Row) (new : AreRowsFor name m sigs receivers values)
      (rows : LiveRows) (live : List LiveMessage)
      (h : AreLiveRows name rows live) where
    abbrev after : LiveRows
    after = with_rows_for name m sigs receivers values rows

    of_sigs : AreOf (dbc_number m.message.ident) sigs
    of_sigs = of_each (IsSigRow name (dbc_number m.message.ident)) (dbc_number m.message.ident)
        (λ p x r. ap (λ y. column y 1) r.row_is) new.placed sigs new.sigs_each

    of_receivers : AreOf (dbc_number m.message.ident) receivers
    of_receivers = of_each (IsReceiverRow name (dbc_number m.message.ident)) (dbc_number m.message.ident)
        (λ p x r. ap (λ y. column y 1) r.row_is) (parts_of receivers_in new.placed)
        receivers new.receivers_each

    of_values : AreOf (dbc_number m.message.ident) values
    of_values = of_each (IsSigValueRow name (dbc_number m.message.ident)) (dbc_number m.message.ident)
        (λ p x r. ap (λ y. column y 1) r.row_is) (parts_of values_in new.placed)
        values new.values_each

    own_signals : AreSignalsOf name (dbc_number m.message.ident) after m.message.signals
    own_signals = record {
      placed = new.placed;
      are = new.are;
      sigs = subst (λ l. AreListed sigs_order (IsSigRow name (dbc_number m.message.ident)) l new.placed)
          (sym (own_replaced (dbc_number m.message.ident) sigs rows.sig of_sigs))
          (listed_alone (IsSigRow name (dbc_number m.message.ident)) new.placed sigs new.sigs_ascend new.sigs_each);
      receivers = subst (λ l. AreListed receivers_order (IsReceiverRow name (dbc_number m.message.ident)) l
          (parts_of receivers_in new.placed))
          (sym (own_replaced (dbc_number m.message.ident) receivers rows.receiver of_receivers))
          (listed_alone (IsReceiverRow name (dbc_number m.message.ident)) (parts_of receivers_in new.placed) receivers
          new.receivers_ascend new.receivers_each);
      values = subst (λ l. AreListed sigvalues_order (IsSigValueRow name (dbc_number m.message.ident)) l
          (parts_of values_in new.placed))
          (sym (own_replaced (dbc_number m.message.ident) values rows.sigvalue of_values))
          (listed_alone (IsSigValueRow name (dbc_number m.message.ident)) (parts_of values_in new.placed) values
          new.values_ascend new.values_each);
    }

    other_signals : (number : ℕ) (signals : List Signal) → ((dbc_number m.message.ident) ≡ number → ⊥)
        → AreSignalsOf name number rows signals → AreSignalsOf name number after signals
    other_signals number signals apart =
        same_rows number rows after signals
        (other_replaced (dbc_number m.message.ident) number sigs rows.sig apart of_sigs)
        (other_replaced (dbc_number m.message.ident) number receivers rows.receiver apart of_receivers)
        (other_replaced (dbc_number m.message.ident) number values rows.sigvalue apart of_values)

    abbrev signals_in : Option LiveMessage → List Signal
    signals_in found = elim found [ None ↦ [] | Some o ↦ o.message.signals ]

    signals_after : (number : ℕ) → AreSignalsOf name number after (signals_numbered (put by_number m live) number)
    signals_after number =
        subst (λ o. AreSignalsOf name number after (signals_in o))
        (sym (put_finds number_of m live number
        (live_ascends live h.messages.found h.messages.ascending h.messages.each)))
        (by_test (number_of m == number) refl)
      where
        by_test : (b : Bool) → (number_of m == number) ≡ b
            → AreSignalsOf name number after (signals_in (cond b (Some m) (find (λ o. number_of o == number) live)))
        by_test true is = subst (λ n. AreSignalsOf name n after m.message.signals) (eqb-true (number_of m) number is)
            own_signals
        by_test false is = other_signals number (signals_numbered live number)
            (λ same. false≢true (sym is ∙ eq-eqb (number_of m) number same)) (h.signals number)

    pub sets_live : AreLiveRows name after (put by_number m live)
    sets_live = record {
      messages = set_listed msgs_total by_number m (msg_values name m) rows.msg live new.head
          (λ other row shown. subst (λ r. by_number m other ≡ msgs_order (msg_values name m) r) (sym shown.row_is)
          (number_order (number_of m) (number_of other) (number_of m) (number_of other) refl refl))
          h.messages;
      numbered = record {
        sigs = replaced_numbered (number_of m) sigs rows.sig of_sigs h.numbered.sigs;
        receivers = replaced_numbered (number_of m) receivers rows.receiver of_receivers h.numbered.receivers;
        values = replaced_numbered (number_of m) values rows.sigvalue of_values h.numbered.values;
      };
      signals = signals_after;
    }

-- ---- a message that is removed

abbrev pub without : ℕ → List Row → List Row
without number rows = filter (λ r. not (has number r)) rows

abbrev pub without_rows_of : ℕ → LiveRows → LiveRows
without_rows_of number rows = record {
  msg = without number rows.msg;
  sig = without number rows.sig;
  receiver = without number rows.receiver;
  sigvalue = without number rows.sigvalue;
}

pub number_test : (m n : ℕ) → (m == n) ≡ is_eq (nat_cmp m n)
number_test m n = grind (arith, nat_tests)

gone_listed : {A : Type 0} {order : Row → Row → Ordering} (R : A → Row → Type 0) (number : ℕ) (rows : List Row)
    → AreListed order R (numbered_rows number (without number rows)) []
gone_listed {A} {order} R number rows =
    subst (λ l. AreListed order R l []) (sym (left_none (has number) rows)) none_listed

module _ (name : List ℕ) (rows : LiveRows) (live : List LiveMessage) (h : AreLiveRows name rows live) (number : ℕ) where
  abbrev pub stays : LiveMessage → Bool
  stays m = not (dbc_number m.message.ident == number)

  stays_in_row : (m : LiveMessage) (row : Row) → IsMsgRow name m row → stays m ≡ not (has number row)
  stays_in_row m row r =
      ap not (number_test (dbc_number m.message.ident) number
      ∙ ap is_eq (sym (int_test (dbc_number m.message.ident) number))
      ∙ ap (λ v. is_eq (value_cmp v (Int (pos number)))) (sym (number_is name m row r)))

  abbrev found_signals : Option LiveMessage → List Signal
  found_signals found = elim found [ None ↦ [] | Some o ↦ o.message.signals ]

  kept_apart : (other : ℕ) (table : List Row) → (other ≡ number → ⊥)
      → numbered_rows other (without number table) ≡ numbered_rows other table
  kept_apart other table apart =
      left_others (has other) (has number) (λ r here. not_both number other r (λ same. apart (sym same)) here) table

  signals_left : (other : ℕ)
      → AreSignalsOf name other (without_rows_of number rows) (signals_numbered (filter stays live) other)
  signals_left other =
      subst (λ o. AreSignalsOf name other (without_rows_of number rows) (found_signals o))
      (sym (find_without (λ (m : LiveMessage). dbc_number m.message.ident) live number other))
      (by_test (other == number) refl)
    where
      by_test : (b : Bool) → (other == number) ≡ b
          → AreSignalsOf name other (without_rows_of number rows)
          (found_signals (cond b None (find (λ m. dbc_number m.message.ident == other) live)))
      by_test true is = subst (λ n. AreSignalsOf name n (without_rows_of number rows) [])
          (sym (eqb-true other number is)) (record {
            placed = [];
            are = refl;
            sigs = gone_listed (IsSigRow name number) number rows.sig;
            receivers = gone_listed (IsReceiverRow name number) number rows.receiver;
            values = gone_listed (IsSigValueRow name number) number rows.sigvalue;
          })
      by_test false is =
          let apart : other ≡ number → ⊥ = λ same. false≢true (sym is ∙ eq-eqb other number same) in
          same_rows name other rows (without_rows_of number rows) (signals_numbered live other)
          (kept_apart other rows.sig apart) (kept_apart other rows.receiver apart)
          (kept_apart other rows.sigvalue apart) (h.signals other)

  pub removes_live : AreLiveRows name (without_rows_of number rows) (filter stays live)
  removes_live = record {
    messages = kept_listed stays (λ r. not (has number r)) stays_in_row rows.msg live h.messages;
    numbered = record {
      sigs = all-filter HasNumber (λ r. not (has number r)) rows.sig h.numbered.sigs;
      receivers = all-filter HasNumber (λ r. not (has number r)) rows.receiver h.numbered.receivers;
      values = all-filter HasNumber (λ r. not (has number r)) rows.sigvalue h.numbered.values;
    };
    signals = signals_left;
  }

-- ---- each live message's rows

all_map : {X : Type 0} (P Q : X → Type 0) → ((x : X) → P x → Q x) → (xs : List X) → AllByRecursion P xs
    → AllByRecursion Q xs
all_map P Q one [] all = tt
all_map P Q one (x ∷ xs) all = (one x all.0, all_map P Q one xs all.1)

abbrev numbered_in : List LiveMessage → LiveMessage → Option LiveMessage
numbered_in live m = find (λ (o : LiveMessage). dbc_number o.message.ident == dbc_number m.message.ident) live

numbers_apart : (m n : ℕ) → nat_cmp m n ≡ Less → (m == n) ≡ false
numbers_apart m n less = grind (arith, nat_tests, less)

behind_first : (m : LiveMessage) (live xs : List LiveMessage) → AllByRecursion (λ x. by_number m x ≡ Less) xs
    → AllByRecursion (λ x. numbered_in live x ≡ Some x) xs
    → AllByRecursion (λ x. numbered_in (m ∷ live) x ≡ Some x) xs
behind_first m live [] less all = tt
behind_first m live (x ∷ xs) less all = (
  ap (λ b. cond b (Some m) (numbered_in live x))
      (numbers_apart (dbc_number m.message.ident) (dbc_number x.message.ident) less.0) ∙ all.0,
  behind_first m live xs less.1 all.1,
)

-- by its number each is found
pub each_numbered : (live : List LiveMessage) → IsStrictlySortedBy by_number live
    → AllByRecursion (λ x. numbered_in live x ≡ Some x) live
unfolding IsStrictlySortedBy
each_numbered [] sorted = tt
each_numbered (m ∷ live) sorted = (
  ap (λ b. cond b (Some m) (numbered_in live m))
      (eq-eqb (dbc_number m.message.ident) (dbc_number m.message.ident) refl),
  behind_first m live live sorted.0 (each_numbered live sorted.1),
)

-- the rows of its number are its signals'
pub each_signals : (name : List ℕ) (rows : LiveRows) (live : List LiveMessage) → AreLiveRows name rows live
    → AllByRecursion (λ (m : LiveMessage). AreSignalsOf name (dbc_number m.message.ident) rows m.message.signals) live
each_signals name rows live h =
    all_map (λ (m : LiveMessage). numbered_in live m ≡ Some m)
    (λ (m : LiveMessage). AreSignalsOf name (dbc_number m.message.ident) rows m.message.signals)
    (λ m found. subst (λ o. AreSignalsOf name (dbc_number m.message.ident) rows
    (elim o [ None ↦ [] | Some x ↦ x.message.signals ])) found (h.signals (dbc_number m.message.ident)))
    live (each_numbered live (live_ascends name live h.messages.found h.messages.ascending h.messages.each))
