-- What the queries on the rows of live messages show.
use Rattle.store_rows.proofs.Common.{◌≡◌, ◌∙◌, ℕ, ◌<◌, pos, Bool, false, cond, ◌&&◌, List, [], ◌∷◌, map, filter, find}
use Rattle.store_rows.proofs.Common.{Option, None, Some, refl, sym, ap, subst, arith, inl, inr, ◌==◌, AllByRecursion}
use Rattle.store_rows.proofs.Common.{bytes_eq, nat_cmp, IsTotalOrder, on_total, then_total, Less, cases_Bool, eq-eqb}
use Rattle.store_rows.proofs.Common.{eqb-true, nat_tests, Int, Row, column, value_cmp, value_cmp_total, dbc_number}
use Rattle.store_rows.proofs.Common.{Signal, ValueText, LiveMessage, live_named, IsSelected, by_column, has_number}
use Rattle.store_rows.proofs.Common.{has_text, Tables, has_net_and_name, has_net_and_number, is_of_net, msg_named_order}
use Rattle.store_rows.proofs.Common.{msg_named_shown, msgs_order, receivers_order, sigs_order, sigvalues_order}
use Rattle.std.specs.Prelude.{slice_get}
use Rattle.std.specs.List.Sorted.{IsStrictlySortedBy}
use Rattle.store_statements.specs.Rows.{has_name_of}
use Rattle.store_statements.specs.Shown.{msgs_shown, receivers_shown, sigs_shown, sigvalues_shown}
use Rattle.store_rows.specs.Listed.{AreListed, AreShown}
use Rattle.store_rows.specs.Live.{AreLiveRows, AreSignalsOf, IsMsgRow, IsReceiverRow, IsSigRow, IsSigValueRow}
use Rattle.store_rows.specs.Live.{live_rows, numbered_rows, parts_of}
use Rattle.store_rows.specs.LiveWritten.{placed_named}
use Rattle.store_rows.specs.SignalShowing.{PlacesAscend, ShowsLive, ShowsPart, ShowsPlaced, ShowsReceiver}
use Rattle.store_rows.specs.SignalShowing.{ShowsValueText}
use Rattle.store_rows.proofs.Keys.{int_test, text_test}
use Rattle.store_rows.proofs.Listing.{kept_listed}
use Rattle.store_rows.proofs.PutTogether.{receivers_in, signal_in, values_in}
use Rattle.store_rows.proofs.Reading.{both_tests, selected_shown}

-- ---- orders

column_total : (at : ℕ) → IsTotalOrder (by_column at)
column_total at = on_total (λ (row : Row). column row at) value_cmp_total

pub msgs_total : IsTotalOrder msgs_order
msgs_total = column_total 1

pub sigs_total : IsTotalOrder sigs_order
sigs_total = column_total 2

pub receivers_total : IsTotalOrder receivers_order
receivers_total = then_total (column_total 2) (column_total 3)

pub sigvalues_total : IsTotalOrder sigvalues_order
sigvalues_total = then_total (column_total 2) (column_total 3)

less_numbers : (m n : ℕ) → value_cmp (Int (pos m)) (Int (pos n)) ≡ Less → m < n
less_numbers m n less = let e : nat_cmp m n ≡ Less = sym (int_test m n) ∙ less in grind (arith, nat_tests, e)

-- ---- a message's signals

module _ (name : List ℕ) (number : ℕ) where
  sig_shown : (p : ℕ × Signal) (row : Row) → IsSigRow name number p row → ShowsPlaced p (sigs_shown row)
  sig_shown p row r = subst (λ x. ShowsPlaced p (sigs_shown x)) (sym r.row_is) (record {
    place = refl;
    signal = record {
      named = refl;
      layout = record { start = refl; size = refl; motorola = refl };
      signed = refl;
      mux = refl;
      factor = refl;
      shift = refl;
      least = refl;
      most = refl;
      unit = refl;
      comment = refl;
      spn = refl;
      label = refl;
      decimals = r.decimals;
    };
  })

  receiver_shown : (p : ℕ × List ℕ) (row : Row) → IsReceiverRow name number p row
      → ShowsPart ShowsReceiver p (receivers_shown row)
  receiver_shown p row r = subst (λ x. ShowsPart ShowsReceiver p (receivers_shown x)) (sym r.row_is)
      (record { place = refl; part = refl })

  value_shown : (p : ℕ × ValueText) (row : Row) → IsSigValueRow name number p row
      → ShowsPart ShowsValueText p (sigvalues_shown row)
  value_shown p row r =
      subst (λ x. ShowsPart ShowsValueText p (sigvalues_shown x)) (sym r.row_is)
      (record { place = refl; part = record { value = refl; words = refl; decimal = r.decimal } })

  -- ---- their places ascend

  pub place_of : (p : ℕ × Signal) (row : Row) → IsSigRow name number p row → column row 2 ≡ Int (pos p.0)
  place_of p row r = ap (λ x. column x 2) r.row_is

  above : (p : ℕ × Signal) (row : Row) (placed : List (ℕ × Signal)) (rows : List Row) → column row 2 ≡ Int (pos p.0)
      → AllByRecursion (λ z. sigs_order row z ≡ Less) rows
      → AreShown (IsSigRow name number) placed rows → AllByRecursion (λ q. p.0 < q.0) placed
  above p row [] rows is below shown = tt
  above p row (q ∷ placed) [] is below shown = absurd shown
  above p row (q ∷ placed) (r ∷ rows) is below shown = (
    less_numbers p.0 q.0 (ap (λ v. value_cmp v (Int (pos q.0))) (sym is)
        ∙ ap (value_cmp (column row 2)) (sym (place_of q r shown.0)) ∙ below.0),
    above p row placed rows is below.1 shown.1,
  )

  ascend : (placed : List (ℕ × Signal)) (rows : List Row) → IsStrictlySortedBy sigs_order rows
      → AreShown (IsSigRow name number) placed rows → PlacesAscend placed
  unfolding IsStrictlySortedBy
  ascend [] rows sorted shown = tt
  ascend (p ∷ placed) [] sorted shown = absurd shown
  ascend (p ∷ placed) (r ∷ rows) sorted shown =
      (above p r placed rows (place_of p r shown.0) sorted.0 shown.1, ascend placed rows sorted.1 shown.1)

  pub of_number : (table : List Row) → numbered_rows number (filter (is_of_net name) table)
      ≡ filter (has_net_and_number name number) table
  of_number table = both_tests (is_of_net name) (has_number 1 number) table

  -- the places ascend, and the query on the signals alone shows each at its place
  pub places_ascend : (t : Tables) (signals : List Signal) (h : AreSignalsOf name number (live_rows name t) signals)
      → PlacesAscend h.placed
  places_ascend t signals h = ascend h.placed h.sigs.found h.sigs.ascending h.sigs.each

  pub sigs_are_shown : (t : Tables) (signals : List Signal) (sigs : List Row)
      (h : AreSignalsOf name number (live_rows name t) signals)
      → IsSelected (has_net_and_number name number) sigs_shown sigs_order t.sig sigs
      → AreShown ShowsPlaced h.placed sigs
  sigs_are_shown t signals sigs h sel =
      selected_shown sigs_total (IsSigRow name number) ShowsPlaced (has_net_and_number name number) sigs_shown t.sig
      sigs h.placed sig_shown
      (subst (λ l. AreListed sigs_order (IsSigRow name number) l h.placed) (of_number t.sig) h.sigs) sel

  sig_named : (signal : List ℕ) (q : ℕ × Signal) (row : Row) → IsSigRow name number q row
      → bytes_eq q.1.name signal ≡ has_text 3 signal row
  sig_named signal q row r = sym (text_test q.1.name signal) ∙ ap (λ x. has_text 3 signal x) (sym r.row_is)

  of_name : (signal : List ℕ) (table : List Row)
      → filter (has_text 3 signal) (numbered_rows number (filter (is_of_net name) table))
      ≡ filter (has_name_of name number signal) table
  of_name signal table =
      both_tests (has_number 1 number) (has_text 3 signal) (filter (is_of_net name) table)
      ∙ both_tests (is_of_net name) (λ r. has_number 1 number r && has_text 3 signal r) table

  -- and the one on those of a name shows these
  pub named_sigs_are_shown : (signal : List ℕ) (t : Tables) (signals : List Signal) (sigs : List Row)
      (h : AreSignalsOf name number (live_rows name t) signals)
      → IsSelected (has_name_of name number signal) sigs_shown sigs_order t.sig sigs
      → AreShown ShowsPlaced (placed_named signal h.placed) sigs
  named_sigs_are_shown signal t signals sigs h sel =
      selected_shown sigs_total (IsSigRow name number) ShowsPlaced (has_name_of name number signal) sigs_shown t.sig
      sigs (placed_named signal h.placed) sig_shown
      (subst (λ l. AreListed sigs_order (IsSigRow name number) l (placed_named signal h.placed)) (of_name signal t.sig)
      (kept_listed (λ q. bytes_eq q.1.name signal) (has_text 3 signal) (sig_named signal)
      (numbered_rows number (filter (is_of_net name) t.sig)) h.placed h.sigs)) sel

  -- what the three queries on the message show
  pub record AreShownFor (t : Tables) (signals : List Signal) (sigs receivers values : List Row) : Type 0 where
    pub placed : List (ℕ × Signal)
    pub are : map signal_in placed ≡ signals
    pub ascend : PlacesAscend placed
    pub sigs_shown_are : AreShown ShowsPlaced placed sigs
    pub receivers_shown_are : AreShown (ShowsPart ShowsReceiver) (parts_of receivers_in placed) receivers
    pub values_shown_are : AreShown (ShowsPart ShowsValueText) (parts_of values_in placed) values

  pub signals_are_shown : (t : Tables) (signals : List Signal) (sigs receivers values : List Row)
      → AreSignalsOf name number (live_rows name t) signals
      → IsSelected (has_net_and_number name number) sigs_shown sigs_order t.sig sigs
      → IsSelected (has_net_and_number name number) receivers_shown receivers_order t.receiver receivers
      → IsSelected (has_net_and_number name number) sigvalues_shown sigvalues_order t.sigvalue values
      → AreShownFor t signals sigs receivers values
  signals_are_shown t signals sigs receivers values h a b d = record {
    placed = h.placed;
    are = h.are;
    ascend = places_ascend t signals h;
    sigs_shown_are = sigs_are_shown t signals sigs h a;
    receivers_shown_are = selected_shown receivers_total (IsReceiverRow name number) (ShowsPart ShowsReceiver)
        (has_net_and_number name number) receivers_shown t.receiver receivers
        (parts_of receivers_in h.placed) receiver_shown
        (subst (λ l. AreListed receivers_order (IsReceiverRow name number) l (parts_of receivers_in h.placed))
        (of_number t.receiver) h.receivers) b;
    values_shown_are = selected_shown sigvalues_total (IsSigValueRow name number) (ShowsPart ShowsValueText)
        (has_net_and_number name number) sigvalues_shown t.sigvalue values
        (parts_of values_in h.placed) value_shown
        (subst (λ l. AreListed sigvalues_order (IsSigValueRow name number) l (parts_of values_in h.placed))
        (of_number t.sigvalue) h.values) d;
  }

-- ---- the message of a name

module _ (name : List ℕ) where
  live_shown : (m : LiveMessage) (row : Row) → IsMsgRow name m row → ShowsLive m (msg_named_shown row)
  live_shown m row r = subst (λ x. ShowsLive m (msg_named_shown x)) (sym r.row_is) (record {
    number = refl;
    named = refl;
    owner = refl;
    length = refl;
    sender = refl;
    comment = refl;
    identifier = r.identifier;
    sent = r.sent;
  })

  named_row : (message : List ℕ) (m : LiveMessage) (row : Row) → IsMsgRow name m row
      → bytes_eq m.message.name message ≡ has_text 2 message row
  named_row message m row r =
      sym (text_test m.message.name message) ∙ ap (λ x. has_text 2 message x) (sym r.row_is)

  abbrev is_named_as : List ℕ → LiveMessage → Bool
  is_named_as message m = bytes_eq m.message.name message

  -- the query shows the live messages of the name
  pub named_are_shown : (t : Tables) (live : List LiveMessage) (message : List ℕ) (rows : List Row)
      → AreLiveRows name (live_rows name t) live
      → IsSelected (has_net_and_name name message) msg_named_shown msg_named_order t.msg rows
      → AreShown ShowsLive (filter (is_named_as message) live) rows
  named_are_shown t live message rows h sel =
      selected_shown msgs_total (IsMsgRow name) ShowsLive (has_net_and_name name message) msg_named_shown t.msg rows
      (filter (is_named_as message) live) live_shown
      (subst (λ l. AreListed msgs_order (IsMsgRow name) l (filter (is_named_as message) live))
      (both_tests (is_of_net name) (has_text 2 message) t.msg)
      (kept_listed (is_named_as message) (has_text 2 message) (named_row message) (filter (is_of_net name) t.msg) live
      h.messages)) sel

  -- the query on all heads shows the live messages
  pub heads_are_shown : (t : Tables) (live : List LiveMessage) (rows : List Row)
      → AreLiveRows name (live_rows name t) live
      → IsSelected (is_of_net name) msgs_shown msgs_order t.msg rows → AreShown ShowsLive live rows
  heads_are_shown t live rows h sel = selected_shown msgs_total (IsMsgRow name) ShowsLive (is_of_net name) msgs_shown
      t.msg rows live live_shown h.messages sel

  -- ---- its number is its own

  abbrev number_of : LiveMessage → ℕ
  number_of m = dbc_number m.message.ident

  number_is : (m : LiveMessage) (row : Row) → IsMsgRow name m row → column row 1 ≡ Int (pos (number_of m))
  number_is m row r = ap (λ x. column x 1) r.row_is

  some_one : (x y : LiveMessage) → ◌≡◌ {A = Option LiveMessage} (Some x) (Some y) → x ≡ y
  some_one x y e = cc

  none_some : (x : LiveMessage) → ◌≡◌ {A = Option LiveMessage} None (Some x) → ⊥
  none_some x e = cc

  module _ (p : LiveMessage → Bool) (x : LiveMessage) where
    -- what is found after a row has a greater number
    behind : (n : ℕ) (row : Row) (live : List LiveMessage) (rows : List Row) → column row 1 ≡ Int (pos n)
        → AllByRecursion (λ z. msgs_order row z ≡ Less) rows
        → AreShown (IsMsgRow name) live rows → find p live ≡ Some x → n < number_of x
    behind n row [] rows is below shown found = absurd (none_some x found)
    behind n row (m ∷ live) [] is below shown found = absurd shown
    behind n row (m ∷ live) (r ∷ rows) is below shown found = elim (cases_Bool (p m)) [
      | inl hit ↦
          let same : m ≡ x = some_one m x (sym (ap (λ t. cond t (Some m) (find p live)) hit) ∙ found) in
          subst (λ y. n < number_of y) same
          (less_numbers n (number_of m)
          (ap (λ v. value_cmp v (Int (pos (number_of m)))) (sym is)
          ∙ ap (value_cmp (column row 1)) (sym (number_is m r shown.0)) ∙ below.0))
      | inr miss ↦ behind n row live rows is below.1 shown.1
          (sym (ap (λ t. cond t (Some m) (find p live)) miss) ∙ found)
    ]

    pub own_number : (live : List LiveMessage) (rows : List Row) → IsStrictlySortedBy msgs_order rows
        → AreShown (IsMsgRow name) live rows → find p live ≡ Some x
        → find (λ m. number_of m == number_of x) live ≡ Some x
    unfolding IsStrictlySortedBy
    own_number [] rows sorted shown found = absurd (none_some x found)
    own_number (m ∷ live) [] sorted shown found = absurd shown
    own_number (m ∷ live) (r ∷ rows) sorted shown found = elim (cases_Bool (p m)) [
      | inl hit ↦
          let same : m ≡ x = some_one m x (sym (ap (λ t. cond t (Some m) (find p live)) hit) ∙ found) in
          ap (λ t. cond t (Some m) (find (λ o. number_of o == number_of x) live))
          (eq-eqb (number_of m) (number_of x) (ap number_of same)) ∙ ap Some same
      | inr miss ↦
          let rest : find p live ≡ Some x = sym (ap (λ t. cond t (Some m) (find p live)) miss) ∙ found in
          let less : number_of m < number_of x =
          behind (number_of m) r live rows (number_is m r shown.0) sorted.0 shown.1 rest in
          let apart : (number_of m == number_of x) ≡ false = elim (cases_Bool (number_of m == number_of x)) [
            | inl same ↦ absurd (let e : number_of m ≡ number_of x = eqb-true (number_of m) (number_of x) same in
                omega (arith, e, less))
            | inr no_number ↦ no_number
          ] in
          ap (λ t. cond t (Some m) (find (λ o. number_of o == number_of x) live)) apart
          ∙ own_number live rows sorted.1 shown.1 rest
    ]

  -- the rows of its number are its signals'
  pub own_signals : (t : Tables) (live : List LiveMessage) (message : List ℕ) (x : LiveMessage)
      → AreLiveRows name (live_rows name t) live → live_named live message ≡ Some x
      → AreSignalsOf name (dbc_number x.message.ident) (live_rows name t) x.message.signals
  own_signals t live message x h found =
      let own = own_number (is_named_as message) x live h.messages.found h.messages.ascending h.messages.each found in
      subst (AreSignalsOf name (number_of x) (live_rows name t))
      (by_found (find (λ m. number_of m == number_of x) live) own) (h.signals (number_of x))
    where
      by_found : (o : Option LiveMessage) → o ≡ Some x
          → ◌≡◌ {A = List Signal} (elim o [ None ↦ [] | Some m ↦ m.message.signals ]) x.message.signals
      by_found None is = absurd (none_some x is)
      by_found (Some m) is = ap (λ (y : LiveMessage). y.message.signals) (some_one m x is)

-- what is found in a list is the first of those that pass
pub find_first : {X : Type 0} (p : X → Bool) (xs : List X) → find p xs ≡ slice_get (filter p xs) 0
find_first p [] = refl
find_first p (x ∷ xs) = elim (cases_Bool (p x)) [
  | inl hit ↦ ap (λ t. cond t (Some x) (find p xs)) hit
      ∙ sym (ap (λ t. slice_get (cond t (x ∷ filter p xs) (filter p xs)) 0) hit)
  | inr miss ↦ ap (λ t. cond t (Some x) (find p xs)) miss ∙ find_first p xs
      ∙ sym (ap (λ t. slice_get (cond t (x ∷ filter p xs) (filter p xs)) 0) miss)
]
