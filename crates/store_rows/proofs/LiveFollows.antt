-- What each change of live messages makes of rows, and what it does at its network, agree.
use Rattle.store_rows.proofs.Common.{◌≡◌, ◌∙◌, ℕ, Bool, true, false, cond, not, List, [], ◌∷◌, ◌++◌, append-nil, filter}
use Rattle.store_rows.proofs.Common.{find, Option, None, Some, refl, sym, ap, subst, ◌==◌, is_eq, bytes_eq, eq-eqb}
use Rattle.store_rows.proofs.Common.{eqb-true, false≢true, filter-append, Row, column, put, IsIdentifier, dbc_number}
use Rattle.store_rows.proofs.Common.{Ident, without_signal, Signal, by_number, SpnBook, SignalPath, LiveMessage, Net}
use Rattle.store_rows.proofs.Common.{NetAndBook, at_message, live_named, with_message, Tables, is_of_net, msgs_order}
use Rattle.office_rules.specs.Facts.{has_ident}
use Rattle.office_rules.specs.Retiring.{without_message}
use Rattle.office_rules.specs.Signals.{with_last_signal, with_signal_out}
use Rattle.store_rows.specs.Listed.{AreListed, AreShown}
use Rattle.store_rows.specs.Live.{AreLiveRows, AreSignalsOf, IsMsgRow, IsReceiverRow, IsSigValueRow, live_rows}
use Rattle.store_rows.specs.Live.{parts_of, signals_numbered}
use Rattle.store_rows.specs.LiveWritten.{IsSignalAdded, IsGone, IsLive, IsSignal, IsTakenOut, placed_from, with_live}
use Rattle.store_rows.specs.LiveWritten.{with_signal, without_live, without_places}
use Rattle.store_rows.specs.NetIn.{AreRestOf, RestRows, rest_of}
use Rattle.store_rows.specs.Follows.{Follows}
use Rattle.store_rows.proofs.Keys.{int_test, same_number}
use Rattle.store_rows.proofs.LiveChanges.{each_numbered, live_ascends, number_test, put_finds}
use Rattle.store_rows.proofs.LiveLast.{last_added}
use Rattle.store_rows.proofs.LiveOut.{places_alone, places_apart, places_elsewhere, places_numbered, signal_gone}
use Rattle.store_rows.proofs.LivePut.{found_all, put_shown}
use Rattle.store_rows.proofs.LiveSet.{AreNamed, all_with, four, message_removed, message_removed_elsewhere, message_set}
use Rattle.store_rows.proofs.LiveSet.{message_set_elsewhere, name_rows, named_each, names_show, other_rows, sig_rows}
use Rattle.store_rows.proofs.LiveSet.{tables_are, text_rows, texts_show}
use Rattle.store_rows.proofs.PutTogether.{receivers_in, values_in}

-- the network, where it is there, with the book
abbrev pub at_net : Net → SpnBook → NetAndBook
at_net net book = record { net = Some net; book = book }

-- the other rows of a network with other live messages
pub rest_with : (name : List ℕ) (rows : RestRows) (net : Net) (live : List LiveMessage) → AreRestOf name rows net
    → AreRestOf name rows (record net { live = live })
rest_with name rows net live at =
    record {
      named = at.named;
      head = at.head;
      blocks = at.blocks;
      held = at.held;
      approvals = at.approvals;
      releases =
          at.releases;
    }

-- ---- whole messages

pub sets_message : (name : List ℕ) (m : LiveMessage) (net : Net) (book : SpnBook) (t : Tables) → IsLive m
    → Follows name t (with_live name m t) (at_net net book) (at_net (with_message net m) book)
sets_message name m net book t is =
    let same = tables_are name m is t in
    let live_after = put by_number m net.live in
    subst (λ u. Follows name t u (at_net net book) (at_net (with_message net m) book)) (sym same) (record {
      here = λ at. record {
        rest = rest_with name (rest_of name t) net live_after at.rest;
        live = subst (λ u. AreLiveRows name (live_rows name u) live_after) same
            (message_set name m is t net.live at.live);
      };
      book = λ at. record { blocks = at.blocks; used = at.used };
      others = λ other apart. record {
        rest = refl;
        live = ap (live_rows other) (sym same)
            ∙ message_set_elsewhere name m is t other apart;
      };
      replies = refl;
      parts = refl;
      profile = refl;
      bodies = refl;
    })

-- identifiers of live messages differ by their numbers
by_ident : (name : List ℕ) (i : Ident) → IsIdentifier i → (live : List LiveMessage) (rows : List Row)
    → AreShown (IsMsgRow name) live rows
    → filter (λ m. not (dbc_number m.message.ident == dbc_number i)) live ≡ filter (λ m. not (has_ident i m)) live
by_ident name i is [] rows shown = refl
by_ident name i is (m ∷ live) [] shown = absurd shown
by_ident name i is (m ∷ live) (r ∷ rows) shown =
    let others : LiveMessage → Bool = λ o. not (dbc_number o.message.ident == dbc_number i) in
    let alike : (dbc_number m.message.ident == dbc_number i) ≡ has_ident i m =
    number_test (dbc_number m.message.ident) (dbc_number i)
    ∙ ap is_eq (sym (int_test (dbc_number m.message.ident) (dbc_number i)))
    ∙ sym (same_number m.message.ident i shown.0.identifier is) in
    ap (λ b. cond (not b) (m ∷ filter others live) (filter others live)) alike
    ∙ ap (λ (l : List LiveMessage). cond (not (has_ident i m)) (m ∷ l) l) (by_ident name i is live rows shown.1)

pub removes_message : (name : List ℕ) (i : Ident) (net : Net) (book : SpnBook) (t : Tables) → IsIdentifier i
    → Follows name t (without_live name (dbc_number i) t) (at_net net book) (at_net (without_message net i) book)
removes_message name i net book t is =
    let after = without_live name (dbc_number i) t in
    record {
      here = λ at. record {
        rest = rest_with name (rest_of name t) net (filter (λ m. not (has_ident i m)) net.live) at.rest;
        live = subst (AreLiveRows name (live_rows name after))
            (by_ident name i is net.live at.live.messages.found at.live.messages.each)
            (message_removed name (dbc_number i) t net.live at.live);
      };
      book = λ at. record { blocks = at.blocks; used = at.used };
      others = λ other apart. record {
        rest = refl;
        live =
            message_removed_elsewhere name (dbc_number i) t other apart;
      };
      replies = refl;
      parts = refl;
      profile = refl;
      bodies = refl;
    }

-- ---- one signal

-- a live message that is found by its name is found by its number
pub by_its_number : (name message : List ℕ) (t : Tables) (live : List LiveMessage) (m : LiveMessage)
    → AreLiveRows name (live_rows name t) live → live_named live message ≡ Some m
    → find (λ (o : LiveMessage). dbc_number o.message.ident == dbc_number m.message.ident) live ≡ Some m
by_its_number name message t live m h there =
    found_all (λ x. find (λ (o : LiveMessage). dbc_number o.message.ident == dbc_number x.message.ident) live ≡ Some x)
    (λ o. bytes_eq o.message.name message) m live
    (each_numbered live (live_ascends name live h.messages.found h.messages.ascending h.messages.each)) there

appended_elsewhere : (net other : List ℕ) (new table : List Row) → bytes_eq net other ≡ false → AreNamed net new
    → filter (is_of_net other) (table ++ new) ≡ filter (is_of_net other) table
appended_elsewhere net other new table apart named =
    filter-append (is_of_net other) table new
    ∙ ap (λ l. filter (is_of_net other) table ++ l) (other_rows net other new apart named)
    ∙ append-nil (filter (is_of_net other) table)

signal_added_elsewhere : (net : List ℕ) (n k : ℕ) (s : Signal) (known : IsSignal s) (t : Tables) (other : List ℕ)
    → bytes_eq net other ≡ false
    → live_rows other (with_signal net n k s t) ≡ live_rows other t
signal_added_elsewhere net n k s known t other apart =
    let p = placed_from k (s ∷ []) in
    ap (live_rows other) (all_with net n p t)
    ∙ four (filter (is_of_net other) t.msg) (filter (is_of_net other) t.msg)
    (filter (is_of_net other) (t.sig ++ sig_rows net n p)) (filter (is_of_net other) t.sig)
    (filter (is_of_net other) (t.receiver ++ name_rows net n p)) (filter (is_of_net other) t.receiver)
    (filter (is_of_net other) (t.sigvalue ++ text_rows net n p)) (filter (is_of_net other) t.sigvalue)
    refl
    (appended_elsewhere net other (sig_rows net n p) t.sig apart (refl, tt))
    (appended_elsewhere net other (name_rows net n p) t.receiver apart
    (named_each (IsReceiverRow net n) net (λ q x r. ap (λ (y : Row). column y 0) r.row_is) (parts_of receivers_in p)
    (name_rows net n p) (names_show net n p)))
    (appended_elsewhere net other (text_rows net n p) t.sigvalue apart
    (named_each (IsSigValueRow net n) net (λ q x r. ap (λ (y : Row). column y 0) r.row_is) (parts_of values_in p)
    (text_rows net n p) (texts_show net n k (s ∷ []) (known, tt))))

-- what becomes of the live message that is found
pub at_found : (message : List ℕ) (f : LiveMessage → LiveMessage) (net : Net) (m : LiveMessage)
    → live_named net.live message ≡ Some m → with_message net (f m) ≡ at_message message f net
at_found message f net m there =
    ap (λ (o : Option LiveMessage). elim o [ None ↦ net | Some x ↦ with_message net (f x) ]) (sym there)

pub adds_signal : (name message : List ℕ) (s : Signal) (net : Net) (book : SpnBook) (t t2 : Tables)
    → IsSignalAdded name message s net.live t t2
    → Follows name t t2 (at_net net book) (at_net (at_message message (λ m. with_last_signal m s) net) book)
adds_signal name message s net book t t2 w =
    let n = dbc_number w.m.message.ident in
    let after = with_signal name n w.place s t in
    subst (λ u. Follows name t u (at_net net book) (at_net (at_message message (λ m. with_last_signal m s) net) book))
    (sym w.tables_are)
    (subst (λ (net2 : Net). Follows name t after (at_net net book) (at_net net2 book))
    (at_found message (λ m. with_last_signal m s) net w.m w.there) (record {
      here = λ at. record {
        rest = rest_with name (rest_of name t) net (put by_number (with_last_signal w.m s) net.live) at.rest;
        live = last_added name w.place s w.known t net.live w.m at.live
            (by_its_number name message t net.live w.m at.live w.there)
            (w.after (signals_numbered net.live n) (at.live.signals n));
      };
      book = λ at. record { blocks = at.blocks; used = at.used };
      others = λ other apart. record {
        rest = refl;
        live =
            signal_added_elsewhere name n w.place s w.known t other apart;
      };
      replies = refl;
      parts = refl;
      profile = refl;
      bodies = refl;
    }))

abbrev signals_in : Option LiveMessage → List Signal
signals_in found = elim found [ None ↦ [] | Some o ↦ o.message.signals ]

-- the message without the signal is among the live ones
module _ (name : List ℕ) (m : LiveMessage) (signal : List ℕ) (live : List LiveMessage) (t t2 : Tables)
    (h : AreLiveRows name (live_rows name t) live)
    (found : find (λ (o : LiveMessage). dbc_number o.message.ident == dbc_number m.message.ident) live ≡ Some m)
    (gone : IsGone name (dbc_number m.message.ident) signal t t2) where
  abbrev n : ℕ
  n = dbc_number m.message.ident

  abbrev left : Tables
  left = without_places name n gone.places t

  abbrev out : LiveMessage
  out = with_signal_out m signal

  own : AreSignalsOf name n (live_rows name left) out.message.signals
  own = subst (λ o. AreSignalsOf name n (live_rows name left) (without_signal (signals_in o) signal)) found
      (signal_gone name n signal gone.places t (signals_numbered live n) (h.signals n)
      (gone.own (signals_numbered live n) (h.signals n)))

  each : (other : ℕ) → AreSignalsOf name other (live_rows name left) (signals_numbered (put by_number out live) other)
  each other =
      subst (λ o. AreSignalsOf name other (live_rows name left) (signals_in o))
      (sym (put_finds (λ (o : LiveMessage). dbc_number o.message.ident) out live other
      (live_ascends name live h.messages.found h.messages.ascending h.messages.each)))
      (by_test (n == other) refl)
    where
      by_test : (b : Bool) → (n == other) ≡ b
          → AreSignalsOf name other (live_rows name left)
          (signals_in (cond b (Some out) (find (λ (o : LiveMessage). dbc_number o.message.ident == other) live)))
      by_test true is = subst (λ i. AreSignalsOf name i (live_rows name left) out.message.signals) (eqb-true n other is)
          own
      by_test false is = places_apart name n gone.places t other (signals_numbered live other)
          (λ same. false≢true (sym is ∙ eq-eqb n other same)) (h.signals other)

  signal_out : AreLiveRows name (live_rows name left) (put by_number out live)
  signal_out = record {
    messages = subst (λ rows. AreListed msgs_order (IsMsgRow name) rows (put by_number out live))
        (ap (λ (u : Tables). filter (is_of_net name) u.msg) (sym (places_alone name n gone.places t))) (record {
          found = h.messages.found;
          same = h.messages.same;
          ascending = h.messages.ascending;
          each = put_shown name m out refl (λ row r. record { row_is = r.row_is; identifier = r.identifier; sent = r.sent })
              live h.messages.found
              (live_ascends name live h.messages.found h.messages.ascending h.messages.each) found h.messages.each;
        });
    numbered = places_numbered name n gone.places t h.numbered;
    signals = each;
  }

-- the tables that have no signals, after places were removed
left_alone : (name : List ℕ) (n : ℕ) (places : List ℕ) (t : Tables) → without_places name n places t
    ≡ (record t {
      sig = (without_places name n places t).sig;
      receiver = (without_places name n places t).receiver;
      sigvalue = (without_places name n places t).sigvalue;
    })
left_alone name n places t =
    let u = without_places name n places t in
    ap (λ (v : Tables). record v { sig = u.sig; receiver = u.receiver; sigvalue = u.sigvalue })
    (places_alone name n places t)

gone_follows : (name : List ℕ) (path : SignalPath) (net : Net) (book : SpnBook) (t t2 : Tables) (m : LiveMessage)
    → live_named net.live path.message ≡ Some m
    → IsGone name (dbc_number m.message.ident) path.signal t t2
    → Follows name t t2 (at_net net book)
    (at_net (at_message path.message (λ m. with_signal_out m path.signal) net) book)
gone_follows name path net book t t2 m there gone =
    let n = dbc_number m.message.ident in
    let left = without_places name n gone.places t in
    let only = left_alone name n gone.places t in
    subst (λ u. Follows name t u (at_net net book)
    (at_net (at_message path.message (λ m. with_signal_out m path.signal) net) book)) (sym gone.tables_are)
    (subst (λ (net2 : Net). Follows name t left (at_net net book) (at_net net2 book))
    (at_found path.message (λ m. with_signal_out m path.signal) net m there)
    (subst (λ u. Follows name t u (at_net net book) (at_net (with_message net (with_signal_out m path.signal)) book))
    (sym only) (record {
      here = λ at. record {
        rest = rest_with name (rest_of name t) net (put by_number (with_signal_out m path.signal) net.live) at.rest;
        live = subst (λ u. AreLiveRows name (live_rows name u) (put by_number (with_signal_out m path.signal) net.live))
            only
            (signal_out name m path.signal net.live t t2 at.live
            (by_its_number name path.message t net.live m at.live there) gone);
      };
      book = λ at. record { blocks = at.blocks; used = at.used };
      others = λ other apart. record {
        rest = refl;
        live = ap (live_rows other) (sym only)
            ∙ places_elsewhere name n gone.places t other apart;
      };
      replies = refl;
      parts = refl;
      profile = refl;
      bodies = refl;
    })))

-- the message that is found loses the signal
abbrev pub LosesSignal : List ℕ → List ℕ → Tables → Tables → Option LiveMessage → Type 0
LosesSignal name signal t t2 found =
    elim found [ None ↦ t2 ≡ t | Some m ↦ IsGone name (dbc_number m.message.ident) signal t t2 ]

pub takes_signal_out : (name : List ℕ) (path : SignalPath) (net : Net) (book : SpnBook) (t t2 : Tables)
    → IsTakenOut name path net.live t t2
    → Follows name t t2 (at_net net book)
    (at_net (at_message path.message (λ m. with_signal_out m path.signal) net) book)
takes_signal_out name path net book t t2 w = by_case (live_named net.live path.message) refl w
  where
    after : Option LiveMessage → Net
    after found = elim found [ None ↦ net | Some x ↦ with_message net (with_signal_out x path.signal) ]

    by_case : (found : Option LiveMessage) → live_named net.live path.message ≡ found
        → LosesSignal name path.signal t t2 found
        → Follows name t t2 (at_net net book)
        (at_net (at_message path.message (λ m. with_signal_out m path.signal) net) book)
    by_case None there same =
        let nothing : net ≡ at_message path.message (λ m. with_signal_out m path.signal) net = ap after (sym there) in
        subst (λ u. Follows name t u (at_net net book)
        (at_net (at_message path.message (λ m. with_signal_out m path.signal) net) book)) (sym same)
        (subst (λ (net2 : Net). Follows name t t (at_net net book) (at_net net2 book)) nothing
        (record {
          here = λ at. at;
          book = λ at. at;
          others = λ other apart. record { rest = refl; live = refl };
          replies = refl;
          parts = refl;
          profile = refl;
          bodies = refl;
        }))
    by_case (Some m) there gone = gone_follows name path net book t t2 m there gone
