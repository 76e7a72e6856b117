-- What a change of the signals of a name makes of rows, and what it does at its network, agree.
use Rattle.store_rows.proofs.Common.{◌≡◌, ◌∙◌, ℕ, Bool, true, false, cond, List, [], find, Option, None, Some, refl}
use Rattle.store_rows.proofs.Common.{sym, ap, subst, ◌==◌, bytes_eq, eq-eqb, eqb-true, false≢true, Row, put, dbc_number}
use Rattle.store_rows.proofs.Common.{at_signal, Signal, ValueText, by_number, SpnBook, SignalPath, LiveMessage, Net}
use Rattle.store_rows.proofs.Common.{at_message, live_named, with_message, Tables}
use Rattle.office_rules.specs.Signals.{with_signals, with_spn, with_values}
use Rattle.store_rows.specs.Follows.{Follows}
use Rattle.store_rows.specs.Live.{AreLiveRows, AreSignalsOf, HaveNumbers, live_rows, signals_numbered}
use Rattle.store_rows.specs.LiveWritten.{AreTextsSet, HasSpn, HasTexts, IsSpnSet, placed_named, with_spns, with_texts}
use Rattle.store_rows.specs.NetIn.{rest_of}
use Rattle.store_rows.proofs.LiveChanges.{live_ascends, put_finds}
use Rattle.store_rows.proofs.LiveFollows.{at_found, at_net, by_its_number, rest_with}
use Rattle.store_rows.proofs.LiveNamed.{spns_apart, spns_elsewhere, spns_numbered, spns_set, texts_apart}
use Rattle.store_rows.proofs.LiveNamed.{texts_elsewhere, texts_numbered, texts_set}
use Rattle.store_rows.proofs.LivePut.{put_shown}

abbrev signals_in : Option LiveMessage → List Signal
signals_in found = elim found [ None ↦ [] | Some o ↦ o.message.signals ]

-- the rows of the number of a live message that is found stand for its signals
pub its_signals : (name message : List ℕ) (t : Tables) (live : List LiveMessage) (m : LiveMessage)
    → AreLiveRows name (live_rows name t) live → live_named live message ≡ Some m
    → AreSignalsOf name (dbc_number m.message.ident) (live_rows name t) m.message.signals
its_signals name message t live m h there =
    let n = dbc_number m.message.ident in
    subst (λ o. AreSignalsOf name n (live_rows name t) (signals_in o)) (by_its_number name message t live m h there)
    (h.signals n)

-- A live message gets other signals, and the rows of the others' stay; so do those of the heads.
module _ (name : List ℕ) (m : LiveMessage) (signals : List Signal) (live : List LiveMessage) (t : Tables)
    (sig sigvalue : List Row) (h : AreLiveRows name (live_rows name t) live)
    (found : find (λ (o : LiveMessage). dbc_number o.message.ident == dbc_number m.message.ident) live ≡ Some m) where
  abbrev n : ℕ
  n = dbc_number m.message.ident

  abbrev after : Tables
  after = record t { sig = sig; sigvalue = sigvalue }

  abbrev Apart : Type 0
  Apart = (other : ℕ) (some : List Signal) → (n ≡ other → ⊥) → AreSignalsOf name other (live_rows name t) some
      → AreSignalsOf name other (live_rows name after) some

  each : AreSignalsOf name n (live_rows name after) signals → Apart → (other : ℕ)
      → AreSignalsOf name other (live_rows name after)
      (signals_numbered (put by_number (with_signals m signals) live) other)
  each own apart other =
      subst (λ o. AreSignalsOf name other (live_rows name after) (signals_in o))
      (sym (put_finds (λ (o : LiveMessage). dbc_number o.message.ident) (with_signals m signals) live other
      (live_ascends name live h.messages.found h.messages.ascending h.messages.each)))
      (by_test (n == other) refl)
    where
      by_test : (b : Bool) → (n == other) ≡ b
          → AreSignalsOf name other (live_rows name after)
          (signals_in (cond b (Some (with_signals m signals))
          (find (λ (o : LiveMessage). dbc_number o.message.ident == other) live)))
      by_test true is = subst (λ i. AreSignalsOf name i (live_rows name after) signals) (eqb-true n other is) own
      by_test false is = apart other (signals_numbered live other) (λ same. false≢true (sym is ∙ eq-eqb n other same))
          (h.signals other)

  other_signals : HaveNumbers (live_rows name after) → AreSignalsOf name n (live_rows name after) signals → Apart
      → AreLiveRows name (live_rows name after) (put by_number (with_signals m signals) live)
  other_signals numbered own apart = record {
    messages = record {
      found = h.messages.found;
      same = h.messages.same;
      ascending = h.messages.ascending;
      each = put_shown name m (with_signals m signals) refl
          (λ row r. record { row_is = r.row_is; identifier = r.identifier; sent = r.sent }) live h.messages.found
          (live_ascends name live h.messages.found h.messages.ascending h.messages.each) found h.messages.each;
    };
    numbered = numbered;
    signals = each own apart;
  }

-- the network is as it was, where the message isn't there
none_follows : (name message : List ℕ) (f : LiveMessage → LiveMessage) (net : Net) (book : SpnBook) (t t2 : Tables)
    → live_named net.live message ≡ None → t2 ≡ t
    → Follows name t t2 (at_net net book) (at_net (at_message message f net) book)
none_follows name message f net book t t2 there same =
    let after : Option LiveMessage → Net = λ found. elim found [ None ↦ net | Some x ↦ with_message net (f x) ] in
    let nothing : net ≡ at_message message f net = ap after (sym there) in
    subst (λ u. Follows name t u (at_net net book) (at_net (at_message message f net) book)) (sym same)
    (subst (λ (net2 : Net). Follows name t t (at_net net book) (at_net net2 book)) nothing
    (record {
      here = λ at. at;
      book = λ at. at;
      others = λ other apart. record { rest = refl; live = refl };
      replies =
          refl;
      parts = refl;
      profile = refl;
      bodies = refl;
    }))

-- and with the message changed, where it is there
found_follows : (name message : List ℕ) (f : LiveMessage → LiveMessage) (net : Net) (book : SpnBook) (t t2 : Tables)
    (sig sigvalue : List Row) (m : LiveMessage) → live_named net.live message ≡ Some m
    → t2 ≡ (record t { sig = sig; sigvalue = sigvalue })
    → (AreLiveRows name (live_rows name t) net.live
    → AreLiveRows name (live_rows name (record t { sig = sig; sigvalue = sigvalue })) (put by_number (f m) net.live))
    → ((other : List ℕ) → bytes_eq name other ≡ false → live_rows other (record t { sig = sig; sigvalue = sigvalue })
    ≡ live_rows other t)
    → Follows name t t2 (at_net net book) (at_net (at_message message f net) book)
found_follows name message f net book t t2 sig sigvalue m there is live elsewhere =
    subst (λ u. Follows name t u (at_net net book) (at_net (at_message message f net) book)) (sym is)
    (subst (λ (net2 : Net). Follows name t (record t { sig = sig; sigvalue = sigvalue }) (at_net net book)
    (at_net net2 book)) (at_found message f net m there) (record {
      here = λ at. record {
        rest = rest_with name (rest_of name t) net (put by_number (f m) net.live) at.rest;
        live =
            live at.live;
      };
      book = λ at. record { blocks = at.blocks; used = at.used };
      others = λ other apart. record { rest = refl; live = elsewhere other apart };
      replies = refl;
      parts = refl;
      profile = refl;
      bodies = refl;
    }))

-- ---- suspect parameter numbers

abbrev SpnIn : List ℕ → List ℕ → ℕ → Tables → Tables → Option LiveMessage → Type 0
SpnIn name signal n t t2 found = elim found [ None ↦ t2 ≡ t | Some m ↦ HasSpn name m signal n t t2 ]

pub sets_spn : (name : List ℕ) (path : SignalPath) (n : ℕ) (net : Net) (book : SpnBook) (t t2 : Tables)
    → IsSpnSet name path n net.live t t2
    → Follows name t t2 (at_net net book) (at_net (at_message path.message (λ m. with_spn m path.signal n) net) book)
sets_spn name path n net book t t2 w = by_case (live_named net.live path.message) refl w
  where
    by_case : (found : Option LiveMessage) → live_named net.live path.message ≡ found
        → SpnIn name path.signal n t t2 found
        → Follows name t t2 (at_net net book)
        (at_net (at_message path.message (λ m. with_spn m path.signal n) net) book)
    by_case None there same = none_follows name path.message (λ m. with_spn m path.signal n) net book t t2 there same
    by_case (Some m) there given =
        let number = dbc_number m.message.ident in
        let own = placed_named path.signal given.before.placed in
        let after = with_spns name number n own t in
        found_follows name path.message (λ m. with_spn m path.signal n) net book t t2 after.sig t.sigvalue m there
        given.tables_are
        (λ h. other_signals name m (at_signal (λ s. record s { spn = n }) path.signal m.message.signals) net.live t
        after.sig t.sigvalue h
        (by_its_number name path.message t net.live m h there) (spns_numbered name number n own t h.numbered)
        (spns_set name number n path.signal t m.message.signals given.before) (spns_apart name number n own t))
        (spns_elsewhere name number n own t)

-- ---- value texts

abbrev TextsIn : List ℕ → List ℕ → List ValueText → Tables → Tables → Option LiveMessage → Type 0
TextsIn name signal values t t2 found = elim found [ None ↦ t2 ≡ t | Some m ↦ HasTexts name m signal values t t2 ]

pub sets_values : (name : List ℕ) (path : SignalPath) (values : List ValueText) (net : Net) (book : SpnBook)
    (t t2 : Tables) → AreTextsSet name path values net.live t t2
    → Follows name t t2 (at_net net book)
    (at_net (at_message path.message (λ m. with_values m path.signal values) net) book)
sets_values name path values net book t t2 w = by_case (live_named net.live path.message) refl w
  where
    by_case : (found : Option LiveMessage) → live_named net.live path.message ≡ found
        → TextsIn name path.signal values t t2 found
        → Follows name t t2 (at_net net book)
        (at_net (at_message path.message (λ m. with_values m path.signal values) net) book)
    by_case None there same = none_follows name path.message (λ m. with_values m path.signal values) net book t t2 there
        same
    by_case (Some m) there given =
        let number = dbc_number m.message.ident in
        let own = placed_named path.signal given.before.placed in
        let after = with_texts name number values own t in
        found_follows name path.message (λ m. with_values m path.signal values) net book t t2 t.sig after.sigvalue m
        there given.tables_are
        (λ h. other_signals name m (at_signal (λ s. record s { values = values }) path.signal m.message.signals)
        net.live t t.sig after.sigvalue h
        (by_its_number name path.message t net.live m h there) (texts_numbered name number values own t h.numbered)
        (texts_set name number values path.signal t m.message.signals given.before given.decimals)
        (texts_apart name number values own t))
        (texts_elsewhere name number values own t)
