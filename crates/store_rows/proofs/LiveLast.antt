-- A live message has one signal more, the last: by the rows of that signal alone.
use Rattle.store_rows.proofs.Common.{◌≡◌, ◌∙◌, ℕ, ◌<◌, Bool, true, false, cond, List, [], ◌∷◌, ◌++◌, append-nil, filter}
use Rattle.store_rows.proofs.Common.{find, Option, None, Some, refl, sym, ap, subst, ◌==◌, AllByRecursion, eq-eqb}
use Rattle.store_rows.proofs.Common.{eqb-true, false≢true, filter-append, Row, column, all-filter, put, dbc_number}
use Rattle.store_rows.proofs.Common.{Signal, by_number, LiveMessage, Tables, is_of_net}
use Rattle.store_rows.specs.Live.{AreLiveRows, AreSignalsOf, HasNumber, HaveNumbers, IsReceiverRow, IsSigValueRow}
use Rattle.store_rows.specs.Live.{live_rows, numbered_rows, parts_of, signals_numbered}
use Rattle.store_rows.specs.LiveWritten.{IsSignal, placed_from, with_signal}
use Rattle.store_rows.proofs.LiveChanges.{AreOf, all_other, has, live_ascends, none_of, of_each, of_one, put_finds}
use Rattle.store_rows.proofs.LiveChanges.{same_rows}
use Rattle.store_rows.proofs.LiveMore.{signal_added}
use Rattle.store_rows.proofs.LivePut.{put_shown}
use Rattle.store_rows.proofs.LiveSet.{AreNamed, all_with, name_rows, named_each, names_show, own_rows, sig_rows}
use Rattle.store_rows.proofs.LiveSet.{text_rows, texts_show}
use Rattle.store_rows.proofs.PutTogether.{receivers_in, values_in}
use Rattle.store_rows.proofs.SeatRows.{all_append}

-- the message with the signal after its own
abbrev pub with_last : Signal → LiveMessage → LiveMessage
with_last s m = record m { message = record m.message { signals = m.message.signals ++ s ∷ [] } }

abbrev number_of : LiveMessage → ℕ
number_of m = dbc_number m.message.ident

abbrev signals_in : Option LiveMessage → List Signal
signals_in found = elim found [ None ↦ [] | Some o ↦ o.message.signals ]

other_rows : (net : List ℕ) (number other : ℕ) (table new : List Row) → (number ≡ other → ⊥) → AreNamed net new
    → AreOf number new
    → numbered_rows other (filter (is_of_net net) (table ++ new)) ≡ numbered_rows other (filter (is_of_net net) table)
other_rows net number other table new apart named of =
    ap (numbered_rows other)
    (filter-append (is_of_net net) table new ∙ ap (λ l. filter (is_of_net net) table ++ l) (own_rows net new named))
    ∙ filter-append (has other) (filter (is_of_net net) table) new
    ∙ ap (λ l. numbered_rows other (filter (is_of_net net) table) ++ l)
    (none_of other new (all_other number other new apart of))
    ∙ append-nil (numbered_rows other (filter (is_of_net net) table))

added_numbered : (net : List ℕ) (number : ℕ) (table new : List Row) → AreOf number new
    → AllByRecursion HasNumber (filter (is_of_net net) table)
    → AllByRecursion HasNumber (filter (is_of_net net) (table ++ new))
added_numbered net number table new of all =
    subst (AllByRecursion HasNumber) (sym (filter-append (is_of_net net) table new))
    (all_append HasNumber (filter (is_of_net net) table) (filter (is_of_net net) new) all
    (all-filter HasNumber (is_of_net net) new (of_one number new of)))

module _ (net : List ℕ) (k : ℕ) (s : Signal) (known : IsSignal s) (t : Tables) (live : List LiveMessage)
    (m : LiveMessage) (h : AreLiveRows net (live_rows net t) live)
    (found : find (λ o. number_of o == number_of m) live ≡ Some m)
    (below : AllByRecursion (λ q. q.0 < k) (h.signals (number_of m)).placed) where
  abbrev n : ℕ
  n = number_of m

  abbrev p : List (ℕ × Signal)
  p = placed_from k (s ∷ [])

  abbrev after : Tables
  after = with_signal net n k s t

  own : AreSignalsOf net n (live_rows net after) (m.message.signals ++ s ∷ [])
  own = subst (λ o. AreSignalsOf net n (live_rows net after) (signals_in o ++ s ∷ [])) found
      (signal_added net n k s known t (signals_numbered live n) (h.signals n) below)

  names_of : AreOf n (name_rows net n p)
  names_of = of_each (IsReceiverRow net n) n (λ q x r. ap (λ y. column y 1) r.row_is) (parts_of receivers_in p)
      (name_rows net n p) (names_show net n p)

  texts_of : AreOf n (text_rows net n p)
  texts_of = of_each (IsSigValueRow net n) n (λ q x r. ap (λ y. column y 1) r.row_is) (parts_of values_in p)
      (text_rows net n p) (texts_show net n k (s ∷ []) (known, tt))

  numbered : HaveNumbers (live_rows net after)
  numbered = subst (λ u. HaveNumbers (live_rows net u)) (sym (all_with net n p t)) (record {
    sigs = added_numbered net n t.sig (sig_rows net n p) (refl, tt) h.numbered.sigs;
    receivers = added_numbered net n t.receiver (name_rows net n p) names_of h.numbered.receivers;
    values = added_numbered net n t.sigvalue (text_rows net n p) texts_of h.numbered.values;
  })

  apart_rows : (other : ℕ) (signals : List Signal) → (n ≡ other → ⊥) → AreSignalsOf net other (live_rows net t) signals
      → AreSignalsOf net other (live_rows net after) signals
  apart_rows other signals apart at =
      subst (λ rows. AreSignalsOf net other rows signals) (sym (ap (live_rows net) (all_with net n p t)))
      (same_rows net other (live_rows net t)
      (live_rows net (record t {
        sig = t.sig ++ sig_rows net n p;
        receiver = t.receiver ++ name_rows net n p;
        sigvalue = t.sigvalue ++ text_rows net n p;
      })) signals
      (other_rows net n other t.sig (sig_rows net n p) apart (refl, tt) (refl, tt))
      (other_rows net n other t.receiver (name_rows net n p) apart
      (named_each (IsReceiverRow net n) net (λ q x r. ap (λ y. column y 0) r.row_is) (parts_of receivers_in p)
      (name_rows net n p) (names_show net n p)) names_of)
      (other_rows net n other t.sigvalue (text_rows net n p) apart
      (named_each (IsSigValueRow net n) net (λ q x r. ap (λ y. column y 0) r.row_is) (parts_of values_in p)
      (text_rows net n p) (texts_show net n k (s ∷ []) (known, tt))) texts_of) at)

  each : (other : ℕ) → AreSignalsOf net other (live_rows net after)
      (signals_numbered (put by_number (with_last s m) live) other)
  each other =
      subst (λ o. AreSignalsOf net other (live_rows net after) (signals_in o))
      (sym (put_finds number_of (with_last s m) live other
      (live_ascends net live h.messages.found h.messages.ascending h.messages.each)))
      (by_test (n == other) refl)
    where
      by_test : (b : Bool) → (n == other) ≡ b
          → AreSignalsOf net other (live_rows net after)
          (signals_in (cond b (Some (with_last s m)) (find (λ o. number_of o == other) live)))
      by_test true is = subst (λ i. AreSignalsOf net i (live_rows net after) (m.message.signals ++ s ∷ []))
          (eqb-true n other is) own
      by_test false is = apart_rows other (signals_numbered live other)
          (λ same. false≢true (sym is ∙ eq-eqb n other same)) (h.signals other)

  -- it is among the live ones in place of the message before
  pub last_added : AreLiveRows net (live_rows net after) (put by_number (with_last s m) live)
  last_added = record {
    messages = record {
      found = h.messages.found;
      same = h.messages.same;
      ascending = h.messages.ascending;
      each = put_shown net m (with_last s m) refl
          (λ row r. record { row_is = r.row_is; identifier = r.identifier; sent = r.sent }) live h.messages.found
          (live_ascends net live h.messages.found h.messages.ascending h.messages.each) found h.messages.each;
    };
    numbered = numbered;
    signals = each;
  }
