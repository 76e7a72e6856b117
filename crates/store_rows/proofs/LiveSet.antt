-- A message's rows as they are written: the message is put among the live ones, and other networks keep theirs.
use Rattle.store_rows.proofs.Common.{◌≡◌, ◌∙◌, ℕ, ◌+◌, ◌<◌, Bool, true, false, cond, not, ◌&&◌, List, [], ◌∷◌, ◌++◌}
use Rattle.store_rows.proofs.Common.{append-nil, append_assoc, map, filter, refl, sym, ap, subst, arith, AllByRecursion}
use Rattle.store_rows.proofs.Common.{bytes_eq, is_eq, Less, filter-append, Text, Row, column, value_cmp, put}
use Rattle.store_rows.proofs.Common.{dbc_number, Signal, ValueText, IsDecimal, by_number, LiveMessage, has_number}
use Rattle.store_rows.proofs.Common.{Tables, has_net_and_number, is_of_net, receivers_order, sigs_order}
use Rattle.store_rows.proofs.Common.{sigvalues_order}
use Rattle.std.specs.List.Sorted.{IsStrictlySortedBy}
use Rattle.store_rows.specs.Listed.{AreShown}
use Rattle.store_rows.specs.Live.{AreLiveRows, IsReceiverRow, IsSigRow, IsSigValueRow, LiveRows, live_rows, msg_values}
use Rattle.store_rows.specs.Live.{parts_of, receiver_values, sig_values, sigvalue_values}
use Rattle.store_rows.specs.LiveWritten.{IsLive, IsSignal, placed_from, receiver_rows, value_rows, with_live, with_msg}
use Rattle.store_rows.specs.LiveWritten.{with_signal, with_signals, without_live}
use Rattle.store_rows.specs.SignalShowing.{PlacesAscend}
use Rattle.store_rows.proofs.Keys.{number_below, other_net, other_text, own_text}
use Rattle.store_rows.proofs.LiveChanges.{AreRowsFor, removes_live, replaced, sets_live, stays, with_rows_for, without}
use Rattle.store_rows.proofs.LiveChanges.{without_rows_of}
use Rattle.store_rows.proofs.PutTogether.{receivers_in, signal_in, values_in}
use Rattle.store_rows.proofs.SeatRows.{all_rows, rows_ascend, rows_at, rows_show, rows_show_if}
use Rattle.store_rows.proofs.Setting.{left_here, left_others}

-- ---- the rows of signals

module _ (net : List ℕ) (number : ℕ) where
  abbrev pub sig_rows : List (ℕ × Signal) → List Row
  sig_rows [] = []
  sig_rows (p ∷ placed) = sig_values net number p.0 p.1 ∷ sig_rows placed

  abbrev pub name_rows : List (ℕ × Signal) → List Row
  name_rows [] = []
  name_rows (p ∷ placed) = receiver_rows net number p.0 0 p.1.receivers ++ name_rows placed

  abbrev pub text_rows : List (ℕ × Signal) → List Row
  text_rows [] = []
  text_rows (p ∷ placed) = value_rows net number p.0 0 p.1.values ++ text_rows placed

  three : (t : Tables) (a a2 b b2 d d2 : List Row) → a ≡ a2 → b ≡ b2 → d ≡ d2
      → (record t { sig = a; receiver = b; sigvalue = d }) ≡ (record t { sig = a2; receiver = b2; sigvalue = d2 })
  three t a a2 b b2 d d2 one two last =
      ap (λ (l : List Row). record t { sig = l; receiver = b; sigvalue = d }) one
      ∙ ap (λ (l : List Row). record t { sig = a2; receiver = l; sigvalue = d }) two
      ∙ ap (λ (l : List Row). record t { sig = a2; receiver = b2; sigvalue = l }) last

  pub all_with : (placed : List (ℕ × Signal)) (t : Tables) → with_signals net number placed t
      ≡ (record t {
        sig = t.sig ++ sig_rows placed;
        receiver = t.receiver ++ name_rows placed;
        sigvalue =
            t.sigvalue ++ text_rows placed;
      })
  all_with [] t = three t t.sig (t.sig ++ []) t.receiver (t.receiver ++ []) t.sigvalue (t.sigvalue ++ [])
      (sym (append-nil t.sig)) (sym (append-nil t.receiver)) (sym (append-nil t.sigvalue))
  all_with (p ∷ placed) t =
      all_with placed (with_signal net number p.0 p.1 t)
      ∙ three t ((t.sig ++ sig_values net number p.0 p.1 ∷ []) ++ sig_rows placed) (t.sig ++ sig_rows (p ∷ placed))
      ((t.receiver ++ receiver_rows net number p.0 0 p.1.receivers) ++ name_rows placed)
      (t.receiver ++ name_rows (p ∷ placed))
      ((t.sigvalue ++ value_rows net number p.0 0 p.1.values) ++ text_rows placed)
      (t.sigvalue ++ text_rows (p ∷ placed))
      (append_assoc t.sig (sig_values net number p.0 p.1 ∷ []) (sig_rows placed))
      (append_assoc t.receiver (receiver_rows net number p.0 0 p.1.receivers) (name_rows placed))
      (append_assoc t.sigvalue (value_rows net number p.0 0 p.1.values) (text_rows placed))

  -- as rows of parts, each with its place and seat

  names_at : (place seat : ℕ) (names : List (List ℕ))
      → rows_at (receiver_values net number) (λ p s x. refl) (λ p s x. refl) place seat names ≡ receiver_rows net number
      place seat names
  names_at place seat [] = refl
  names_at place seat (n ∷ names) =
      ap (λ l. receiver_values net number place seat n ∷ l) (names_at place (seat + 1) names)

  texts_at : (place seat : ℕ) (values : List ValueText)
      → rows_at (sigvalue_values net number) (λ p s x. refl) (λ p s x. refl) place seat values ≡ value_rows net number
      place seat values
  texts_at place seat [] = refl
  texts_at place seat (v ∷ values) =
      ap (λ l. sigvalue_values net number place seat v ∷ l) (texts_at place (seat + 1) values)

  names_are : (placed : List (ℕ × Signal))
      → all_rows (receiver_values net number) (λ p s x. refl) (λ p s x. refl) receivers_in placed ≡ name_rows placed
  names_are [] = refl
  names_are (p ∷ placed) =
      ap (λ l. l ++ all_rows (receiver_values net number) (λ p s x. refl) (λ p s x. refl) receivers_in placed)
      (names_at p.0 0 p.1.receivers)
      ∙ ap (λ l. receiver_rows net number p.0 0 p.1.receivers ++ l) (names_are placed)

  texts_are : (placed : List (ℕ × Signal))
      → all_rows (sigvalue_values net number) (λ p s x. refl) (λ p s x. refl) values_in placed ≡ text_rows placed
  texts_are [] = refl
  texts_are (p ∷ placed) =
      ap (λ l. l ++ all_rows (sigvalue_values net number) (λ p s x. refl) (λ p s x. refl) values_in placed)
      (texts_at p.0 0 p.1.values)
      ∙ ap (λ l. value_rows net number p.0 0 p.1.values ++ l) (texts_are placed)

  -- they ascend, and show the signals

  pub above_from : (p k : ℕ) (signals : List Signal) → p < k → AllByRecursion (λ q. p < q.0) (placed_from k signals)
  above_from p k [] less = tt
  above_from p k (s ∷ signals) less = (less, above_from p (k + 1) signals (omega (arith, less)))

  pub ascend_from : (k : ℕ) (signals : List Signal) → PlacesAscend (placed_from k signals)
  ascend_from k [] = tt
  ascend_from k (s ∷ signals) = (above_from k (k + 1) signals (omega arith), ascend_from (k + 1) signals)

  pub signals_are : (k : ℕ) (signals : List Signal) → map signal_in (placed_from k signals) ≡ signals
  signals_are k [] = refl
  signals_are k (s ∷ signals) = ap (λ l. s ∷ l) (signals_are (k + 1) signals)

  pub sigs_show : (k : ℕ) (signals : List Signal) → AllByRecursion IsSignal signals
      → AreShown (IsSigRow net number) (placed_from k signals) (sig_rows (placed_from k signals))
  sigs_show k [] all = tt
  sigs_show k (s ∷ signals) all = (record { row_is = refl; decimals = all.0.decimals }, sigs_show (k + 1) signals all.1)

  all_below : (p : ℕ) (s : Signal) (placed : List (ℕ × Signal)) → AllByRecursion (λ q. p < q.0) placed
      → AllByRecursion (λ z. sigs_order (sig_values net number p s) z ≡ Less) (sig_rows placed)
  all_below p s [] all = tt
  all_below p s (q ∷ placed) all = (number_below p q.0 all.0, all_below p s placed all.1)

  pub sigs_ascend : (placed : List (ℕ × Signal)) → PlacesAscend placed → IsStrictlySortedBy sigs_order (sig_rows placed)
  unfolding IsStrictlySortedBy
  sigs_ascend [] ascend = tt
  sigs_ascend (p ∷ placed) ascend = (all_below p.0 p.1 placed ascend.0, sigs_ascend placed ascend.1)

  pub texts_known : (k : ℕ) (signals : List Signal) → AllByRecursion IsSignal signals
      → AllByRecursion (λ p. AllByRecursion (λ (v : ValueText). IsDecimal v.value) (values_in p.1))
      (placed_from k signals)
  texts_known k [] all = tt
  texts_known k (s ∷ signals) all = (all.0.values, texts_known (k + 1) signals all.1)

  -- of parts

  pub names_show : (placed : List (ℕ × Signal))
      → AreShown (IsReceiverRow net number) (parts_of receivers_in placed) (name_rows placed)
  names_show placed = subst (AreShown (IsReceiverRow net number) (parts_of receivers_in placed)) (names_are placed)
      (rows_show (receiver_values net number) (λ p s x. refl) (λ p s x. refl) receivers_in (IsReceiverRow net number)
      (λ p s x. record { seat = s; row_is = refl }) placed)

  pub names_ascend : (placed : List (ℕ × Signal)) → PlacesAscend placed
      → IsStrictlySortedBy receivers_order (name_rows placed)
  names_ascend placed ascend =
      subst (IsStrictlySortedBy receivers_order) (names_are placed)
      (rows_ascend (receiver_values net number) (λ p s x. refl) (λ p s x. refl) receivers_in placed ascend)

  pub texts_show : (k : ℕ) (signals : List Signal) → AllByRecursion IsSignal signals
      → AreShown (IsSigValueRow net number) (parts_of values_in (placed_from k signals))
      (text_rows (placed_from k signals))
  texts_show k signals all = subst (AreShown (IsSigValueRow net number) (parts_of values_in (placed_from k signals)))
      (texts_are (placed_from k signals))
      (rows_show_if (sigvalue_values net number) (λ p s x. refl) (λ p s x. refl) values_in (IsSigValueRow net number)
      (λ (v : ValueText). IsDecimal v.value)
      (λ p s x known. record { seat = s; row_is = refl; decimal = known }) (placed_from k signals)
      (texts_known k signals all))

  pub texts_ascend : (placed : List (ℕ × Signal)) → PlacesAscend placed
      → IsStrictlySortedBy sigvalues_order (text_rows placed)
  texts_ascend placed ascend =
      subst (IsStrictlySortedBy sigvalues_order) (texts_are placed)
      (rows_ascend (sigvalue_values net number) (λ p s x. refl) (λ p s x. refl) values_in placed ascend)

-- ---- a message

module _ (net : List ℕ) (m : LiveMessage) (known : IsLive m) where
  abbrev number : ℕ
  number = dbc_number m.message.ident

  abbrev placed : List (ℕ × Signal)
  placed = placed_from 0 m.message.signals

  abbrev own : AreRowsFor net m (sig_rows net number placed) (name_rows net number placed) (text_rows net number placed)
  own = record {
    head = record { row_is = refl; identifier = known.identifier; sent = known.sent };
    placed = placed;
    are = signals_are net number 0 m.message.signals;
    sigs_each = sigs_show net number 0 m.message.signals known.signals;
    sigs_ascend = sigs_ascend net number placed (ascend_from net number 0 m.message.signals);
    receivers_each = names_show net number placed;
    receivers_ascend = names_ascend net number placed (ascend_from net number 0 m.message.signals);
    values_each = texts_show net number 0 m.message.signals known.signals;
    values_ascend = texts_ascend net number placed (ascend_from net number 0 m.message.signals);
  }

-- ---- rows of a network among others

abbrev pub AreNamed : List ℕ → List Row → Type 0
AreNamed net rows = AllByRecursion (λ r. column r 0 ≡ Text net) rows

pub named_each : {A : Type 0} (R : A → Row → Type 0) (net : List ℕ)
    → ((a : A) (x : Row) → R a x → column x 0 ≡ Text net) → (items : List A) (rows : List Row) → AreShown R items rows
    → AreNamed net rows
named_each R net is [] [] shown = tt
named_each R net is [] (r ∷ rows) shown = absurd shown
named_each R net is (a ∷ items) [] shown = absurd shown
named_each R net is (a ∷ items) (r ∷ rows) shown = (is a r shown.0, named_each R net is items rows shown.1)

pub own_rows : (net : List ℕ) (rows : List Row) → AreNamed net rows → filter (is_of_net net) rows ≡ rows
own_rows net [] named = refl
own_rows net (r ∷ rows) named =
    let here : is_of_net net r ≡ true = ap (λ v. is_eq (value_cmp v (Text net))) named.0 ∙ own_text net net refl in
    ap (λ b. cond b (r ∷ filter (is_of_net net) rows) (filter (is_of_net net) rows)) here
    ∙ ap (λ l. r ∷ l) (own_rows net rows named.1)

pub other_rows : (net other : List ℕ) (rows : List Row) → bytes_eq net other ≡ false → AreNamed net rows
    → filter (is_of_net other) rows ≡ []
other_rows net other [] apart named = refl
other_rows net other (r ∷ rows) apart named =
    let here : is_of_net other r ≡ false = ap (λ v. is_eq (value_cmp v (Text other))) named.0
    ∙ other_text net net other refl apart in
    ap (λ b. cond b (r ∷ filter (is_of_net other) rows) (filter (is_of_net other) rows)) here
    ∙ other_rows net other rows apart named.1

module _ (net : List ℕ) (number : ℕ) where
  abbrev gone : Row → Bool
  gone row = has_net_and_number net number row

  removed_here : (table : List Row) → filter (is_of_net net) (filter (λ r. not (gone r)) table)
      ≡ without number (filter (is_of_net net) table)
  removed_here table = left_here (is_of_net net) gone (has_number 1 number)
      (λ x here. ap (λ b. b && has_number 1 number x) here) table

  removed_elsewhere : (other : List ℕ) (table : List Row) → bytes_eq net other ≡ false
      → filter (is_of_net other) (filter (λ r. not (gone r)) table) ≡ filter (is_of_net other) table
  removed_elsewhere other table apart =
      left_others (is_of_net other) gone
      (λ x here. ap (λ b. b && has_number 1 number x) (other_net net net other refl apart x here)) table

  replaced_here : (new table : List Row) → AreNamed net new
      → filter (is_of_net net) (filter (λ r. not (gone r)) table ++ new)
      ≡ replaced number new (filter (is_of_net net) table)
  replaced_here new table named =
      filter-append (is_of_net net) (filter (λ r. not (gone r)) table) new
      ∙ ap (λ l. l ++ filter (is_of_net net) new) (removed_here table)
      ∙ ap (λ l. without number (filter (is_of_net net) table) ++ l) (own_rows net new named)

  replaced_elsewhere : (other : List ℕ) (new table : List Row) → bytes_eq net other ≡ false → AreNamed net new
      → filter (is_of_net other) (filter (λ r. not (gone r)) table ++ new) ≡ filter (is_of_net other) table
  replaced_elsewhere other new table apart named =
      filter-append (is_of_net other) (filter (λ r. not (gone r)) table) new
      ∙ ap (λ l. l ++ filter (is_of_net other) new) (removed_elsewhere other table apart)
      ∙ ap (λ l. filter (is_of_net other) table ++ l) (other_rows net other new apart named)
      ∙ append-nil (filter (is_of_net other) table)

pub four : (a a2 b b2 d d2 e e2 : List Row) → a ≡ a2 → b ≡ b2 → d ≡ d2 → e ≡ e2
    → ◌≡◌ {A = LiveRows} (record { msg = a; sig = b; receiver = d; sigvalue = e })
    (record { msg = a2; sig = b2; receiver = d2; sigvalue = e2 })
four a a2 b b2 d d2 e e2 one two third last = rw (one, two, third, last) refl

-- ---- what writing a message leaves

module _ (net : List ℕ) (m : LiveMessage) (known : IsLive m) (t : Tables) where
  abbrev sigs : List Row
  sigs = sig_rows net (number net m known) (placed net m known)

  abbrev names : List Row
  names = name_rows net (number net m known) (placed net m known)

  abbrev texts : List Row
  texts = text_rows net (number net m known) (placed net m known)

  abbrev rows_are : AreRowsFor net m sigs names texts
  rows_are = own net m known

  head_named : AreNamed net (msg_values net m ∷ [])
  head_named = (refl, tt)

  sigs_named : AreNamed net sigs
  sigs_named = named_each (IsSigRow net (dbc_number m.message.ident)) net (λ p x r. ap (λ y. column y 0) r.row_is)
      rows_are.placed sigs rows_are.sigs_each

  names_named : AreNamed net names
  names_named = named_each (IsReceiverRow net (dbc_number m.message.ident)) net (λ p x r. ap (λ y. column y 0) r.row_is)
      (parts_of receivers_in rows_are.placed) names rows_are.receivers_each

  texts_named : AreNamed net texts
  texts_named = named_each (IsSigValueRow net (dbc_number m.message.ident)) net (λ p x r. ap (λ y. column y 0) r.row_is)
      (parts_of values_in rows_are.placed) texts rows_are.values_each

  pub tables_are : with_live net m t ≡ (record t {
    msg = filter (λ r. not (gone net (dbc_number m.message.ident) r)) t.msg ++ msg_values net m ∷ [];
    sig = filter (λ r. not (gone net (dbc_number m.message.ident) r)) t.sig ++ sigs;
    receiver = filter (λ r. not (gone net (dbc_number m.message.ident) r)) t.receiver ++ names;
    sigvalue = filter (λ r. not (gone net (dbc_number m.message.ident) r)) t.sigvalue ++ texts;
  })
  tables_are = all_with net (dbc_number m.message.ident) (placed_from 0 m.message.signals)
      (with_msg net m (without_live net (dbc_number m.message.ident) t))

  -- the rows of the network
  rows_here : live_rows net (with_live net m t) ≡ with_rows_for net m sigs names texts (live_rows net t)
  rows_here =
      let n = dbc_number m.message.ident in
      ap (live_rows net) tables_are
      ∙ four (filter (is_of_net net) (filter (λ r. not (gone net n r)) t.msg ++ msg_values net m ∷ []))
      (replaced n (msg_values net m ∷ []) (filter (is_of_net net) t.msg))
      (filter (is_of_net net) (filter (λ r. not (gone net n r)) t.sig ++ sigs))
      (replaced n sigs (filter (is_of_net net) t.sig))
      (filter (is_of_net net) (filter (λ r. not (gone net n r)) t.receiver ++ names))
      (replaced n names (filter (is_of_net net) t.receiver))
      (filter (is_of_net net) (filter (λ r. not (gone net n r)) t.sigvalue ++ texts))
      (replaced n texts (filter (is_of_net net) t.sigvalue))
      (replaced_here net n (msg_values net m ∷ []) t.msg head_named) (replaced_here net n sigs t.sig sigs_named)
      (replaced_here net n names t.receiver names_named) (replaced_here net n texts t.sigvalue texts_named)

  -- the message is among the live ones
  pub message_set : (live : List LiveMessage) → AreLiveRows net (live_rows net t) live
      → AreLiveRows net (live_rows net (with_live net m t)) (put by_number m live)
  message_set live h = subst (λ rows. AreLiveRows net rows (put by_number m live)) (sym rows_here)
      (sets_live net m sigs names texts rows_are (live_rows net t) live h)

  -- other networks' rows stay
  pub message_set_elsewhere : (other : List ℕ) → bytes_eq net other ≡ false
      → live_rows other (with_live net m t) ≡ live_rows other t
  message_set_elsewhere other apart =
      let n = dbc_number m.message.ident in
      ap (live_rows other) tables_are
      ∙ four (filter (is_of_net other) (filter (λ r. not (gone net n r)) t.msg ++ msg_values net m ∷ []))
      (filter (is_of_net other) t.msg)
      (filter (is_of_net other) (filter (λ r. not (gone net n r)) t.sig ++ sigs)) (filter (is_of_net other) t.sig)
      (filter (is_of_net other) (filter (λ r. not (gone net n r)) t.receiver ++ names))
      (filter (is_of_net other) t.receiver)
      (filter (is_of_net other) (filter (λ r. not (gone net n r)) t.sigvalue ++ texts))
      (filter (is_of_net other) t.sigvalue)
      (replaced_elsewhere net n other (msg_values net m ∷ []) t.msg apart head_named)
      (replaced_elsewhere net n other sigs t.sig apart sigs_named)
      (replaced_elsewhere net n other names t.receiver apart names_named)
      (replaced_elsewhere net n other texts t.sigvalue apart texts_named)

  -- and all other tables
  pub message_set_alone : (record (with_live net m t) {
    msg = t.msg;
    sig = t.sig;
    receiver = t.receiver;
    sigvalue =
        t.sigvalue;
  }) ≡ t
  message_set_alone = ap (λ (u : Tables). record u {
    msg = t.msg;
    sig = t.sig;
    receiver = t.receiver;
    sigvalue =
        t.sigvalue;
  }) tables_are

-- ---- what removing one leaves

module _ (net : List ℕ) (n : ℕ) (t : Tables) where
  removed_rows : live_rows net (without_live net n t) ≡ without_rows_of n (live_rows net t)
  removed_rows =
      four (filter (is_of_net net) (filter (λ r. not (gone net n r)) t.msg)) (without n (filter (is_of_net net) t.msg))
      (filter (is_of_net net) (filter (λ r. not (gone net n r)) t.sig)) (without n (filter (is_of_net net) t.sig))
      (filter (is_of_net net) (filter (λ r. not (gone net n r)) t.receiver))
      (without n (filter (is_of_net net) t.receiver))
      (filter (is_of_net net) (filter (λ r. not (gone net n r)) t.sigvalue))
      (without n (filter (is_of_net net) t.sigvalue))
      (removed_here net n t.msg) (removed_here net n t.sig) (removed_here net n t.receiver)
      (removed_here net n t.sigvalue)

  pub message_removed : (live : List LiveMessage) (h : AreLiveRows net (live_rows net t) live)
      → AreLiveRows net (live_rows net (without_live net n t)) (filter (stays net (live_rows net t) live h n) live)
  message_removed live h = subst (λ rows. AreLiveRows net rows (filter (stays net (live_rows net t) live h n) live))
      (sym removed_rows) (removes_live net (live_rows net t) live h n)

  pub message_removed_elsewhere : (other : List ℕ) → bytes_eq net other ≡ false
      → live_rows other (without_live net n t) ≡ live_rows other t
  message_removed_elsewhere other apart =
      four (filter (is_of_net other) (filter (λ r. not (gone net n r)) t.msg)) (filter (is_of_net other) t.msg)
      (filter (is_of_net other) (filter (λ r. not (gone net n r)) t.sig)) (filter (is_of_net other) t.sig)
      (filter (is_of_net other) (filter (λ r. not (gone net n r)) t.receiver)) (filter (is_of_net other) t.receiver)
      (filter (is_of_net other) (filter (λ r. not (gone net n r)) t.sigvalue)) (filter (is_of_net other) t.sigvalue)
      (removed_elsewhere net n other t.msg apart) (removed_elsewhere net n other t.sig apart)
      (removed_elsewhere net n other t.receiver apart) (removed_elsewhere net n other t.sigvalue apart)
