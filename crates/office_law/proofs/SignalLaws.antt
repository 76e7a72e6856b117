-- The laws of the actions on a signal of a live message.
use Rattle.office_law.proofs.Common.{◌≡◌, ℕ, Bool, true, false, List, [], ◌∷◌, ◌++◌, Option, Some, None, length, refl}
use Rattle.office_law.proofs.Common.{sym, not, inl, inr, subst, ◌≤◌, Contains, arith, ◌⊎◌, ◌==◌, nat_lt, filter}
use Rattle.office_law.proofs.Common.{bytes_eq, and_parts, leb-true, not-false, nat_tests, All-cons, All-filter, All-nil}
use Rattle.office_law.proofs.Common.{All-push, Any-from_list_any, same_Some, IsClear, least_start_of, spn_limit}
use Rattle.office_law.proofs.Common.{IsClearMessage, place_of, places_of, at_signal, Signal, IsAction, least_free}
use Rattle.office_law.proofs.Common.{is_taken, SpnBook, TakeBits, TakeSpn, Act, Refusal, Reply, Done, Number, Start}
use Rattle.office_law.proofs.Common.{LiveMessage, Net, live_named, message_facts, spn_blocks_of, IsBook, with_message}
use Rattle.office_law.proofs.Common.{Entries, Outcome, Changing, given_or, no_entries, on_net, when, on_found}
use Rattle.office_law.proofs.Common.{spn_given, start_given, take_bits_tests, take_spn_tests, new_signal, spn_entered}
use Rattle.office_law.proofs.Common.{take_bits, take_spn, with_last_signal, with_spn, has_signal, is_needed, spn_tests}
use Rattle.office_law.proofs.Common.{with_signals}
use Rattle.std.proofs.Common.{eqb-true}
use Rattle.dbc_words.specs.Limits.{value_text_limit}
use Rattle.office_types.specs.declared.command.Action.TheVariants as act
use Rattle.office_types.specs.declared.command.SetValues.{SetValues}
use Rattle.office_types.specs.declared.command.SignalPath.{SignalPath}
use Rattle.office_types.specs.declared.free.NumberForm.TheVariants as form
use Rattle.office_types.specs.declared.refusal.Refusal.TheVariants as no
use Rattle.office_rules.specs.Signals.{remove_signal_tests, set_values_tests, with_values, with_signal_out}
use Rattle.office_rules.specs.Signals.{remove_signal, set_values}
use Rattle.office_law.proofs.OutcomesAlike.{found_with, given_with, unless_with, w}
use Rattle.office_law.proofs.OutcomeFound.{answered_given, answered_requested, chosen_there, decided_net}
use Rattle.office_law.proofs.ClearSignals.{IsClear-removed, places-at_signal}
use Rattle.office_law.proofs.Fresh.{free_least}
use Rattle.office_law.proofs.KeptBook.{IsSpn-used}
use Rattle.office_law.proofs.NameAndReleasesStay.{left, left_message}
use Rattle.office_law.proofs.Lists.{All-from_contains, Contains-first}
use Rattle.office_law.proofs.OfAction.{ActionLaws}
use Rattle.office_law.proofs.OnMessage.{found_there, live_clear, live_kept, passed_on}
use Rattle.office_law.proofs.OnSignals.{All-at_signal, IsSignal-new, IsSignal-spn, IsSignal-values, clear_pushed}
use Rattle.office_law.proofs.OnSignals.{clear_start, kept_signals, signals_changed, signals_kept, signals_pushed}
use Rattle.office_law.proofs.OnSignals.{small_start, with_kept}
use Rattle.office_law.proofs.NoTestHolds.{leaves_given, leaves_unless, NoneHolds}
use Rattle.office_law.proofs.Singles.{net_single, message_single, wanted_single}
use Rattle.office_law.proofs.ChangesByTests.{IsSpn}
use Rattle.office_law.proofs.WhatCommandsLeave.{Allowed, Goes, IsWellLeft, changes}
use Rattle.office_law.proofs.PassedTests.{bits_passed, bits_tests}

module _ (team name : List ℕ) (book : SpnBook) (net : Net) where
  abbrev way : Type 0 → Reply → Net → Entries → Type 0
  way inside r n e = Allowed team name book net inside → IsWellLeft name book n e

  clear_changed : (change : Signal → Signal) (signal : List ℕ) (m : LiveMessage)
      → ((s : Signal) → place_of (change s) ≡ place_of s) → IsClearMessage m.message
      → IsClearMessage (with_signals m (at_signal change signal m.message.signals)).message
  clear_changed change signal m same h =
      subst (λ ps. IsClear ps m.message.length) (sym (places-at_signal change signal same m.message.signals)) h

  -- the number of a signal is an old one
  abbrev HasOldSpn : Entries → LiveMessage → Signal → Type 0
  HasOldSpn e m s = (s.spn ≡ 0)
      ⊎ (Contains e.numbers s.spn ⊎ ((old : Signal) × Contains m.message.signals old × (s.spn ≡ old.spn)))

  old_spn : (e : Entries) (m : LiveMessage) (s : Signal) → Contains m.message.signals s → HasOldSpn e m s
  old_spn e m s c = inr (inr (s, c, refl))

  taken_there : (n : ℕ) (used : List ℕ) → is_taken n used ≡ true → Contains used n
  taken_there n used h =
      let w = Any-from_list_any (λ t. t == n) used h in
      let same : w.1 ≡ n = eqb-true w.1 n w.4 in
      subst (Contains used) same (w.0, w.2, w.3)

  -- the number that `take_spn` gives is one that a signal may have
  spn_is : (c : TakeSpn) (want : Option ℕ) (n : ℕ) → IsBook book
      → NoneHolds (spn_tests team name book (record c { same = want }))
      → spn_given team name book (record c { same = want }) ≡ Some n → IsSpn n
  spn_is c (Some m) n h free e =
      subst IsSpn (same_Some m n e) (IsSpn-used book.used m h.used (taken_there m book.used (not-false _ free.0)))
  spn_is c None n h free e =
      let parts = and_parts _ _ (free_least book.used (spn_blocks_of book name team) form.Spn n e).formed in
      (leb-true 1 n parts.1, leb-true n spn_limit parts.0)

  goes_spn : (c : TakeSpn) → Goes team name book net (IsAction (act.TakeSpn c)) (take_spn team name (Some net) book c)
  goes_spn c =
      let inside = IsAction (act.TakeSpn c) in
      let found = live_named net.live c.path.message in
      let done : LiveMessage → ℕ → Outcome = λ m n. Changing (Number n) (with_message net (with_spn m c.path.signal n))
      (spn_entered n) in
      let numbered : LiveMessage → Outcome = λ m. given_or no.BlockFull (spn_given team name book c) (done m) in
      leaves_unless (way inside)
      (on_net (Some net) (λ n. take_spn_tests team name (message_facts n c.path.message) book c))
      (given_or no.NoMessage found numbered) (λ free.
      leaves_given (way inside) no.NoMessage found numbered (λ m e.
      leaves_given (way inside) no.BlockFull (spn_given team name book c) (done m) (λ n given.
      let there = found_there net c.path.message m e in
      let tests = passed_on team net.head.phase net.head.frame.nodes found
      (λ x. when (not (has_signal x c.path.signal)) no.NoSignal ∷ spn_tests team name book c) m e free.1 in
      let change : Signal → Signal = λ s. record s { spn = n } in
      changes team name book net inside (spn_entered n) m (at_signal change c.path.signal m.message.signals) (λ ok. (
      let kept = live_kept net m ok.net_is there in
      let number = spn_is c c.same n ok.book_is tests.1 given in
      record {
        there = there;
        form = with_kept m (at_signal change c.path.signal m.message.signals) kept
            (signals_changed change c.path.signal m.message.signals (kept_signals m kept) (λ s. refl) (λ s. refl)
            (λ s h. IsSignal-spn s n h number.1) (λ s h. h));
        clear = clear_changed change c.path.signal m (λ s. refl) (live_clear net m ok.net_is there);
        entered = All-at_signal change c.path.signal (HasOldSpn (spn_entered n) m) m.message.signals
            (λ s d. inr (inl (Contains-first n []))) (old_spn (spn_entered n) m);
        numbers = All-cons IsSpn n [] number (All-nil IsSpn);
      })) refl)))

  goes_values : (c : SetValues) → Goes team name book net (IsAction (act.SetValues c)) (set_values team (Some net) c)
  goes_values c =
      let inside = IsAction (act.SetValues c) in
      let found = live_named net.live c.path.message in
      let done : LiveMessage → Outcome = λ m. Changing Done (with_message net (with_values m c.path.signal c.values))
      no_entries in
      leaves_unless (way inside) (on_net (Some net) (λ n. set_values_tests team (message_facts n c.path.message) c))
      (given_or no.NoMessage found done) (λ free.
      leaves_given (way inside) no.NoMessage found done (λ m e.
      let there = found_there net c.path.message m e in
      let tests = passed_on team net.head.phase net.head.frame.nodes found
      (λ x. when (not (has_signal x c.path.signal)) no.NoSignal
      ∷ when (nat_lt value_text_limit (length c.values)) no.TooMany ∷ []) m e free.1 in
      let change : Signal → Signal = λ s. record s { values = c.values } in
      changes team name book net inside no_entries m (at_signal change c.path.signal m.message.signals) (λ ok. (
      let kept = live_kept net m ok.net_is there in
      record {
        there = there;
        form = with_kept m (at_signal change c.path.signal m.message.signals) kept
            (signals_changed change c.path.signal m.message.signals (kept_signals m kept) (λ s. refl) (λ s. refl)
            (λ s h. IsSignal-values s c.values h ok.fields.1) (λ s h. few_texts (length c.values) tests.1.0));
        clear = clear_changed change c.path.signal m (λ s. refl) (live_clear net m ok.net_is there);
        entered = All-at_signal change c.path.signal (HasOldSpn no_entries m) m.message.signals
            (λ s d. inr (inr (s, d, refl))) (old_spn no_entries m);
        numbers = All-nil IsSpn;
      })) refl))
    where
      few_texts : (n : ℕ) → nat_lt value_text_limit n ≡ false → n ≤ value_text_limit
      few_texts n h = grind (arith, nat_tests)

  goes_removal : (path : SignalPath)
      → Goes team name book net (IsAction (act.RemoveSignal path)) (remove_signal team (Some net) path)
  goes_removal path =
      let inside = IsAction (act.RemoveSignal path) in
      let found = live_named net.live path.message in
      let done : LiveMessage → Outcome =
      λ m. Changing Done (with_message net (with_signal_out m path.signal)) no_entries in
      leaves_unless (way inside) (on_net (Some net) (λ n. remove_signal_tests team (message_facts n path.message) path))
      (given_or no.NoMessage found done) (λ free.
      leaves_given (way inside) no.NoMessage found done (λ m e.
      let there = found_there net path.message m e in
      let tests = passed_on team net.head.phase net.head.frame.nodes found
      (λ x. when (not (has_signal x path.signal)) no.NoSignal ∷ when (is_needed x.message.signals path.signal)
      no.NoMultiplexor ∷ []) m e free.1 in
      let kept_ones : Signal → Bool = λ s. not (bytes_eq s.name path.signal) in
      changes team name book net inside no_entries m (filter kept_ones m.message.signals) (λ ok. (
      let kept = live_kept net m ok.net_is there in
      record {
        there = there;
        form = with_kept m (filter kept_ones m.message.signals) kept
            (signals_kept kept_ones m.message.signals (kept_signals m kept));
        clear = IsClear-removed m.message.signals path.signal m.message.length tests.1.0
            (live_clear net m ok.net_is there);
        entered = All-filter kept_ones (HasOldSpn no_entries m) m.message.signals
            (All-from_contains (HasOldSpn no_entries m) m.message.signals (old_spn no_entries m));
        numbers = All-nil IsSpn;
      })) refl))

  goes_bits : (c : TakeBits) → Goes team name book net (IsAction (act.TakeBits c)) (take_bits team (Some net) c)
  goes_bits c =
      let inside = IsAction (act.TakeBits c) in
      let found = live_named net.live c.path.message in
      let done : LiveMessage → ℕ → Outcome =
      λ m start. Changing (Start start) (with_message net (with_last_signal m (new_signal c start)))
      no_entries in
      let room : LiveMessage → Outcome =
      λ m. given_or no.NoRoom (start_given (places_of m.message.signals) m.message.length c) (done m) in
      leaves_unless (way inside) (on_net (Some net) (λ n. take_bits_tests team (message_facts n c.path.message) c))
      (given_or no.NoMessage found room) (λ free.
      leaves_given (way inside) no.NoMessage found room (λ m e.
      leaves_given (way inside) no.NoRoom (start_given (places_of m.message.signals) m.message.length c) (done m)
      (λ start given.
      let there = found_there net c.path.message m e in
      let tests = passed_on team net.head.phase net.head.frame.nodes found (bits_tests net.head.frame.nodes c) m e
      free.1 in
      let passed = bits_passed net.head.frame.nodes c m tests in
      let s = new_signal c start in
      changes team name book net inside no_entries m (m.message.signals ++ s ∷ []) (λ ok. (
      let kept = live_kept net m ok.net_is there in
      record {
        there = there;
        form = with_kept m (m.message.signals ++ s ∷ []) kept
            (signals_pushed m.message.signals s (kept_signals m kept)
            (IsSignal-new c start ok.fields
            (small_start (places_of m.message.signals) m.message.length c c.start start ok.fields.start given))
            (omega arith) passed.unnamed passed.room passed.one_multiplexor);
        clear = clear_pushed m s
            (clear_start (places_of m.message.signals) m.message.length c c.start start passed.start given);
        entered = All-push (HasOldSpn no_entries m) m.message.signals s
            (All-from_contains (HasOldSpn no_entries m) m.message.signals (old_spn no_entries m)) (inl refl);
        numbers = All-nil IsSpn;
      })) refl)))

pub take_spn_laws : (team name : List ℕ) (c : TakeSpn) → ActionLaws team name (act.TakeSpn c)
take_spn_laws team name c = record {
  nowhere = λ _. (no.NoNet, λ book. refl);
  decided = λ book net. decided_net _ _ net
      (λ n none. answered_requested no.NoMessage (live_named n.live c.path.message) _ _ none.1.0 none.1.1 (λ m more.
      answered_given no.BlockFull _ _
      (chosen_there c.same (least_free book.used (spn_blocks_of book name team) form.Spn) _ _ (λ last. last.1.0)
      more.1.1) (λ number. tt)));
  single = λ book net. net_single net _
      (λ n. message_single team (message_facts n c.path.message) _
      (λ m. (tt, wanted_single c.same _ _ (λ number. (tt, tt)) (tt, (tt, tt)))));
  left = λ book net.
      left_message (left name (Act (act.TakeSpn c)))
      (on_net net (λ n. take_spn_tests team name (message_facts n c.path.message) book c)) net c.path.message _
      (λ n m.
      leaves_given (left name (Act (act.TakeSpn c)) (Some n)) no.BlockFull (spn_given team name book c) _
      (λ number _. record { answer = tt; part = refl; named = refl; releases = refl }));
  kept = λ book net. goes_spn team name book net c;
  releases = λ book net rs.
      let given = spn_given team name book c in
      let done : Net → LiveMessage → ℕ → Outcome =
      λ n m number. Changing (Number number) (with_message n (with_spn m c.path.signal number))
      (spn_entered number) in
      let out : Net → LiveMessage → Outcome = λ n m. given_or no.BlockFull given (done n m) in
      unless_with rs (on_net (Some net) (λ n. take_spn_tests team name (message_facts n c.path.message) book c))
      (on_found (Some net) c.path.message out) (on_found (Some (w rs net)) c.path.message out)
      (found_with rs net c.path.message out
      (λ m. given_with rs no.BlockFull given (done net m) (done (w rs net) m) (λ number. refl)));
}

pub take_bits_laws : (team name : List ℕ) (c : TakeBits) → ActionLaws team name (act.TakeBits c)
take_bits_laws team name c = record {
  nowhere = λ _. (no.NoNet, λ book. refl);
  decided = λ book net. decided_net _ _ net
      (λ n none. answered_requested no.NoMessage (live_named n.live c.path.message) _ _ none.1.0 none.1.1 (λ m more.
      answered_given no.NoRoom _ _
      (chosen_there c.start (least_start_of (places_of m.message.signals) m.message.length c.size c.order c.mux) _ _
      (λ last. last.0) (bits_passed n.head.frame.nodes c m more.1).start) (λ start. tt)));
  single = λ book net. net_single net _ (λ n. message_single team (message_facts n c.path.message) _ (λ m.
      (tt, (tt, (tt, (tt, (tt, wanted_single c.start _ _ (λ start. (tt, (tt, tt))) (tt, tt))))))));
  left = λ book net.
      left_message (left name (Act (act.TakeBits c)))
      (on_net net (λ n. take_bits_tests team (message_facts n c.path.message) c)) net c.path.message _ (λ n m.
      leaves_given (left name (Act (act.TakeBits c)) (Some n)) no.NoRoom
      (start_given (places_of m.message.signals) m.message.length c) _
      (λ start _. record { answer = tt; part = refl; named = refl; releases = refl }));
  kept = λ book net. goes_bits team name book net c;
  releases = λ book net rs.
      let given : LiveMessage → Option ℕ = λ m. start_given (places_of m.message.signals) m.message.length c in
      let done : Net → LiveMessage → ℕ → Outcome =
      λ n m start. Changing (Start start) (with_message n (with_last_signal m (new_signal c start)))
      no_entries in
      let out : Net → LiveMessage → Outcome = λ n m. given_or no.NoRoom (given m) (done n m) in
      unless_with rs (on_net (Some net) (λ n. take_bits_tests team (message_facts n c.path.message) c))
      (on_found (Some net) c.path.message out) (on_found (Some (w rs net)) c.path.message out)
      (found_with rs net c.path.message out
      (λ m. given_with rs no.NoRoom (given m) (done net m) (done (w rs net) m) (λ start. refl)));
}

pub set_values_laws : (team name : List ℕ) (c : SetValues) → ActionLaws team name (act.SetValues c)
set_values_laws team name c =
    let out : Net → LiveMessage → Outcome = λ n m. Changing Done (with_message n (with_values m c.path.signal c.values))
    no_entries in
    record {
      nowhere = λ _. (no.NoNet, λ book. refl);
      decided = λ book net. decided_net _ _ net
          (λ n none. answered_requested no.NoMessage (live_named n.live c.path.message) _ _ none.1.0 none.1.1
          (λ m _. tt));
      single = λ book net. net_single net _
          (λ n. message_single team (message_facts n c.path.message) _ (λ m. (tt, (tt, tt))));
      left = λ book net.
          left_message (left name (Act (act.SetValues c)))
          (on_net net (λ n. set_values_tests team (message_facts n c.path.message) c)) net c.path.message out
          (λ n m. record { answer = tt; part = refl; named = refl; releases = refl });
      kept = λ book net. goes_values team name book net c;
      releases = λ book net rs.
          unless_with rs (on_net (Some net) (λ n. set_values_tests team (message_facts n c.path.message) c))
          (on_found (Some net) c.path.message out) (on_found (Some (w rs net)) c.path.message out)
          (found_with rs net c.path.message out (λ m. refl));
    }

pub remove_signal_laws : (team name : List ℕ) (path : SignalPath) → ActionLaws team name (act.RemoveSignal path)
remove_signal_laws team name path =
    let out : Net → LiveMessage → Outcome =
    λ n m. Changing Done (with_message n (with_signal_out m path.signal)) no_entries in
    record {
      nowhere = λ _. (no.NoNet, λ book. refl);
      decided = λ book net. decided_net _ _ net
          (λ n none. answered_requested no.NoMessage (live_named n.live path.message) _ _ none.1.0 none.1.1
          (λ m _. tt));
      single = λ book net. net_single net _
          (λ n. message_single team (message_facts n path.message) _ (λ m. (tt, (tt, tt))));
      left = λ book net.
          left_message (left name (Act (act.RemoveSignal path)))
          (on_net net (λ n. remove_signal_tests team (message_facts n path.message) path)) net path.message out
          (λ n m. record { answer = tt; part = refl; named = refl; releases = refl });
      kept = λ book net. goes_removal team name book net path;
      releases = λ book net rs.
          unless_with rs (on_net (Some net) (λ n. remove_signal_tests team (message_facts n path.message) path))
          (on_found (Some net) path.message out) (on_found (Some (w rs net)) path.message out)
          (found_with rs net path.message out (λ m. refl));
    }
