-- The book has the suspect parameter numbers of live and released signals, whatever a command does.
use Rattle.office_law.proofs.Common.{◌≡◌, ◌<◌, ◌≤◌, ◌⊎◌, ◌∙◌, ◌==◌, not, Bool, true, false, ℕ, zero, suc, List, [], ◌∷◌}
use Rattle.office_law.proofs.Common.{map, length, get_or, Contains, inl, inr, refl, sym, ap, subst, arith, All, filter}
use Rattle.office_law.proofs.Common.{flat_map, nat_cmp, cond_both, not-true, nat_tests, Decides-eqb, All-append}
use Rattle.office_law.proofs.Common.{All-contains, All-filter, All-head, All-map, All-nil, All-push, All-tail}
use Rattle.office_law.proofs.Common.{All-weaker, Contains-append_left, Contains-append_right, filter_passes, put}
use Rattle.office_law.proofs.Common.{All-put, Ident, spn_limit, IsMessage, IsSignal, Message, Sheet, Signal, by_number}
use Rattle.office_law.proofs.Common.{live_messages, sheet_of, LiveMessage, Net, Phase, has_ident, was_released}
use Rattle.office_law.proofs.Common.{imported, new_messages, owned_by, spns_entered, AreEntered, IsEntered, put_all}
use Rattle.office_law.proofs.Common.{with_message, Entries, retired, with_held, without_message, in_phase, with_release}
use Rattle.office_law.proofs.Common.{with_signals}
use Rattle.office_rules.specs.Importing.{spns_of}
use Rattle.office_law.proofs.KeptBook.{entered_more, now_used, still_used}
use Rattle.office_law.proofs.KeptMessages.{Contains-filter}
use Rattle.office_law.proofs.Lists.{All-from_contains}
use Rattle.office_law.proofs.Sheets.{Contains-map}
use Rattle.office_law.proofs.ChangesByTests.{CanChange, IsSpn}

-- the numbers of one message are in the book
abbrev pub IsSpnEntered : List ℕ → Message → Type 0
IsSpnEntered used m = All (λ s. (s.spn ≡ 0) ⊎ Contains used s.spn) m.signals

pub each_live : (used : List ℕ) (live : List LiveMessage) → AreEntered used (live_messages live)
    → All (λ l. IsSpnEntered used l.message) live
each_live used live h = All-from_contains (λ l. IsSpnEntered used l.message) live (λ l c.
    All-contains (IsSpnEntered used) (live_messages live) l.message h
    (Contains-map (λ (x : LiveMessage). x.message) live l c))

pub of_each : (used : List ℕ) (live : List LiveMessage) → All (λ l. IsSpnEntered used l.message) live
    → AreEntered used (live_messages live)
of_each used live h = All-map (IsSpnEntered used) (λ (l : LiveMessage). l.message) live h

-- the same network under a book with more
pub IsEntered-more : (used more : List ℕ) (net : Net) → ((n : ℕ) → Contains used n → Contains more n)
    → IsEntered used net → IsEntered more net
IsEntered-more used more net grows h = record {
  live = entered_more used more (live_messages net.live) grows h.live;
  released = All-weaker (λ s. AreEntered used s.messages) (λ s. AreEntered more s.messages)
      (λ s k. entered_more used more s.messages grows k) net.releases h.released;
}

pub IsEntered-put : (used : List ℕ) (net : Net) (m : LiveMessage) → IsEntered used net → IsSpnEntered used m.message
    → IsEntered used (with_message net m)
IsEntered-put used net m h k = record {
  live = of_each used (put by_number m net.live)
      (All-put (λ l. IsSpnEntered used l.message) by_number m net.live k (each_live used net.live h.live));
  released = h.released;
}

pub IsEntered-silent : (used : List ℕ) (net : Net) (m : LiveMessage) → IsEntered used net → m.message.signals ≡ []
    → IsEntered used (with_message net m)
IsEntered-silent used net m h none =
    IsEntered-put used net m h
    (subst (All (λ s. (s.spn ≡ 0) ⊎ Contains used s.spn)) (sym none)
    (All-nil (λ (s : Signal). (s.spn ≡ 0) ⊎ Contains used s.spn)))

pub IsEntered-changed : (used : List ℕ) (net : Net) (e : Entries) (m : LiveMessage) (signals : List Signal)
    → IsEntered used net → CanChange net e m signals
    → IsEntered (put_all nat_cmp e.numbers used) (with_message net (with_signals m signals))
IsEntered-changed used net e m signals h can =
    let more = put_all nat_cmp e.numbers used in
    IsEntered-put more net (with_signals m signals) (IsEntered-more used more net (still_used e.numbers used) h)
    (All-weaker (λ s. (s.spn ≡ 0)
    ⊎ (Contains e.numbers s.spn ⊎ ((old : Signal) × Contains m.message.signals old × (s.spn ≡ old.spn))))
    (λ s. (s.spn ≡ 0) ⊎ Contains more s.spn) from signals can.entered)
  where
    of_old : (old : Signal) → Contains m.message.signals old → (old.spn ≡ 0) ⊎ Contains used old.spn
    of_old old c = All-contains (λ s. (s.spn ≡ 0) ⊎ Contains used s.spn) m.message.signals old
        (All-contains (λ l. IsSpnEntered used l.message) net.live m (each_live used net.live h.live) can.there) c

    from : (s : Signal) → (s.spn ≡ 0)
        ⊎ (Contains e.numbers s.spn ⊎ ((old : Signal) × Contains m.message.signals old × (s.spn ≡ old.spn)))
        → (s.spn ≡ 0) ⊎ Contains (put_all nat_cmp e.numbers used) s.spn
    from s w = elim w [
      | inl none ↦ inl none
      | inr some ↦ elim some [
        | inl new ↦ inr (now_used e.numbers used s.spn new)
        | inr was ↦ elim (of_old was.0 was.1) [
          | inl none ↦ inl (was.2 ∙ none)
          | inr there ↦ inr (still_used e.numbers used s.spn (subst (Contains used) (sym was.2) there))
        ]
      ]
    ]

without_entered : (used : List ℕ) (live : List LiveMessage) (i : Ident) → AreEntered used (live_messages live)
    → AreEntered used (live_messages (filter (λ m. not (has_ident i m)) live))
without_entered used live i h =
    of_each used (filter (λ m. not (has_ident i m)) live)
    (All-filter (λ m. not (has_ident i m)) (λ l. IsSpnEntered used l.message) live (each_live used live h))

pub IsEntered-retired : (used : List ℕ) (net : Net) (i : Ident) → IsEntered used net → IsEntered used (retired net i)
IsEntered-retired used net i h =
    cond_both (was_released net.releases i) (with_held (without_message net i) i) (without_message net i)
    (IsEntered used)
    (λ _. record { live = without_entered used net.live i h.live; released = h.released })
    (λ _. record { live = without_entered used net.live i h.live; released = h.released })

pub IsEntered-released : (used : List ℕ) (net : Net) (phase : Phase) → IsEntered used net
    → IsEntered used (in_phase (with_release net (sheet_of net)) phase)
IsEntered-released used net phase h = record {
  live = h.live;
  released = All-push (λ s. AreEntered used s.messages) net.releases (sheet_of net) h.released h.live;
}

-- The numbers of a file's new messages.

abbrev numbers_of_all : List Message → List ℕ
numbers_of_all ms = flat_map (λ m. map (λ s. s.spn) m.signals) ms

in_all : (ms : List Message) (m : Message) (s : Signal) → Contains ms m → Contains m.signals s
    → Contains (numbers_of_all ms) s.spn
in_all ms m s c d = at_index ms c.0 c.1 c.2
  where
    at_index : (xs : List Message) (k : ℕ) → k < length xs → get_or xs k m ≡ m → Contains (numbers_of_all xs) s.spn
    at_index [] k lt e = absurd (omega arith)
    at_index (x ∷ xs) zero lt e =
        Contains-append_left (map (λ t. t.spn) x.signals) (numbers_of_all xs) s.spn
        (Contains-map (λ (t : Signal). t.spn) x.signals s (subst (λ v. Contains v.signals s) (sym e) d))
    at_index (x ∷ xs) (suc k) lt e = Contains-append_right (map (λ t. t.spn) x.signals) (numbers_of_all xs) s.spn
        (at_index xs k (omega arith) e)

zero_or_in : (ms : List Message) (n : ℕ) (b : Bool) → n == 0 ≡ b → Contains (numbers_of_all ms) n
    → (n ≡ 0) ⊎ Contains (spns_of ms) n
zero_or_in ms n true e c = inl ((Decides-eqb n 0).0 e)
zero_or_in ms n false e c = inr (Contains-filter (λ k. not (k == 0)) n (numbers_of_all ms) c (ap not e))

-- each number of one of the messages is among them, but for 0
pub is_among : (ms : List Message) (m : Message) → Contains ms m
    → All (λ s. (s.spn ≡ 0) ⊎ Contains (spns_of ms) s.spn) m.signals
is_among ms m c = All-from_contains (λ s. (s.spn ≡ 0) ⊎ Contains (spns_of ms) s.spn) m.signals
    (λ s d. zero_or_in ms s.spn (s.spn == 0) refl (in_all ms m s c d))

All-numbers : (P : ℕ → Type 0) (ms : List Message) → All (λ m. All (λ s. P s.spn) m.signals) ms
    → All P (numbers_of_all ms)
All-numbers P [] h = All-nil P
All-numbers P (m ∷ ms) h =
    All-append P (map (λ s. s.spn) m.signals) (numbers_of_all ms)
    (All-map P (λ (s : Signal). s.spn) m.signals (All-head (λ x. All (λ s. P s.spn) x.signals) m ms h))
    (All-numbers P ms (All-tail (λ x. All (λ s. P s.spn) x.signals) m ms h))

not_zero : (n : ℕ) → not (n == 0) ≡ true → 1 ≤ n
not_zero n h = let no : n == 0 ≡ false = not-true _ h in grind (arith, nat_tests)

-- and each of them is one that a signal may have
pub are_spns : (ms : List Message) → All IsMessage ms → All IsSpn (spns_of ms)
are_spns ms h = All-from_contains IsSpn (spns_of ms) (λ n c. (
  not_zero n (All-contains (λ k. not (k == 0) ≡ true) (spns_of ms) n
      (filter_passes (λ k. not (k == 0)) (numbers_of_all ms)) c),
  All-contains (λ k. k ≤ spn_limit) (spns_of ms) n
      (All-filter (λ k. not (k == 0)) (λ k. k ≤ spn_limit) (numbers_of_all ms) small) c,
))
  where
    small : All (λ k. k ≤ spn_limit) (numbers_of_all ms)
    small = All-numbers (λ k. k ≤ spn_limit) ms
        (All-weaker IsMessage (λ m. All (λ s. s.spn ≤ spn_limit) m.signals)
        (λ m k. All-weaker IsSignal (λ s. s.spn ≤ spn_limit) (λ s w. w.spn) m.signals k.signals) ms h)

all_put : (used : List ℕ) (ls live : List LiveMessage) → All (λ l. IsSpnEntered used l.message) ls
    → All (λ l. IsSpnEntered used l.message) live → All (λ l. IsSpnEntered used l.message) (put_all by_number ls live)
all_put used [] live h k = k
all_put used (l ∷ ls) live h k =
    all_put used ls (put by_number l live) (All-tail (λ x. IsSpnEntered used x.message) l ls h)
    (All-put (λ x. IsSpnEntered used x.message) by_number l live (All-head (λ x. IsSpnEntered used x.message) l ls h) k)

pub IsEntered-imported : (used : List ℕ) (team : List ℕ) (net : Net) (s : Sheet) → IsEntered used net
    → IsEntered (put_all nat_cmp (spns_entered net s).numbers used) (imported team net s)
IsEntered-imported used team net s h =
    let new = new_messages net s.messages in
    let more = put_all nat_cmp (spns_of new) used in
    let grown = IsEntered-more used more net (still_used (spns_of new) used) h in
    record {
      live = of_each more (put_all by_number (map (owned_by team) new) net.live)
          (all_put more (map (owned_by team) new) net.live
          (All-map (λ l. IsSpnEntered more l.message) (owned_by team) new
          (All-from_contains (IsSpnEntered more) new (λ m c.
          All-weaker (λ x. (x.spn ≡ 0) ⊎ Contains (spns_of new) x.spn) (λ x. (x.spn ≡ 0) ⊎ Contains more x.spn)
          (λ x w. elim w [ inl none ↦ inl none | inr there ↦ inr (now_used (spns_of new) used x.spn there) ]) m.signals
          (is_among new m c))))
          (each_live more net.live grown.live));
      released = grown.released;
    }
