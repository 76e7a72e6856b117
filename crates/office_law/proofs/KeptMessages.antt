-- What a network keeps with a live message more, with one in place of another, without one, and with a release more.
use Rattle.office_law.proofs.Common.{◌≡◌, ◌≢◌, ◌<◌, ◌∙◌, ◌==◌, ◌||◌, not, Bool, true, false, cond, ℕ, zero, suc, List}
use Rattle.office_law.proofs.Common.{[], ◌∷◌, ◌++◌, length, get_or, Contains, inl, inr, refl, sym, ap, subst, arith}
use Rattle.office_law.proofs.Common.{eq-eqb, All, filter, list_any, Equal, cond_both, false_from_ne_true, false≢true}
use Rattle.office_law.proofs.Common.{not-true, nat_tests, nat_cmp_total, on_total, ranked, length-append, length-map}
use Rattle.office_law.proofs.Common.{All-contains, All-filter, All-map, All-push, All-weaker, filter_passes}
use Rattle.office_law.proofs.Common.{list_any-append, list_any_at, list_any_none, put, All-put, IsStrictlySortedBy-put}
use Rattle.office_law.proofs.Common.{IsIdentifier, dbc_number, Ident, message_limit, IsSheet, has_number, number_of}
use Rattle.office_law.proofs.Common.{IsClearSheet, Message, Sheet, Signal, IsPlainName, by_number, live_messages}
use Rattle.office_law.proofs.Common.{sheet_of, sheet_with, LiveMessage, Net, Draft, has_ident, is_held, is_live}
use Rattle.office_law.proofs.Common.{same_ident, was_released, AreLive, IsNet, with_message, Entries, retired}
use Rattle.office_law.proofs.Common.{with_held, without_message, in_phase, release_limit, with_release, with_signals}
use Rattle.office_types.specs.State.{by_ident}
use Rattle.office_rules.specs.Facts.{in_last}
use Rattle.office_rules.specs.Kept.{AgreeOnNames, AreHeld, AreReleases, HaveOneName, IsLiveOrHeld, IsStillLive}
use Rattle.office_law.proofs.Idents.{is_released, names_of_live, not_held, not_live, same_ident-from, same_ident-true}
use Rattle.office_law.proofs.Idents.{same_number}
use Rattle.office_law.proofs.KeptBlocks.{IsNet-in_phase}
use Rattle.office_law.proofs.Lists.{All-from_contains, Contains-from_put, Contains-later, Contains-put}
use Rattle.office_law.proofs.Lists.{Contains-put_other, one_of_key}
use Rattle.office_law.proofs.Sheets.{AreLive-put, AreLive-without, Contains-map, keeps_message, messages-put}
use Rattle.office_law.proofs.Sheets.{messages-replaced}
use Rattle.office_law.proofs.ChangesByTests.{CanChange, CanJoin}

-- Live messages have identifiers, and no two have one.

pub is_identifier : (frame : Sheet) (live : List LiveMessage) (m : LiveMessage) → AreLive frame live → Contains live m
    → IsIdentifier m.message.ident
is_identifier frame live m h c =
    (keeps_message (sheet_with frame live) m.message h.sheet
    (Contains-map (λ (l : LiveMessage). l.message) live m c)).form.ident

pub one_live : (frame : Sheet) (live : List LiveMessage) (a b : LiveMessage) → AreLive frame live → Contains live a
    → Contains live b
    → dbc_number a.message.ident ≡ dbc_number b.message.ident → a.message ≡ b.message
one_live frame live a b h c d e =
    one_of_key number_of (live_messages live) h.sheet.well_formed.together.ascending a.message b.message
    (Contains-map (λ (l : LiveMessage). l.message) live a c) (Contains-map (λ (l : LiveMessage). l.message) live b d) e

-- a live message that was released is in the last release
abbrev IsInLast : List Sheet → LiveMessage → Type 0
IsInLast releases m = was_released releases m.message.ident ≡ in_last releases m.message.ident

-- Releases stay as they are where what was live or held still is.
pub AreReleases-still : (live next : List LiveMessage) (held then : List Ident) (releases : List Sheet)
    → ((s : Sheet) (m : Message) → Contains releases s → Contains s.messages m → IsLiveOrHeld live held m
    → IsLiveOrHeld next then m)
    → AreReleases live held releases → All (IsInLast releases) next → AreReleases next then releases
AreReleases-still live next held then releases still h last = record {
  sheets = h.sheets;
  clear = h.clear;
  few = h.few;
  kept = All-from_contains (λ s. All (IsLiveOrHeld next then) s.messages) releases (λ s c.
      All-from_contains (IsLiveOrHeld next then) s.messages (λ m d.
      still s m c d (All-contains (IsLiveOrHeld live held) s.messages m
      (All-contains (λ t. All (IsLiveOrHeld live held) t.messages) releases s h.kept c) d)));
  one_name = h.one_name;
  last = last;
}

-- what the last release has was released
pub last_released : (releases : List Sheet) (i : Ident) → in_last releases i ≡ true → was_released releases i ≡ true
last_released [] i is = absurd (false≢true is)
last_released (s ∷ []) i is = ap (λ b. b || false) is
last_released (s ∷ t ∷ releases) i is = or_later (has_number s.messages (dbc_number i)) (was_released (t ∷ releases) i)
    (last_released (t ∷ releases) i is)
  where
    or_later : (a b : Bool) → b ≡ true → (a || b) ≡ true
    or_later true b is = refl
    or_later false b is = is

-- an identifier that is neither live nor held was never released
pub never_released : (net : Net) (i : Ident) → IsNet net → IsIdentifier i → is_live net i ≡ false
    → is_held net i ≡ false → was_released net.releases i ≡ false
never_released net i h form unlive unheld =
    list_any_none (λ (s : Sheet). has_number s.messages (dbc_number i)) net.releases
    (All-from_contains _ net.releases (λ s c.
    list_any_none (λ (m : Message). number_of m == dbc_number i) s.messages (All-from_contains _ s.messages (λ m d.
    false_from_ne_true _ (λ e. other s m c d (one_number (number_of m) (dbc_number i) e))))))
  where
    one_number : (a b : ℕ) → (a == b) ≡ true → a ≡ b
    one_number a b e = grind (arith, nat_tests)

    kept : (s : Sheet) (m : Message) → Contains net.releases s → Contains s.messages m
        → IsLiveOrHeld net.live net.held m
    kept s m c d = All-contains (IsLiveOrHeld net.live net.held) s.messages m
        (All-contains (λ t. All (IsLiveOrHeld net.live net.held) t.messages) net.releases s h.releases.kept c) d

    other : (s : Sheet) (m : Message) → Contains net.releases s → Contains s.messages m → number_of m ≡ dbc_number i → ⊥
    other s m c d e =
        let same : m.ident ≡ i =
        same_number m.ident i (keeps_message s m (All-contains IsSheet net.releases s h.releases.sheets c)
        d).form.ident form e in
        elim (kept s m c d) [
          | inl live ↦ not_live net i live.now unlive live.there (live.ident ∙ same)
          | inr held ↦ not_held net i unheld (subst (Contains net.held) same held)
        ]

-- so if it becomes live, nothing is claimed of the last release
unreleased_last : (releases : List Sheet) (i : Ident) → was_released releases i ≡ false
    → was_released releases i ≡ in_last releases i
unreleased_last releases i none =
    none ∙ sym (false_from_ne_true _ (λ is. false≢true (sym none ∙ last_released releases i is)))

-- a message among live ones where none has its identifier
pub still_live-put : (frame : Sheet) (live : List LiveMessage) (x : LiveMessage) (m : Message) → AreLive frame live
    → IsIdentifier x.message.ident
    → ((y : LiveMessage) → Contains live y → y.message.ident ≢ x.message.ident) → IsStillLive live m
    → IsStillLive (put by_number x live) m
still_live-put frame live x m h form new w = elim (Contains-put_other by_number x w.now live w.there) [
  | inl there ↦ record { now = w.now; there = there; ident = w.ident; name = w.name }
  | inr equal ↦ absurd (
      let same : dbc_number x.message.ident ≡ dbc_number w.now.message.ident = ranked _ _ Equal (sym equal) in
      new w.now w.there (same_number w.now.message.ident x.message.ident (is_identifier frame live w.now h w.there) form
      (sym same)))
]

-- a network with one live message more, which may have signals
pub IsNet-joined : (net : Net) (m : LiveMessage) → IsNet net → CanJoin net m → length net.live < message_limit
    → IsNet (with_message net m)
IsNet-joined net m h can few = record {
  named = h.named;
  head = h.head;
  live = AreLive-put net.head.frame net.live m h.live can.form can.owner can.clear
      (messages-put (live_messages net.live) m.message h.live.sheet.well_formed.together
      (names_of_live net.live m.message.name ∙ can.unnamed)
      (subst (λ n. n < message_limit) (sym (length-map net.live (λ (l : LiveMessage). l.message))) few));
  blocks = h.blocks;
  held = record {
    identifiers = h.held.identifiers;
    rising = h.held.rising;
    released = h.held.released;
    apart = All-put (λ o. Contains net.held o.message.ident → ⊥) by_number m net.live
        (not_held net m.message.ident can.free) h.held.apart;
  };
  approvals = h.approvals;
  releases = AreReleases-still net.live (put by_number m net.live) net.held net.held net.releases (λ s x c d w. elim w [
    | inl live ↦ inl (still_live-put net.head.frame net.live m x h.live can.form.form.ident
        (λ y there. not_live net m.message.ident y can.new there) live)
    | inr held ↦ inr held
  ]) h.releases (All-put (IsInLast net.releases) by_number m net.live
      (unreleased_last net.releases m.message.ident
      (never_released net m.message.ident h can.form.form.ident can.new can.free)) h.releases.last);
}

-- a network with a live message whose signals are others
pub IsNet-changed : (net : Net) (e : Entries) (m : LiveMessage) (signals : List Signal) → IsNet net
    → CanChange net e m signals → IsNet (with_message net (with_signals m signals))
IsNet-changed net e m signals h can = record {
  named = h.named;
  head = h.head;
  live = AreLive-put net.head.frame net.live (with_signals m signals) h.live can.form
      (All-contains (λ o. IsPlainName o.owner) net.live m h.live.owned can.there) can.clear
      (messages-replaced (live_messages net.live) m.message (with_signals m signals).message
      h.live.sheet.well_formed.together
      (Contains-map (λ (l : LiveMessage). l.message) net.live m can.there) refl refl);
  blocks = h.blocks;
  held = record {
    identifiers = h.held.identifiers;
    rising = h.held.rising;
    released = h.held.released;
    apart = All-put (λ o. Contains net.held o.message.ident → ⊥) by_number (with_signals m signals) net.live
        (All-contains (λ o. Contains net.held o.message.ident → ⊥) net.live m h.held.apart can.there) h.held.apart;
  };
  approvals = h.approvals;
  releases = AreReleases-still net.live (put by_number (with_signals m signals) net.live) net.held net.held net.releases
      (λ s x c d w. elim w [
        | inl live ↦ inl (replaced x live)
        | inr held ↦ inr held
      ]) h.releases (All-put (IsInLast net.releases) by_number (with_signals m signals) net.live
      (All-contains (IsInLast net.releases) net.live m h.releases.last can.there) h.releases.last);
}
  where
    replaced : (x : Message) → IsStillLive net.live x → IsStillLive (put by_number (with_signals m signals) net.live) x
    replaced x w = elim (Contains-put_other by_number (with_signals m signals) w.now net.live w.there) [
      | inl there ↦ record { now = w.now; there = there; ident = w.ident; name = w.name }
      | inr equal ↦ (
          let same : m.message ≡ w.now.message =
          one_live net.head.frame net.live m w.now h.live can.there w.there (ranked _ _ Equal (sym equal)) in
          record {
            now = with_signals m signals;
            there = Contains-put by_number (with_signals m signals) net.live;
            ident = ap (λ (v : Message). v.ident) same ∙ w.ident;
            name = ap (λ (v : Message). v.name) same ∙ w.name;
          })
    ]

-- Taking a live message out.

pub Contains-filter : {A : Type 0} (p : A → Bool) (x : A) (xs : List A) → Contains xs x → p x ≡ true
    → Contains (filter p xs) x
Contains-filter p x xs c passes = kept xs c.0 c.1 c.2
  where
    kept : (ys : List _) (k : ℕ) → k < length ys → get_or ys k x ≡ x → Contains (filter p ys) x
    kept [] k lt e = absurd (omega arith)
    kept (y ∷ ys) zero lt e =
        subst (λ b. Contains (cond b (y ∷ filter p ys) (filter p ys)) x) (sym (ap p e ∙ passes)) (0, omega arith, e)
    kept (y ∷ ys) (suc k) lt e =
        let later = kept ys k (omega arith) e in
        cond_both (p y) (y ∷ filter p ys) (filter p ys) (λ zs. Contains zs x)
        (λ _. Contains-later y x (filter p ys) later) (λ _. later)

-- the network without the message of the identifier, and with these held
without : (net : Net) (i : Ident) (held : List Ident) → IsNet net
    → AreHeld (filter (λ m. not (has_ident i m)) net.live) net.releases held
    → ((s : Sheet) (m : Message) → Contains net.releases s → Contains s.messages m → m.ident ≡ i → Contains held i)
    → ((j : Ident) → Contains net.held j → Contains held j)
    → IsNet (record (without_message net i) { held = held })
without net i held h are_held gone stays = record {
  named = h.named;
  head = h.head;
  live = AreLive-without net.head.frame net.live i h.live;
  blocks = h.blocks;
  held = are_held;
  approvals = h.approvals;
  releases = AreReleases-still net.live (filter (λ m. not (has_ident i m)) net.live) net.held held net.releases
      (λ s m c d w. elim w [
        | inl live ↦ by_ident s m c d live (same_ident live.now.message.ident i) refl
        | inr was ↦ inr (stays m.ident was)
      ]) h.releases (All-filter (λ m. not (has_ident i m)) (IsInLast net.releases) net.live h.releases.last);
}
  where
    by_ident : (s : Sheet) (m : Message) → Contains net.releases s → Contains s.messages m
        → (w : IsStillLive net.live m) → (b : Bool) → same_ident w.now.message.ident i ≡ b
        → IsLiveOrHeld (filter (λ l. not (has_ident i l)) net.live) held m
    by_ident s m c d w true e =
        let is : m.ident ≡ i = sym w.ident ∙ same_ident-true w.now.message.ident i e in
        inr (subst (Contains held) (sym is) (gone s m c d is))
    by_ident s m c d w false e = inl (record {
      now = w.now;
      there = Contains-filter (λ l. not (has_ident i l)) w.now net.live w.there (ap not e);
      ident = w.ident;
      name = w.name;
    })

-- what is left after the message went has another identifier
not_gone : (net : Net) (i : Ident) (m : LiveMessage) → Contains (filter (λ l. not (has_ident i l)) net.live) m
    → m.message.ident ≢ i
not_gone net i m c e =
    false≢true (sym (not-true _
    (All-contains (λ l. not (has_ident i l) ≡ true) (filter (λ l. not (has_ident i l)) net.live) m
    (filter_passes (λ l. not (has_ident i l)) net.live) c))
    ∙ same_ident-from m.message.ident i e)

retired_held : (net : Net) (i : Ident) → IsNet net → IsIdentifier i → was_released net.releases i ≡ true
    → IsNet (with_held (without_message net i) i)
retired_held net i h form released =
    without net i (put by_ident i net.held) h
    (record {
      identifiers = All-put IsIdentifier by_ident i net.held form h.held.identifiers;
      rising = IsStrictlySortedBy-put by_ident (on_total dbc_number nat_cmp_total) i net.held h.held.rising;
      released = All-put (λ j. was_released net.releases j ≡ true) by_ident i net.held released h.held.released;
      apart = All-from_contains (λ m. Contains (put by_ident i net.held) m.message.ident → ⊥)
          (filter (λ m. not (has_ident i m)) net.live) (λ m c in_held.
          elim (Contains-from_put by_ident i m.message.ident net.held in_held) [
            | inl same ↦ not_gone net i m c same
            | inr was ↦ All-contains (λ o. Contains net.held o.message.ident → ⊥)
                (filter (λ l. not (has_ident i l)) net.live) m
                (All-filter (λ l. not (has_ident i l)) (λ o. Contains net.held o.message.ident → ⊥) net.live
                h.held.apart) c was
          ]);
    })
    (λ s m c d same. Contains-put by_ident i net.held)
    (λ j was. elim (Contains-put_other by_ident i j net.held was) [
      | inl there ↦ there
      | inr equal ↦ (
          let same : i ≡ j = same_number i j form (All-contains IsIdentifier net.held j h.held.identifiers was)
          (ranked _ _ Equal (sym equal)) in
          subst (Contains (put by_ident i net.held)) same (Contains-put by_ident i net.held))
    ])

retired_free : (net : Net) (i : Ident) → IsNet net → was_released net.releases i ≡ false → IsNet (without_message net i)
retired_free net i h free =
    without net i net.held h
    (record {
      identifiers = h.held.identifiers;
      rising = h.held.rising;
      released = h.held.released;
      apart = All-filter (λ l. not (has_ident i l)) (λ o. Contains net.held o.message.ident → ⊥) net.live h.held.apart;
    })
    (λ s m c d same. absurd (false≢true
    (sym free ∙ subst (λ j. was_released net.releases j ≡ true) same (is_released net.releases s m c d))))
    (λ j was. was)

-- a network without one of its live messages
pub IsNet-retired : (net : Net) (m : LiveMessage) → IsNet net → Contains net.live m
    → IsNet (retired net m.message.ident)
IsNet-retired net m h c =
    let i = m.message.ident in
    cond_both (was_released net.releases i) (with_held (without_message net i) i) (without_message net i) IsNet
    (λ released. retired_held net i h (is_identifier net.head.frame net.live m h.live c) released)
    (λ free. retired_free net i h free)

-- Freezing the live sheet.

-- a released message has the name of the live one of its identifier
named_so : (net : Net) (m : Message) (l : LiveMessage) → IsNet net → IsLiveOrHeld net.live net.held m
    → Contains net.live l → m.ident ≡ l.message.ident → m.name ≡ l.message.name
named_so net m l h w c e = elim w [
  | inl live ↦ (
      let same : live.now.message ≡ l.message =
      one_live net.head.frame net.live live.now l h.live live.there c (ap dbc_number (live.ident ∙ e)) in
      sym live.name ∙ ap (λ (v : Message). v.name) same)
  | inr held ↦ absurd (All-contains (λ o. Contains net.held o.message.ident → ⊥) net.live l h.held.apart c
      (subst (Contains net.held) e held))
]

still : (net : Net) (l : LiveMessage) → Contains net.live l → IsLiveOrHeld net.live net.held l.message
still net l c = inl (record { now = l; there = c; ident = refl; name = refl })

-- what holds of each live message holds of each of the live sheet
of_live : (P : Message → Type 0) (net : Net) → ((l : LiveMessage) → Contains net.live l → P l.message)
    → All P (sheet_of net).messages
of_live P net h = All-map P (λ (l : LiveMessage). l.message) net.live (All-from_contains (λ l. P l.message) net.live h)

released_more : (releases : List Sheet) (s : Sheet) (i : Ident) → was_released releases i ≡ true
    → was_released (releases ++ s ∷ []) i ≡ true
released_more releases s i h =
    list_any-append (λ (t : Sheet). has_number t.messages (dbc_number i)) releases (s ∷ [])
    ∙ ap (λ b. b || list_any (λ (t : Sheet). has_number t.messages (dbc_number i)) (s ∷ [])) h

-- the release that was added is the last
last_of_more : (releases : List Sheet) (s : Sheet) (i : Ident)
    → in_last (releases ++ s ∷ []) i ≡ has_number s.messages (dbc_number i)
last_of_more [] s i = refl
last_of_more (t ∷ []) s i = refl
last_of_more (t ∷ u ∷ releases) s i = last_of_more (u ∷ releases) s i

-- a sheet has the number of a message of it
is_number : (s : Sheet) (m : Message) → Contains s.messages m → has_number s.messages (dbc_number m.ident) ≡ true
is_number s m d =
    list_any_at (λ (x : Message). number_of x == dbc_number m.ident) s.messages d.0 m d.1
    (ap (λ (x : Message). number_of x == dbc_number m.ident) d.2 ∙ eq-eqb (number_of m) (number_of m) refl)

IsNet-with_release : (net : Net) → IsNet net → length net.releases < release_limit
    → IsNet (with_release net (sheet_of net))
IsNet-with_release net h few = record {
  named = h.named;
  head = h.head;
  live = h.live;
  blocks = h.blocks;
  held = record {
    identifiers = h.held.identifiers;
    rising = h.held.rising;
    released = All-weaker (λ i. was_released net.releases i ≡ true)
        (λ i. was_released (net.releases ++ sheet_of net ∷ []) i ≡ true)
        (released_more net.releases (sheet_of net)) net.held h.held.released;
    apart = h.held.apart;
  };
  approvals = h.approvals;
  releases = record {
    sheets = All-push IsSheet net.releases (sheet_of net) h.releases.sheets h.live.sheet;
    clear = All-push IsClearSheet net.releases (sheet_of net) h.releases.clear h.live.clear;
    few = let l = length-append net.releases (sheet_of net ∷ []) in omega (arith, l, few);
    kept = All-push (λ s. All (IsLiveOrHeld net.live net.held) s.messages) net.releases (sheet_of net) h.releases.kept
        (of_live (IsLiveOrHeld net.live net.held) net (still net));
    one_name = All-push (λ s. All (AgreeOnNames s) (net.releases ++ sheet_of net ∷ [])) net.releases (sheet_of net)
        (All-from_contains (λ s. All (AgreeOnNames s) (net.releases ++ sheet_of net ∷ [])) net.releases
        (λ s c. All-push (AgreeOnNames s) net.releases (sheet_of net)
        (All-contains (λ t. All (AgreeOnNames t) net.releases) net.releases s h.releases.one_name c) (old_new s c)))
        (All-push (AgreeOnNames (sheet_of net)) net.releases (sheet_of net)
        (All-from_contains (AgreeOnNames (sheet_of net)) net.releases new_old) new_new);
    last = All-from_contains (IsInLast (net.releases ++ sheet_of net ∷ [])) net.live (λ l there.
        let now : has_number (sheet_of net).messages (dbc_number l.message.ident) ≡ true =
        is_number (sheet_of net) l.message (Contains-map (λ (o : LiveMessage). o.message) net.live l there) in
        let in_it = last_of_more net.releases (sheet_of net) l.message.ident ∙ now in
        last_released (net.releases ++ sheet_of net ∷ []) l.message.ident in_it ∙ sym in_it);
  };
}
  where
    kept_at : (s : Sheet) (m : Message) → Contains net.releases s → Contains s.messages m
        → IsLiveOrHeld net.live net.held m
    kept_at s m c d = All-contains (IsLiveOrHeld net.live net.held) s.messages m
        (All-contains (λ t. All (IsLiveOrHeld net.live net.held) t.messages) net.releases s h.releases.kept c) d

    old_new : (s : Sheet) → Contains net.releases s → AgreeOnNames s (sheet_of net)
    old_new s c = All-from_contains (λ m. All (HaveOneName m) (sheet_of net).messages) s.messages
        (λ m d. of_live (HaveOneName m) net (λ l there e. named_so net m l h (kept_at s m c d) there e))

    new_old : (s : Sheet) → Contains net.releases s → AgreeOnNames (sheet_of net) s
    new_old s c = of_live (λ m. All (HaveOneName m) s.messages) net
        (λ l there. All-from_contains (HaveOneName l.message) s.messages
        (λ m d e. sym (named_so net m l h (kept_at s m c d) there (sym e))))

    new_new : AgreeOnNames (sheet_of net) (sheet_of net)
    new_new = of_live (λ m. All (HaveOneName m) (sheet_of net).messages) net
        (λ k there. of_live (HaveOneName k.message) net
        (λ l also e. named_so net k.message l h (still net k there) also e))

-- a network with one release more, in draft
pub IsNet-released : (net : Net) → IsNet net → length net.releases < release_limit
    → IsNet (in_phase (with_release net (sheet_of net)) Draft)
IsNet-released net h few = IsNet-in_phase (with_release net (sheet_of net)) Draft (IsNet-with_release net h few) tt
