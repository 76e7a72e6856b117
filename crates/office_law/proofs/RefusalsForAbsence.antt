-- Refusals for want of something.
use Rattle.office_law.proofs.Common.{◌≡◌, ◌<◌, ◌≤◌, ◌+◌, ◌*◌, min, cond, ◌⊎◌, ◌∙◌, ◌&&◌, ◌||◌, not, Bool, true, false}
use Rattle.office_law.proofs.Common.{ℕ, zero, suc, List, [], ◌∷◌, ◌++◌, Option, Some, None, inl, inr, refl, sym, ap}
use Rattle.office_law.proofs.Common.{subst, arith, is_none, AllByRecursion, list_any, false≢true, list_any-from_Any}
use Rattle.office_law.proofs.Common.{Test, IsMultiplexor, is_multiplexor, least_start_of, place_from, start_if_clear}
use Rattle.office_law.proofs.Common.{Clash, GREATEST_START, Place, is_multiplexor_decides, none_from_clear, place_of}
use Rattle.office_law.proofs.Common.{signal_is_multiplexor, places_of, Signal, block_form, group_form, IsLeastFree}
use Rattle.office_law.proofs.Common.{has_form, is_taken, least_free, number_form, Block, SpnBook, TakeBits, TakeIdent}
use Rattle.office_law.proofs.Common.{TakePgn, TakeSpn, NumberForm, Spn, Refusal, Reply, Number, Start, LiveMessage, Net}
use Rattle.office_law.proofs.Common.{least_free_is, blocks_of, group_facts, ident_facts, lies_in, live_named}
use Rattle.office_law.proofs.Common.{spn_blocks_of, taken_groups, taken_numbers, none_of, group_given, ident_with}
use Rattle.office_law.proofs.Common.{new_message, number_given, take_ident, take_ident_tests, take_pgn, take_pgn_tests}
use Rattle.office_law.proofs.Common.{with_message, Entries, no_entries, Outcome, Refusing, Changing, given_or, on_net}
use Rattle.office_law.proofs.Common.{new_signal, spn_entered, spn_given, start_given, take_bits, take_bits_tests}
use Rattle.office_law.proofs.Common.{take_spn, take_spn_tests, with_last_signal, with_spn, ident_of}
use Rattle.std.proofs.Common.{take}
use Rattle.std.specs.Prelude.{slice_get, Any}
use Rattle.std.specs.List.{IsDistinct}
use Rattle.bitlayout.specs.Start.{HasNoStart}
use Rattle.bitlayout.specs.declared.clash.Clash.TheVariants as clash
use Rattle.bitlayout.proofs.Naming.{first_law}
use Rattle.bitlayout.proofs.Search.{none_before}
use Rattle.bitlayout.proofs.Starts.{starts_in_payload}
use Rattle.dbc_sheet.specs.Signals.{HaveOneMultiplexor}
use Rattle.office_types.specs.Free.{is_free}
use Rattle.office_types.specs.Least.{IsLeastOf}
use Rattle.office_types.specs.declared.block.BlockForm.TheVariants as block
use Rattle.office_types.specs.declared.refusal.Refusal.TheVariants as no
use Rattle.office_types.proofs.Least.{least_once}
use Rattle.office_law.specs.Refusals.{HasNoRoom, LeastInsideBlocks, NeverTwoMultiplexors, RefusedForWant}
use Rattle.office_law.proofs.Lists.{none_from_is}
use Rattle.office_law.proofs.Inverting.{RefusedBy, refused, refused_by_those, those}

-- Lists that agree.

inside_alike : (a b c d : Bool) → (a ≡ true → c ≡ d) → (a && (b && not c)) ≡ (a && (b && not d))
inside_alike true b c d h = ap (λ x. b && not x) (h refl)
inside_alike false b c d h = refl

least_alike : (p q : ℕ → Bool) → ((n : ℕ) → p n ≡ q n) → (o : Option ℕ) → IsLeastOf p o → IsLeastOf q o
least_alike p q e None h = λ m t. h m (e m ∙ t)
least_alike p q e (Some x) h = (sym (e x) ∙ h.0, λ m t. h.1 m (e m ∙ t))

pub least_inside_blocks : LeastInsideBlocks
least_inside_blocks some taken blocks form h =
    least_once (is_free taken blocks form) _ _
    (least_alike (is_free some blocks form) (is_free taken blocks form)
    (λ n. inside_alike (lies_in n blocks) (has_form form n) (is_taken n some) (is_taken n taken) (h n)) _
    (least_free_is some blocks form))
    (least_free_is taken blocks form)

-- No number.

-- what is refused so where nothing is given
nothing_given : {A : Type 0} (q : Refusal) (o : Option A) (out : A → Outcome) → ((x : A) → out x ≡ Refusing q → ⊥)
    → given_or q o out ≡ Refusing q → o ≡ None
nothing_given q None out other h = refl
nothing_given q (Some x) out other h = absurd (other x h)

some_none : {A : Type 0} (x : A) → ◌≡◌ {A = Option A} (Some x) None → ⊥
some_none x e = cc

other_refusal : (q r : Refusal) → (q ≡ r → ⊥) → Refusing q ≡ Refusing r → ⊥
other_refusal q r other h = other (same q r h)
  where
    same : (a b : Refusal) → Refusing a ≡ Refusing b → a ≡ b
    same a b k = cc

changing_refusing : (r : Reply) (n : Net) (e : Entries) (q : Refusal) → Changing r n e ≡ Refusing q → ⊥
changing_refusing r n e q h = cc

empty_from : {A : Type 0} (xs : List A) → none_of xs ≡ true → xs ≡ []
empty_from [] h = refl
empty_from (x ∷ xs) h = absurd (false≢true h)

no_least : (taken : List ℕ) (blocks : List Block) (form : NumberForm) → least_free taken blocks form ≡ None
    → IsLeastFree taken blocks form None
no_least taken blocks form e = subst (IsLeastFree taken blocks form) e (least_free_is taken blocks form)

-- Identifiers.

module _ (team : List ℕ) (net : Net) (c : TakeIdent) where
  -- the row of a command that wants this number
  abbrev ident_row : Option ℕ → List (Test Refusal)
  ident_row want = on_net (Some net)
      (λ n. take_ident_tests team (ident_facts n c.message.name c.form want) (record c { want = want }))

  abbrev ident_number : Option ℕ → Option ℕ
  ident_number want = number_given team (ident_facts net c.message.name c.form want) (record c { want = want })

  abbrev ident_done : ℕ → Outcome
  ident_done n = Changing (Number n) (with_message net (new_message team c.message (ident_of c.form n))) no_entries

  least_ident : least_free (taken_numbers net c.form) (blocks_of net.blocks team (block_form c.form))
      (number_form c.form) ≡ None
      → IsLeastFree (taken_numbers net c.form) (blocks_of net.blocks team (block_form c.form)) (number_form c.form) None
  least_ident e = no_least (taken_numbers net c.form) (blocks_of net.blocks team (block_form c.form))
      (number_form c.form) e

  ident_full : (want : Option ℕ) → RefusedBy (those 48 (ident_row want)) no.BlockFull ⊎ (ident_number want ≡ None)
      → (want ≡ None) × IsLeastFree (taken_numbers net c.form) (blocks_of net.blocks team (block_form c.form))
      (number_form c.form) None
  ident_full (Some n) (inl h) = absurd h
  ident_full (Some n) (inr h) = absurd (let e : ◌≡◌ {A = Option ℕ} (Some n) None = h in some_none n e)
  ident_full None (inl (inl h)) = (refl, least_ident (none_from_is _ h.0))
  ident_full None (inl (inr h)) = absurd h.1
  ident_full None (inr h) = (refl, least_ident h)

  ident_blocks : (want : Option ℕ) → RefusedBy (those 47 (ident_row want)) no.NoBlock
      → blocks_of net.blocks team (block_form c.form) ≡ []
  ident_blocks (Some n) (inl h) = empty_from (blocks_of net.blocks team (block_form c.form)) h.0
  ident_blocks (Some n) (inr h) = absurd h.1
  ident_blocks None (inl h) = empty_from (blocks_of net.blocks team (block_form c.form)) h.0
  ident_blocks None (inr h) = absurd h.1

  no_ident : take_ident team (Some net) c ≡ Refusing no.BlockFull
      → (c.want ≡ None) × IsLeastFree (taken_numbers net c.form) (blocks_of net.blocks team (block_form c.form))
      (number_form c.form) None
  no_ident h = elim (refused (ident_row c.want) (given_or no.BlockFull (ident_number c.want) ident_done) no.BlockFull h) [
    | inl by ↦ ident_full c.want (inl (refused_by_those (ident_row c.want) no.BlockFull by))
    | inr after ↦ ident_full c.want
        (inr (nothing_given no.BlockFull (ident_number c.want) ident_done
        (λ x e. changing_refusing _ _ _ no.BlockFull e) after.1))
  ]

  no_ident_block : take_ident team (Some net) c ≡ Refusing no.NoBlock → blocks_of net.blocks team (block_form c.form)
      ≡ []
  no_ident_block h = elim (refused (ident_row c.want) (given_or no.BlockFull (ident_number c.want) ident_done)
      no.NoBlock h) [
        | inl by ↦ ident_blocks c.want (refused_by_those (ident_row c.want) no.NoBlock by)
        | inr after ↦ absurd (never (ident_number c.want) after.1)
      ]
    where
      never : (o : Option ℕ) → given_or no.BlockFull o ident_done ≡ Refusing no.NoBlock → ⊥
      never None k = other_refusal no.BlockFull no.NoBlock (λ e. cc) k
      never (Some n) k = changing_refusing _ _ _ no.NoBlock k

-- Parameter groups.

module _ (team : List ℕ) (net : Net) (c : TakePgn) where
  abbrev group_row : List (Test Refusal)
  group_row = on_net (Some net) (λ n. take_pgn_tests team (group_facts n c.message.name) c)

  abbrev group_done : ℕ → Outcome
  group_done pgn = Changing (Number pgn) (with_message net (new_message team c.message (ident_with c pgn))) no_entries

  least_group : group_given team (group_facts net c.message.name) c ≡ None
      → IsLeastFree (taken_groups net) (blocks_of net.blocks team block.Pgn) (group_form c.pdu) None
  least_group e = no_least (taken_groups net) (blocks_of net.blocks team block.Pgn) (group_form c.pdu) e

  group_full : RefusedBy (those 48 group_row) no.BlockFull
      → IsLeastFree (taken_groups net) (blocks_of net.blocks team block.Pgn) (group_form c.pdu) None
  group_full (inl h) = least_group (none_from_is _ h.0)
  group_full (inr h) = absurd h.1

  group_blocks : RefusedBy (those 47 group_row) no.NoBlock → blocks_of net.blocks team block.Pgn ≡ []
  group_blocks (inl h) = empty_from (blocks_of net.blocks team block.Pgn) h.0
  group_blocks (inr h) = absurd h.1

  no_group : take_pgn team (Some net) c ≡ Refusing no.BlockFull
      → IsLeastFree (taken_groups net) (blocks_of net.blocks team block.Pgn) (group_form c.pdu) None
  no_group h =
      let group = group_given team (group_facts net c.message.name) c in
      elim (refused group_row (given_or no.BlockFull group group_done) no.BlockFull h) [
        | inl by ↦ group_full (refused_by_those group_row no.BlockFull by)
        | inr after ↦ least_group
            (nothing_given no.BlockFull group group_done (λ x e. changing_refusing _ _ _ no.BlockFull e) after.1)
      ]

  no_group_block : take_pgn team (Some net) c ≡ Refusing no.NoBlock → blocks_of net.blocks team block.Pgn ≡ []
  no_group_block h =
      let group = group_given team (group_facts net c.message.name) c in
      elim (refused group_row (given_or no.BlockFull group group_done) no.NoBlock h) [
        | inl by ↦ group_blocks (refused_by_those group_row no.NoBlock by)
        | inr after ↦ absurd (never group after.1)
      ]
    where
      never : (o : Option ℕ) → given_or no.BlockFull o group_done ≡ Refusing no.NoBlock → ⊥
      never None k = other_refusal no.BlockFull no.NoBlock (λ e. cc) k
      never (Some n) k = changing_refusing _ _ _ no.NoBlock k

-- Suspect parameter numbers.

module _ (team name : List ℕ) (net : Net) (book : SpnBook) (c : TakeSpn) where
  -- the row of a command that names this message and wants this number
  abbrev spn_row : Option LiveMessage → Option ℕ → List (Test Refusal)
  spn_row found same = on_net (Some net)
      (λ n. take_spn_tests team name (record { phase = n.head.phase; nodes = n.head.frame.nodes; found = found }) book
      (record c { same = same }))

  abbrev spn_number : Option ℕ → Option ℕ
  spn_number same = spn_given team name book (record c { same = same })

  abbrev spn_done : LiveMessage → ℕ → Outcome
  spn_done m n = Changing (Number n) (with_message net (with_spn m c.path.signal n)) (spn_entered n)

  least_spn : least_free book.used (spn_blocks_of book name team) Spn ≡ None
      → IsLeastFree book.used (spn_blocks_of book name team) Spn None
  least_spn e = no_least book.used (spn_blocks_of book name team) Spn e

  spn_full : (found : Option LiveMessage) (same : Option ℕ) → RefusedBy (those 48 (spn_row found same)) no.BlockFull
      ⊎ (spn_number same ≡ None)
      → (same ≡ None) × IsLeastFree book.used (spn_blocks_of book name team) Spn None
  spn_full None same (inl h) = absurd h
  spn_full (Some m) (Some n) (inl h) = absurd h
  spn_full (Some m) None (inl (inl h)) = (refl, least_spn (none_from_is _ h.0))
  spn_full (Some m) None (inl (inr h)) = absurd h.1
  spn_full found (Some n) (inr h) = absurd (let e : ◌≡◌ {A = Option ℕ} (Some n) None = h in some_none n e)
  spn_full found None (inr h) = (refl, least_spn h)

  spn_no_block : (found : Option LiveMessage) (same : Option ℕ) → RefusedBy (those 47 (spn_row found same)) no.NoBlock
      → spn_blocks_of book name team ≡ []
  spn_no_block None same h = absurd h
  spn_no_block (Some m) (Some n) h = absurd h
  spn_no_block (Some m) None (inl h) = empty_from (spn_blocks_of book name team) h.0
  spn_no_block (Some m) None (inr h) = absurd h.1

  spn_after : (found : Option LiveMessage)
      → given_or no.NoMessage found (λ m. given_or no.BlockFull (spn_given team name book c) (spn_done m))
      ≡ Refusing no.BlockFull → spn_given team name book c ≡ None
  spn_after None h = absurd (other_refusal no.NoMessage no.BlockFull (λ e. cc) h)
  spn_after (Some m) h = nothing_given no.BlockFull (spn_given team name book c) (spn_done m)
      (λ x e. changing_refusing _ _ _ no.BlockFull e) h

  spn_never : (found : Option LiveMessage) (o : Option ℕ)
      → given_or no.NoMessage found (λ m. given_or no.BlockFull o (spn_done m)) ≡ Refusing no.NoBlock → ⊥
  spn_never None o h = other_refusal no.NoMessage no.NoBlock (λ e. cc) h
  spn_never (Some m) None h = other_refusal no.BlockFull no.NoBlock (λ e. cc) h
  spn_never (Some m) (Some n) h = changing_refusing _ _ _ no.NoBlock h

  no_spn : take_spn team name (Some net) book c ≡ Refusing no.BlockFull → (c.same ≡ None)
      × IsLeastFree book.used (spn_blocks_of book name team) Spn None
  no_spn h =
      let found = live_named net.live c.path.message in
      elim (refused (spn_row found c.same)
      (given_or no.NoMessage found (λ m. given_or no.BlockFull (spn_given team name book c) (spn_done m)))
      no.BlockFull h) [
        | inl by ↦ spn_full found c.same (inl (refused_by_those (spn_row found c.same) no.BlockFull by))
        | inr after ↦ spn_full found c.same (inr (spn_after found after.1))
      ]

  no_spn_block : take_spn team name (Some net) book c ≡ Refusing no.NoBlock → spn_blocks_of book name team ≡ []
  no_spn_block h =
      let found = live_named net.live c.path.message in
      elim (refused (spn_row found c.same)
      (given_or no.NoMessage found (λ m. given_or no.BlockFull (spn_given team name book c) (spn_done m)))
      no.NoBlock h) [
        | inl by ↦ spn_no_block found c.same (refused_by_those (spn_row found c.same) no.NoBlock by)
        | inr after ↦ absurd (spn_never found (spn_given team name book c) after.1)
      ]

-- Room for bits.

-- no start is clear where the search finds none
no_start : (places : List Place) (bytes : ℕ) (c : TakeBits) → 1 ≤ c.size
    → least_start_of places bytes c.size c.order c.mux ≡ None → HasNoStart places bytes c.size c.order c.mux
no_start places bytes c sized none start small can =
    let inside : start < 8 * bytes = starts_in_payload places bytes c.size c.order c.mux start sized can in
    let question = none_before (start_if_clear places bytes c.size c.order c.mux) (min (8 * bytes) (GREATEST_START + 1))
    none start (omega arith) in
    let clear = none_from_clear (places ++ place_from c.size c.order c.mux start ∷ []) bytes can in
    some_none start (subst (λ (o : Option Clash). ◌≡◌ {A = Option ℕ} (cond (is_none o) (Some start) None) None) clear
    question)

module _ (team : List ℕ) (net : Net) (c : TakeBits) (sized : 1 ≤ c.size) where
  -- the row of a command that names this message and wants this start
  abbrev bits_row : Option LiveMessage → Option ℕ → List (Test Refusal)
  bits_row found start = on_net (Some net)
      (λ n. take_bits_tests team (record { phase = n.head.phase; nodes = n.head.frame.nodes; found = found })
      (record c { start = start }))

  abbrev bits_start : LiveMessage → Option ℕ → Option ℕ
  bits_start m start = start_given (places_of m.message.signals) m.message.length (record c { start = start })

  abbrev bits_done : LiveMessage → ℕ → Outcome
  bits_done m start = Changing (Start start) (with_message net (with_last_signal m (new_signal c start))) no_entries

  room_for : (m : LiveMessage) → live_named net.live c.path.message ≡ Some m → (start : Option ℕ) → c.start ≡ start
      → RefusedBy (those 60 (bits_row (Some m) start)) no.NoRoom ⊎ (bits_start m start ≡ None) → HasNoRoom net c
  room_for m e (Some n) s (inl h) = absurd h
  room_for m e (Some n) s (inr h) = absurd (let k : ◌≡◌ {A = Option ℕ} (Some n) None = h in some_none n k)
  room_for m e None s (inl (inl h)) =
      record {
        any = s;
        message = m;
        found = e;
        none =
            no_start (places_of m.message.signals) m.message.length c sized (none_from_is _ h.0);
      }
  room_for m e None s (inl (inr h)) = absurd h.1
  room_for m e None s (inr h) =
      record {
        any = s;
        message = m;
        found = e;
        none =
            no_start (places_of m.message.signals) m.message.length c sized h;
      }

  in_row : (found : Option LiveMessage) → live_named net.live c.path.message ≡ found
      → RefusedBy (those 60 (bits_row found c.start)) no.NoRoom → HasNoRoom net c
  in_row None e h = absurd h
  in_row (Some m) e h = room_for m e c.start refl (inl h)

  bits_after : (found : Option LiveMessage) → live_named net.live c.path.message ≡ found
      → given_or no.NoMessage found
      (λ m. given_or no.NoRoom (start_given (places_of m.message.signals) m.message.length c) (bits_done m))
      ≡ Refusing no.NoRoom → HasNoRoom net c
  bits_after None e h = absurd (other_refusal no.NoMessage no.NoRoom (λ k. cc) h)
  bits_after (Some m) e h =
      room_for m e c.start refl
      (inr (nothing_given no.NoRoom (start_given (places_of m.message.signals) m.message.length c) (bits_done m)
      (λ x k. changing_refusing _ _ _ no.NoRoom k) h))

  no_room : take_bits team (Some net) c ≡ Refusing no.NoRoom → HasNoRoom net c
  no_room h =
      let found = live_named net.live c.path.message in
      elim (refused (bits_row found c.start)
      (given_or no.NoMessage found
      (λ m. given_or no.NoRoom (start_given (places_of m.message.signals) m.message.length c) (bits_done m)))
      no.NoRoom h) [
        | inl by ↦ in_row found refl (refused_by_those (bits_row found c.start) no.NoRoom by)
        | inr after ↦ bits_after found refl after.1
      ]

pub refused_for_want : RefusedForWant
refused_for_want = record {
  no_ident = λ team net c h. no_ident team net c h;
  no_group = λ team net c h. no_group team net c h;
  no_spn = λ team name net book c h. no_spn team name net book c h;
  no_ident_block = λ team net c h. no_ident_block team net c h;
  no_group_block = λ team net c h. no_group_block team net c h;
  no_spn_block = λ team name net book c h. no_spn_block team name net book c h;
  no_room = λ team net c ok h. no_room team net c ok.least h;
}

-- Two multiplexors.

two_switches : (signals : List Signal) (i : ℕ) (place : Place) → HaveOneMultiplexor signals
    → slice_get (places_of signals) i ≡ Some place → is_multiplexor place.mux ≡ true
    → list_any (λ p. is_multiplexor p.mux) (take i (places_of signals)) ≡ true → ⊥
unfolding IsDistinct
two_switches [] i place one at switch earlier = cc
two_switches (s ∷ signals) zero place one at switch earlier = false≢true earlier
two_switches (s ∷ signals) (suc i) place one at switch earlier =
    by_first (signal_is_multiplexor s) refl (two_switches signals i place one.1 at switch) earlier
  where
    later_too : (ss : List Signal) (k : ℕ) → AllByRecursion (λ b. (true && signal_is_multiplexor b) ≡ false) ss
        → slice_get (places_of ss) k ≡ Some place → is_multiplexor place.mux ≡ true → ⊥
    later_too [] k each e m = cc
    later_too (t ∷ ss) zero each e m =
        (let same : place_of t ≡ place = cc in
        false≢true (sym each.0 ∙ ap (λ (p : Place). is_multiplexor p.mux) same ∙ m))
    later_too (t ∷ ss) (suc k) each e m = later_too ss k each.1 e m

    by_first : (b : Bool) → signal_is_multiplexor s ≡ b
        → (list_any (λ p. is_multiplexor p.mux) (take i (places_of signals)) ≡ true → ⊥)
        → (b || list_any (λ p. is_multiplexor p.mux) (take i (places_of signals))) ≡ true → ⊥
    by_first true e later h =
        later_too signals i (subst (λ v. AllByRecursion (λ b. (v && signal_is_multiplexor b) ≡ false) signals) e one.0)
        at switch
    by_first false e later h = later h

pub never_two : NeverTwoMultiplexors
never_two signals bytes index one e =
    let w = (first_law (places_of signals) bytes (clash.TwoMultiplexors index) e).there in
    two_switches signals index w.0 one w.1 ((is_multiplexor_decides w.0.mux).1 w.2.0)
    (list_any-from_Any (λ (p : Place). is_multiplexor p.mux) (take index (places_of signals)) (earlier w.2.1))
  where
    earlier : Any IsMultiplexor (take index (places_of signals))
        → Any (λ (p : Place). is_multiplexor p.mux ≡ true) (take index (places_of signals))
    earlier a = (a.0, a.1, a.2, a.3, (is_multiplexor_decides a.1.mux).1 a.4)
