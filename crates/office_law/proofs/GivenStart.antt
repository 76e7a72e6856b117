-- The start that `take_bits` gives out.
use Rattle.office_law.proofs.Common.{◌≡◌, ◌<◌, ◌+◌, ◌*◌, ◌∙◌, min, false, ℕ, List, [], ◌∷◌, ◌++◌, Option, Some, None}
use Rattle.office_law.proofs.Common.{inl, inr, refl, sym, ap, subst, is_none, is_some, if◌then◌else◌, Test}
use Rattle.office_law.proofs.Common.{first_clash_of, least_start_of, place_from, start_if_clear, Clash, GREATEST_START}
use Rattle.office_law.proofs.Common.{Place, clear_from_none, none_from_clear, found_first, places_of, TakeBits, Refusal}
use Rattle.office_law.proofs.Common.{Reply, Start, LiveMessage, Net, live_named, message_facts, with_message, Entries}
use Rattle.office_law.proofs.Common.{no_entries, Outcome, Changing, given_or, on_net, new_signal, place_at, start_given}
use Rattle.office_law.proofs.Common.{take_bits, take_bits_tests, with_last_signal}
use Rattle.std.proofs.lemmas.Bool.{cases_lt}
use Rattle.bitlayout.specs.Start.{CanStartAt, IsLeastStart}
use Rattle.bitlayout.specs.declared.layout.Order.{Order}
use Rattle.bitlayout.specs.declared.place.Mux.{Mux}
use Rattle.office_types.specs.declared.refusal.Refusal.TheVariants as no
use Rattle.office_law.specs.Fresh.{GivesStart, IsStartChosen}
use Rattle.office_law.proofs.Inverting.{given, passed, same_Changing}
use Rattle.office_law.proofs.NoTestHolds.{NoneHolds}
use Rattle.office_law.proofs.PassedTests.{bits_passed}

-- ---- a search that found a start

module _ (places : List Place) (bytes size : ℕ) (order : Order) (mux : Mux) where
  started : (k start : ℕ) → start_if_clear places bytes size order mux k ≡ Some start → (start ≡ k)
      × CanStartAt places bytes size order mux k
  started k start e = by_clash (first_clash_of (places ++ place_from size order mux k ∷ []) bytes) refl e
    where
      by_clash : (o : Option Clash) → first_clash_of (places ++ place_from size order mux k ∷ []) bytes ≡ o
          → ◌≡◌ {A = Option ℕ} (if is_none o then Some k else None) (Some start)
          → (start ≡ k) × CanStartAt places bytes size order mux k
      by_clash None is h = (
        (let same : k ≡ start = cc in sym same),
        clear_from_none (places ++ place_from size order mux k ∷ []) bytes is,
      )
      by_clash (Some clash) is h = absurd (cc)

  not_earlier : (k : ℕ) → start_if_clear places bytes size order mux k ≡ None → CanStartAt places bytes size order mux k
      → ⊥
  not_earlier k none can =
      let found : start_if_clear places bytes size order mux k ≡ Some k =
      ap (λ (o : Option Clash). if is_none o then Some k else None)
      (none_from_clear (places ++ place_from size order mux k ∷ []) bytes can) in
      let both : ◌≡◌ {A = Option ℕ} (Some k) None = sym found ∙ none in cc

  pub least_found : (start : ℕ) → least_start_of places bytes size order mux ≡ Some start
      → IsLeastStart places bytes size order mux start
  least_found start e =
      let f = found_first (start_if_clear places bytes size order mux) (min (8 * bytes) (GREATEST_START + 1)) start e in
      let here = started f.index start f.at in (
        subst (CanStartAt places bytes size order mux) (sym here.0) here.1,
        λ other can. elim (cases_lt other start) [
          | inl earlier ↦ absurd (not_earlier other (f.none other (subst (λ n. other < n) here.0 earlier)) can)
          | inr not ↦ not
        ],
      )

-- ---- the command

module _ (team : List ℕ) (net : Net) (c : TakeBits) where
  -- the row of a command that names this message and wants this start
  abbrev row : Option LiveMessage → Option ℕ → List (Test Refusal)
  row found start = on_net (Some net)
      (λ n. take_bits_tests team (record { phase = n.head.phase; nodes = n.head.frame.nodes; found = found })
      (record c { start = start }))

  abbrev done : LiveMessage → ℕ → Outcome
  done m start = Changing (Start start) (with_message net (with_last_signal m (new_signal c start))) no_entries

  no_clash : (o : Option Clash) → is_some o ≡ false → o ≡ None
  no_clash None none = refl
  no_clash (Some clash) none = absurd (cc)

  abbrev IsGiven : LiveMessage → Option ℕ → ℕ → Type 0
  IsGiven m want start =
      CanStartAt (places_of m.message.signals) m.message.length c.size c.order c.mux start
      × IsStartChosen want (places_of m.message.signals) m.message.length c start

  clear_given : (m : LiveMessage) (want : Option ℕ) (start : ℕ) → NoneHolds (row (Some m) want)
      → start_given (places_of m.message.signals) m.message.length (record c { start = want }) ≡ Some start
      → IsGiven m want start
  clear_given m (Some n) start none e =
      let same : n ≡ start = cc in
      subst (λ k. CanStartAt (places_of m.message.signals) m.message.length c.size c.order c.mux k × (k ≡ n)) same (
        clear_from_none (places_of m.message.signals ++ place_at c n ∷ []) m.message.length
            (no_clash (first_clash_of (places_of m.message.signals ++ place_at c n ∷ []) m.message.length)
            (bits_passed net.head.frame.nodes (record c { start = Some n }) m none.1.1.1.1).start.1.0),
        refl,
      )
  clear_given m None start none e =
      let least = least_found (places_of m.message.signals) m.message.length c.size c.order c.mux start e in
      (least.0, least)

  pub starts : (after : Net) (reply : Reply) (e : Entries) → take_bits team (Some net) c ≡ Changing reply after e
      → GivesStart net c reply after e
  starts after reply e h =
      let found = live_named net.live c.path.message in
      let started : LiveMessage → Outcome =
      λ m. given_or no.NoRoom (start_given (places_of m.message.signals) m.message.length c) (done m) in
      let w = passed (on_net (Some net) (λ n. take_bits_tests team (message_facts n c.path.message) c))
      (given_or no.NoMessage found started) reply after e h in
      let m = given no.NoMessage found started reply after e w.1 in
      let g = given no.NoRoom (start_given (places_of m.0.message.signals) m.0.message.length c) (done m.0) reply after
      e m.2 in
      let it = clear_given m.0 c.start g.0 (subst (λ (o : Option LiveMessage). NoneHolds (row o c.start)) m.1 w.0)
      g.1 in
      let same = same_Changing (Start g.0) reply (with_message net (with_last_signal m.0 (new_signal c g.0))) after
      no_entries e g.2 in
      record {
        message = m.0;
        found = m.1;
        start = g.0;
        clear = it.0;
        chosen = it.1;
        reported = sym same.0;
        added = sym same.1;
        quiet = sym same.2;
      }
