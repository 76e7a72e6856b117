-- The laws of `retire`.
use Rattle.office_law.proofs.Common.{◌≡◌, ℕ, List, Some, refl, ◌∙◌, cond_both, Ident, IsName, SpnBook, Act, Reply, Done}
use Rattle.office_law.proofs.Common.{LiveMessage, Net, live_named, message_facts, was_released, Entries, Outcome}
use Rattle.office_law.proofs.Common.{Changing, given_or, no_entries, on_net, retired, with_held, without_message}
use Rattle.office_types.specs.declared.command.Action.TheVariants as act
use Rattle.office_types.specs.declared.refusal.Refusal.TheVariants as no
use Rattle.office_rules.specs.Retiring.{retire_tests, retire}
use Rattle.office_law.proofs.OutcomeFound.{answered_requested, decided_net}
use Rattle.office_law.proofs.KeptEntered.{IsEntered-retired}
use Rattle.office_law.proofs.KeptMessages.{IsNet-retired}
use Rattle.office_law.proofs.NameAndReleasesStay.{IsLeft, left, left_message, either}
use Rattle.office_law.proofs.OfAction.{ActionLaws}
use Rattle.office_law.proofs.OnMessage.{found_there}
use Rattle.office_law.proofs.NoTestHolds.{leaves_given, leaves_unless}
use Rattle.office_law.proofs.Singles.{net_single, message_single}
use Rattle.office_law.proofs.WhatCommandsLeave.{Allowed, Goes, IsWellLeft, quiet}

module _ (team name : List ℕ) (book : SpnBook) (net : Net) where
  abbrev way : Type 0 → Reply → Net → Entries → Type 0
  way inside r n e = Allowed team name book net inside → IsWellLeft name book n e

  name_kept : (i : Ident) → (retired net i).name ≡ net.name
  name_kept i = cond_both (was_released net.releases i) (with_held (without_message net i) i) (without_message net i)
      (λ (v : Net). v.name ≡ net.name) (λ _. refl) (λ _. refl)

  goes_retire : (message : List ℕ) → Goes team name book net (IsName message) (retire team (Some net) message)
  goes_retire message =
      let inside = IsName message in
      let found = live_named net.live message in
      let done : LiveMessage → Outcome = λ m. Changing Done (retired net m.message.ident) no_entries in
      leaves_unless (way inside) (on_net (Some net) (λ n. retire_tests team (message_facts n message)))
      (given_or no.NoMessage found done) (λ free.
      leaves_given (way inside) no.NoMessage found done (λ m e ok.
      quiet name book (retired net m.message.ident) (IsNet-retired net m ok.net_is (found_there net message m e))
      (name_kept m.message.ident ∙ ok.named) ok.book_is
      (IsEntered-retired book.used net m.message.ident ok.numbers)))

pub retire_laws : (team name message : List ℕ) → ActionLaws team name (act.Retire message)
retire_laws team name message = record {
  nowhere = λ _. (no.NoNet, λ book. refl);
  decided = λ book net. decided_net _ _ net
      (λ n none. answered_requested no.NoMessage (live_named n.live message) _ _ none.1.0 none.1.1 (λ m _. tt));
  single = λ book net. net_single net _ (λ n. message_single team (message_facts n message) _ (λ m. tt));
  left = λ book net.
      left_message (left name (Act (act.Retire message)))
      (on_net net (λ n. retire_tests team (message_facts n message))) net message
      (λ n m. Changing Done (retired n m.message.ident) no_entries)
      (λ n m. either (λ after. IsLeft name (Act (act.Retire message)) (Some n) Done after)
      (was_released n.releases m.message.ident)
      (with_held (without_message n m.message.ident) m.message.ident) (without_message n m.message.ident)
      (record { answer = tt; part = refl; named = refl; releases = refl })
      (record { answer = tt; part = refl; named = refl; releases = refl }));
  kept = λ book net. goes_retire team name book net message;
  releases = λ book. tt;
}
