-- The laws of reviews and releases.
use Rattle.office_law.proofs.Common.{◌≡◌, ℕ, true, List, [], ◌∷◌, Some, length, refl, ◌+◌, not, subst, nat_le, nat_lt}
use Rattle.office_law.proofs.Common.{leb-false, not-false, Test, first_refusal, Sheet, is_office, sheet_of, SpnBook}
use Rattle.office_law.proofs.Common.{Act, Refusal, Reply, Done, Net, Draft, Review, in_review, Entries, Outcome}
use Rattle.office_law.proofs.Common.{Changing, given_or, no_entries, on_net, refused_or, when, in_phase, release_tests}
use Rattle.office_law.proofs.Common.{with_approval, with_release, release_limit}
use Rattle.office_types.specs.declared.command.Action.TheVariants as act
use Rattle.office_types.specs.declared.refusal.Refusal.TheVariants as no
use Rattle.office_types.specs.declared.reply.Reply.TheVariants.{Release}
use Rattle.office_rules.specs.Reviewing.{review_tests, submit_tests, approve, reject, submit, release}
use Rattle.office_law.proofs.OutcomesAlike.{Alike, refused_alike, unless_with, w}
use Rattle.office_law.proofs.OutcomeFound.{decided_net, decided_office, refuses}
use Rattle.office_law.proofs.KeptBlocks.{IsNet-approved, IsNet-in_phase}
use Rattle.office_law.proofs.KeptEntered.{IsEntered-released}
use Rattle.office_law.proofs.KeptMessages.{IsNet-released}
use Rattle.office_law.proofs.NameAndReleasesStay.{left, left_net}
use Rattle.office_law.proofs.OfAction.{ActionLaws}
use Rattle.office_law.proofs.NoTestHolds.{leaves_unless}
use Rattle.office_law.proofs.Singles.{net_single}
use Rattle.office_law.proofs.WhatCommandsLeave.{Allowed, Goes, IsWellLeft, quiet, keeps_live}
use Rattle.office_law.proofs.PassedTests.{release_passed}

module _ (team name : List ℕ) (book : SpnBook) (net : Net) where
  abbrev way : Type 0 → Reply → Net → Entries → Type 0
  way inside r n e = Allowed team name book net inside → IsWellLeft name book n e

  goes_submit : Goes team name book net (Unit {0}) (submit team (Some net))
  goes_submit =
      leaves_unless (way (Unit {0})) (submit_tests (Some net))
      (given_or no.NoNet (Some net) (λ n. Changing Done (in_phase n (Review team)) no_entries))
      (λ free. keeps_live team name book net (Unit {0}) (in_phase net (Review team))
      (λ ok. IsNet-in_phase net (Review team) ok.net_is ok.team_is) refl refl refl)

  goes_approve : Goes team name book net (Unit {0}) (approve team (Some net))
  goes_approve =
      leaves_unless (way (Unit {0})) (review_tests team (Some net))
      (given_or no.NoNet (Some net) (λ n. Changing Done (with_approval n team) no_entries)) (λ free.
      keeps_live team name book net (Unit {0}) (with_approval net team)
      (λ ok. IsNet-approved net team ok.net_is
      (record { plain = ok.team_is; reviewed = not-false _ free.1.0; other = free.1.1.0 })) refl refl refl)

  goes_reject : Goes team name book net (Unit {0}) (reject team (Some net))
  goes_reject =
      leaves_unless (way (Unit {0})) (review_tests team (Some net))
      (given_or no.NoNet (Some net) (λ n. Changing Done (in_phase n Draft) no_entries))
      (λ free. keeps_live team name book net (Unit {0}) (in_phase net Draft)
      (λ ok. IsNet-in_phase net Draft ok.net_is tt) refl refl refl)

  goes_release : Goes team name book net (Unit {0}) (release team (Some net))
  goes_release =
      leaves_unless (way (Unit {0})) (release_tests team (Some net))
      (given_or no.NoNet (Some net)
      (λ n. Changing (Release (length n.releases + 1)) (in_phase (with_release n (sheet_of n)) Draft) no_entries))
      (λ free.
      λ ok.
      quiet name book (in_phase (with_release net (sheet_of net)) Draft)
      (IsNet-released net ok.net_is (leb-false _ (length net.releases) (release_passed team net free).room))
      ok.named ok.book_is
      (IsEntered-released book.used net Draft ok.numbers))

pub submit_laws : (team name : List ℕ) → ActionLaws team name act.Submit
submit_laws team name =
    let out : Net → Outcome = λ n. Changing Done (in_phase n (Review team)) no_entries in
    record {
      nowhere = λ _. (no.NoNet, λ book. refl);
      decided = λ book net. decided_net _ _ net (λ n _. tt);
      single = λ book net. net_single net _ (λ n. (tt, tt));
      left = λ book net. left_net (left name (Act act.Submit)) (submit_tests net) net out
          (λ n. record { answer = tt; part = refl; named = refl; releases = refl });
      kept = λ book net. goes_submit team name book net;
      releases = λ book net rs. unless_with rs (submit_tests (Some net)) (out net) (out (w rs net)) refl;
    }

pub approve_laws : (team name : List ℕ) → ActionLaws team name act.Approve
approve_laws team name =
    let out : Net → Outcome = λ n. Changing Done (with_approval n team) no_entries in
    record {
      nowhere = λ _. (no.NoNet, λ book. refl);
      decided = λ book net. decided_net _ _ net (λ n _. tt);
      single = λ book net. net_single net _ (λ n. (tt, (tt, tt)));
      left = λ book net. left_net (left name (Act act.Approve)) (review_tests team net) net out
          (λ n. record { answer = tt; part = refl; named = refl; releases = refl });
      kept = λ book net. goes_approve team name book net;
      releases = λ book net rs. unless_with rs (review_tests team (Some net)) (out net) (out (w rs net)) refl;
    }

pub reject_laws : (team name : List ℕ) → ActionLaws team name act.Reject
reject_laws team name =
    let out : Net → Outcome = λ n. Changing Done (in_phase n Draft) no_entries in
    record {
      nowhere = λ _. (no.NoNet, λ book. refl);
      decided = λ book net. decided_net _ _ net (λ n _. tt);
      single = λ book net. net_single net _ (λ n. (tt, (tt, tt)));
      left = λ book net. left_net (left name (Act act.Reject)) (review_tests team net) net out
          (λ n. record { answer = tt; part = refl; named = refl; releases = refl });
      kept = λ book net. goes_reject team name book net;
      releases = λ book net rs. unless_with rs (review_tests team (Some net)) (out net) (out (w rs net)) refl;
    }

-- `release`, by how many releases there are
tests_of : ℕ → List ℕ → Net → List (Test Refusal)
tests_of count team net =
    when (not (is_office team)) no.NotOffice
    ∷ on_net (Some net) (λ n.
    when (not (in_review n.head.phase)) no.NotInReview
    ∷ when (nat_lt (length n.approvals) n.head.reviews) no.NeedsMore
    ∷ when (nat_le release_limit count) no.TooMany ∷ [])

frozen : ℕ → List Sheet → Net → Outcome
frozen count rs net = Changing (Release (count + 1)) (in_phase (with_release (w rs net) (sheet_of net)) Draft)
    no_entries

released : ℕ → List ℕ → List Sheet → Net → Outcome
released count team rs net = refused_or (first_refusal (tests_of count team net)) (frozen count rs net)

release_alike : (rs qs : List Sheet) (team : List ℕ) (net : Net) → length rs ≡ length qs
    → Alike rs qs (release team (Some (w rs net))) (release team (Some (w qs net)))
unfolding frozen tests_of released
release_alike rs qs team net same =
    subst (λ count. Alike rs qs (release team (Some (w rs net))) (released count team qs net)) same
    (refused_alike rs qs (first_refusal (tests_of (length rs) team net)) (frozen (length rs) rs net)
    (frozen (length rs) qs net) (sheet_of net ∷ [], refl, refl))

pub release_laws : (team name : List ℕ) → ActionLaws team name act.Release
release_laws team name = record {
  nowhere = λ _.
      let both = refuses (first_refusal (when (not (is_office team)) no.NotOffice ∷ when true no.NoNet ∷ []))
      no.NoNet in (both.0, λ book. both.1);
  decided = λ book net. decided_office (not (is_office team)) _ _ net (λ n _. tt);
  single = λ book net. (tt, net_single net _ (λ n. (tt, (tt, (tt, tt)))));
  left = λ book net.
      left_net (left name (Act act.Release)) (release_tests team net) net
      (λ n. Changing (Release (length n.releases + 1)) (in_phase (with_release n (sheet_of n)) Draft) no_entries)
      (λ n. record { answer = tt; part = refl; named = refl; releases = refl });
  kept = λ book net. goes_release team name book net;
  releases = λ book net rs qs same. release_alike rs qs team net same;
}
