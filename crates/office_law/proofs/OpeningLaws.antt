-- The laws of the actions that open a network, grant a block and add a node.
use Rattle.office_law.proofs.Common.{◌≡◌, ℕ, Bool, true, false, List, [], ◌∷◌, Option, Some, None, length, refl, sym}
use Rattle.office_law.proofs.Common.{ap, ◌∙◌, cond, not, subst, ◌&&◌, false≢true, cond_both, leb-false, first_refusal}
use Rattle.office_law.proofs.Common.{IsName, Sheet, is_spn, IsRange, same_form, IsAction, is_office, SpnBook, Grant}
use Rattle.office_law.proofs.Common.{OpenNet, Act, Reply, Done, Net, is_granted, is_j1939, is_spn_granted}
use Rattle.office_law.proofs.Common.{add_node_tests, bare_net, grant_tests, granted, new_head, open_net_tests}
use Rattle.office_law.proofs.Common.{with_block, with_node, grant, is_block_taken, Entries, Outcome, Changing, given_or}
use Rattle.office_law.proofs.Common.{no_entries, refused_or, when}
use Rattle.office_types.specs.declared.block.BlockForm.{BlockForm}
use Rattle.office_types.specs.declared.block.BlockForm.TheVariants as block
use Rattle.office_types.specs.declared.command.Action.TheVariants as act
use Rattle.office_types.specs.declared.refusal.Refusal.TheVariants as no
use Rattle.office_rules.specs.Opening.{open_net, spn_entry, add_node}
use Rattle.office_law.specs.Released.{outcome_with}
use Rattle.office_law.proofs.OutcomesAlike.{unless_with, w}
use Rattle.office_law.proofs.OutcomeFound.{IsAnswered, decided_net, decided_office, decided_unless, refuses}
use Rattle.office_law.proofs.KeptBlocks.{IsNet-granted, IsNet-noded}
use Rattle.office_law.proofs.NameAndReleasesStay.{left, left_net, either}
use Rattle.office_law.proofs.OfAction.{ActionLaws}
use Rattle.office_law.proofs.OnSignals.{IsText-empty}
use Rattle.office_law.proofs.NoTestHolds.{Leaves, leaves_unless}
use Rattle.office_law.proofs.Singles.{net_single}
use Rattle.office_law.proofs.WhatCommandsLeave.{Allowed, Goes, IsWellLeft, grants_spns, keeps_live}
use Rattle.office_law.proofs.PassedTests.{grant_passed, node_passed}

-- ---- `open_net`

left_open : (team name : List ℕ) (net : Option Net) (c : OpenNet)
    → Leaves (left name (Act (act.OpenNet c)) net) (open_net team name net c)
left_open team name None c =
    leaves_unless (left name (Act (act.OpenNet c)) None) (open_net_tests team None)
    (Changing Done (bare_net name (new_head c)) no_entries)
    (λ _. record { answer = tt; part = refl; named = refl; releases = refl })
left_open team name (Some n) c =
    leaves_unless (left name (Act (act.OpenNet c)) (Some n)) (open_net_tests team (Some n))
    (Changing Done (bare_net name (new_head c)) no_entries)
    (λ none. absurd (false≢true (sym none.1.0)))

there : (rs : List Sheet) (b : Bool) (out other : Outcome)
    → ◌≡◌ {A = Outcome} (refused_or (elim b [ true ↦ Some no.NotOffice | false ↦ Some no.NetThere ]) other)
    (outcome_with rs (refused_or (elim b [ true ↦ Some no.NotOffice | false ↦ Some no.NetThere ]) out))
there rs true out other = refl
there rs false out other = refl

pub open_net_laws : (team name : List ℕ) (c : OpenNet) → ActionLaws team name (act.OpenNet c)
open_net_laws team name c = record {
  nowhere = λ other. absurd (false≢true (sym other));
  decided = λ book net. decided_unless (open_net_tests team net) _ (λ _. tt);
  single = λ book net. (tt, (tt, tt));
  left = λ book net. left_open team name net c;
  kept = λ book net. leaves_unless _ (open_net_tests team (Some net)) _ (λ none. absurd (false≢true (sym none.1.0)));
  releases = λ book net rs. there rs (not (is_office team)) (Changing Done (bare_net name (new_head c)) no_entries)
      (Changing Done (bare_net name (new_head c)) no_entries);
}

-- ---- `grant` and `add_node`

module _ (team name : List ℕ) (book : SpnBook) (net : Net) where
  abbrev way : Type 0 → Reply → Net → Entries → Type 0
  way inside r n e = Allowed team name book net inside → IsWellLeft name book n e

  block_taken : (c : Grant) → (b : Bool) → is_spn c.block.form ≡ b → is_block_taken net book c ≡ false
      → cond b (is_spn_granted book c.block) (is_granted net c.block) ≡ false
  block_taken c b e h = ap (λ t. cond t (is_spn_granted book c.block) (is_granted net c.block)) (sym e) ∙ h

  spn_form : (f : BlockForm) → is_spn f ≡ true → f ≡ block.Spn
  spn_form block.Spn h = refl
  spn_form b h = absurd (false≢true h)

  groups_allotted : (a b : Bool) → (a && not b) ≡ false → a ≡ true → b ≡ true
  groups_allotted true true h e = refl
  groups_allotted true false h e = absurd (false≢true (sym h))
  groups_allotted false b h e = absurd (false≢true e)

  goes_grant : (c : Grant) → Goes team name book net (IsAction (act.Grant c)) (grant team name (Some net) book c)
  goes_grant c =
      let inside = IsAction (act.Grant c) in
      leaves_unless (way inside) (grant_tests team (Some net) book c)
      (given_or no.NoNet (Some net) (λ n. granted name n c)) (λ free.
      cond_both (is_spn c.block.form) (Changing Done net (spn_entry name c))
      (Changing Done (with_block net (record { block = c.block; team = c.team })) no_entries)
      (Goes team name book net inside)
      (λ spn. grants_spns team name book net inside
      (record { net = name; team = c.team; first = c.block.first; last = c.block.last }) (λ ok. (
      let same : c.block ≡ record { form = block.Spn; first = c.block.first; last = c.block.last } =
      ap (λ f. record { form = f; first = c.block.first; last = c.block.last }) (spn_form c.block.form spn) in
      record {
        range = subst IsRange same ok.fields.1;
        net = ok.name_is;
        team = ok.fields.0;
        free = ap (is_spn_granted book) (sym same) ∙ block_taken c true spn (grant_passed team net book c free).free;
      })) refl)
      (λ other. keeps_live team name book net inside (with_block net (record { block = c.block; team = c.team }))
      (λ ok. IsNet-granted net (record { block = c.block; team = c.team }) ok.net_is (record {
        range = ok.fields.1;
        team = ok.fields.0;
        formed = other;
        groups = groups_allotted (same_form c.block.form block.Pgn) (is_j1939 net.head.kind)
            (grant_passed team net book c free).kind;
        free = block_taken c false other (grant_passed team net book c free).free;
      })) refl refl refl))

  goes_node : (node : List ℕ) → Goes team name book net (IsName node) (add_node (Some net) node)
  goes_node node =
      leaves_unless (way (IsName node)) (add_node_tests (Some net) node)
      (given_or no.NoNet (Some net)
      (λ n. Changing Done (with_node n (record { name = node; comment = [] })) no_entries)) (λ free.
      keeps_live team name book net (IsName node) (with_node net (record { name = node; comment = [] }))
      (λ ok. IsNet-noded net (record { name = node; comment = [] }) ok.net_is (record {
        form = record { named = ok.fields; comment = IsText-empty };
        unnamed = (node_passed net node free).unnamed;
        few = leb-false _ (length net.head.frame.nodes) (node_passed net node free).room;
      })) refl refl refl)

granted_with : (rs : List Sheet) (b : Bool) (done spared : Net → Outcome) (net : Net)
    → done (w rs net) ≡ outcome_with rs (done net) → spared (w rs net) ≡ outcome_with rs (spared net)
    → cond b (done (w rs net)) (spared (w rs net)) ≡ outcome_with rs (cond b (done net) (spared net))
granted_with rs true done spared net one two = one
granted_with rs false done spared net one two = two

pub grant_laws : (team name : List ℕ) (c : Grant) → ActionLaws team name (act.Grant c)
grant_laws team name c = record {
  nowhere = λ _.
      let both = refuses (first_refusal (when (not (is_office team)) no.NotOffice ∷ when true no.NoNet ∷ []))
      no.NoNet in (both.0, λ book. both.1);
  decided = λ book net. decided_office (not (is_office team)) _ (λ n. granted name n c) net
      (λ n _. either IsAnswered (is_spn c.block.form) _ _ tt tt);
  single = λ book net. (tt, net_single net _ (λ n. (tt, (tt, tt))));
  left = λ book net.
      left_net (left name (Act (act.Grant c))) (grant_tests team net book c) net (λ n. granted name n c) (λ n.
      either (Leaves (left name (Act (act.Grant c)) (Some n))) (is_spn c.block.form)
      (Changing Done n (spn_entry name c))
      (Changing Done (with_block n (record { block = c.block; team = c.team })) no_entries)
      (record { answer = tt; part = refl; named = refl; releases = refl })
      (record { answer = tt; part = refl; named = refl; releases = refl }));
  kept = λ book net. goes_grant team name book net c;
  releases = λ book net rs.
      unless_with rs (grant_tests team (Some net) book c) (granted name net c) (granted name (w rs net) c)
      (granted_with rs (is_spn c.block.form) (λ n. Changing Done n (spn_entry name c))
      (λ n. Changing Done (with_block n (record { block = c.block; team = c.team })) no_entries) net refl refl);
}

pub add_node_laws : (team name node : List ℕ) → ActionLaws team name (act.AddNode node)
add_node_laws team name node = record {
  nowhere = λ _. (no.NoNet, λ book. refl);
  decided = λ book net. decided_net _ _ net (λ n _. tt);
  single = λ book net. net_single net _ (λ n. (tt, (tt, (tt, tt))));
  left = λ book net.
      left_net (left name (Act (act.AddNode node))) (add_node_tests net node) net
      (λ n. Changing Done (with_node n (record { name = node; comment = [] })) no_entries)
      (λ n. record { answer = tt; part = refl; named = refl; releases = refl });
  kept = λ book net. goes_node team name book net node;
  releases = λ book net rs.
      let done : Net → Outcome = λ n. Changing Done (with_node n (record { name = node; comment = [] })) no_entries in
      unless_with rs (add_node_tests (Some net) node) (done net) (done (w rs net)) refl;
}
