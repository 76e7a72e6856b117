-- The laws of the actions that give out numbers of new messages.
use Rattle.office_law.proofs.Common.{◌≡◌, ℕ, true, false, List, Some, None, length, refl, ap, ◌∙◌, ◌≤◌, arith, ◌<◌}
use Rattle.office_law.proofs.Common.{nat_le, leb-false, nat_tests, All-nil, ident_of, IsIdentifier, fields_with, Ident}
use Rattle.office_law.proofs.Common.{message_limit, KeepsMessage, block_form, IsAction, group_form, least_free}
use Rattle.office_law.proofs.Common.{number_form, has_form, IsPlainName, SpnBook, NewMessage, Pdu, Addressed, Broadcast}
use Rattle.office_law.proofs.Common.{TakeIdent, TakePgn, Act, Reply, Number, Net, group_facts, ident_facts, blocks_of}
use Rattle.office_law.proofs.Common.{taken_numbers, is_live, group_of, is_held, is_named, taken_groups, group_given}
use Rattle.office_law.proofs.Common.{number_given, take_ident_tests, take_pgn_tests, with_message, new_message}
use Rattle.office_law.proofs.Common.{take_ident, take_pgn, address_of, ident_with, Entries, Outcome, Changing, given_or}
use Rattle.office_law.proofs.Common.{no_entries, on_net}
use Rattle.std.specs.List.{IsDistinct}
use Rattle.can_id.specs.J1939.{AreInRange, Fields, IsOfGroup, is_pgn, number_of, pgn_of}
use Rattle.can_id.proofs.Groups.{group_of_fields_with, page_bit_below}
use Rattle.can_id.proofs.Splits.{fields_of-number_of}
use Rattle.office_types.specs.Command.{IsNewMessage, IsPdu}
use Rattle.office_types.specs.declared.block.BlockForm.TheVariants as block
use Rattle.office_types.specs.declared.command.Action.TheVariants as act
use Rattle.office_types.specs.declared.refusal.Refusal.TheVariants as no
use Rattle.office_law.proofs.OutcomesAlike.{given_with, unless_with, w}
use Rattle.office_law.proofs.OutcomeFound.{answered_given, chosen_there, decided_net}
use Rattle.office_law.proofs.ClearSignals.{IsClear-none}
use Rattle.office_law.proofs.Fresh.{IsFreeNumber, free_given, free_least, identifier_of, other_group}
use Rattle.office_law.proofs.NameAndReleasesStay.{left, left_net}
use Rattle.office_law.proofs.OfAction.{ActionLaws}
use Rattle.office_law.proofs.OnSignals.{IsText-empty}
use Rattle.office_law.proofs.NoTestHolds.{leaves_given, leaves_unless}
use Rattle.office_law.proofs.Singles.{net_single, wanted_single}
use Rattle.office_law.proofs.ChangesByTests.{CanAdd}
use Rattle.office_law.proofs.WhatCommandsLeave.{Allowed, Goes, IsWellLeft, adds}
use Rattle.office_law.proofs.PassedTests.{group_passed, ident_passed}

-- Parameter groups that are requested.

pub is_group : (p : Pdu) (pgn : ℕ) → has_form (group_form p) pgn ≡ true → is_pgn pgn ≡ true
is_group (Addressed d) pgn h = grind (arith, nat_tests)
is_group Broadcast pgn h = grind (arith, nat_tests)

pub small_address : (p : Pdu) → IsPdu p → address_of p ≤ 255
small_address (Addressed None) h = omega arith
small_address (Addressed (Some d)) h = omega (arith, h)
small_address Broadcast h = omega arith

pub small_number : (f : Fields) → AreInRange f → number_of f ≤ 536870911
small_number f h =
    let a = h.priority in
    let b = h.pf in
    let c = h.ps in
    let d = h.source in
    let e = page_bit_below f.extended_page in
    let g = page_bit_below f.data_page in
    omega (arith, a, b, c, d, e, g)

-- the identifier of the new message is of the group
pub group_with : (c : TakePgn) (pgn : ℕ) → IsPdu c.pdu → c.priority ≤ 7 → c.source < 256
    → has_form (group_form c.pdu) pgn ≡ true
    → IsOfGroup pgn (fields_with c.priority pgn (address_of c.pdu) c.source) × (group_of (ident_with c pgn) ≡ Some pgn)
group_with c pgn pdu priority source formed =
    let group : IsOfGroup pgn (fields_with c.priority pgn (address_of c.pdu) c.source) =
    group_of_fields_with c.priority pgn (address_of c.pdu) c.source priority (is_group c.pdu pgn formed)
    (small_address c.pdu pdu) (omega (arith, source)) in
    let back = fields_of-number_of (fields_with c.priority pgn (address_of c.pdu) c.source) group.ranges in
    (group, ap (λ f. Some (pgn_of f)) back ∙ ap (λ n. Some n) group.pgn)

module _ (team name : List ℕ) (book : SpnBook) (net : Net) where
  abbrev way : Type 0 → Reply → Net → Entries → Type 0
  way inside r n e = Allowed team name book net inside → IsWellLeft name book n e

  keeps_new : (m : NewMessage) (i : Ident) → IsNewMessage m → IsIdentifier i
      → KeepsMessage (new_message team m i).message
  unfolding IsDistinct
  keeps_new m i h form = record {
    form = record {
      ident = form;
      named = h.named;
      length = h.length;
      transmitter = h.node;
      comment = IsText-empty;
      signals = All-nil _;
    };
    well_formed = record { signals = record { apart = tt; one_multiplexor = tt; few = omega arith }; values = tt };
  }

  adds_new : (m : NewMessage) (i : Ident) → IsNewMessage m → IsIdentifier i → IsPlainName team
      → is_named net m.name ≡ false → nat_le message_limit (length net.live) ≡ false
      → is_live net i ≡ false → is_held net i ≡ false → CanAdd net (new_message team m i)
  adds_new m i h form plain unnamed room new free = record {
    joins = record {
      form = keeps_new m i h form;
      owner = plain;
      clear = IsClear-none m.length;
      unnamed = unnamed;
      new =
          new;
      free = free;
    };
    silent = refl;
    few = leb-false _ (length net.live) room;
  }

  goes_ident : (c : TakeIdent) → Goes team name book net (IsAction (act.TakeIdent c)) (take_ident team (Some net) c)
  goes_ident c =
      let inside = IsAction (act.TakeIdent c) in
      let facts = ident_facts net c.message.name c.form c.want in
      let done : ℕ → Outcome =
      λ n. Changing (Number n) (with_message net (new_message team c.message (ident_of c.form n))) no_entries in
      leaves_unless (way inside)
      (on_net (Some net) (λ n. take_ident_tests team (ident_facts n c.message.name c.form c.want) c))
      (given_or no.BlockFull (number_given team facts c) done) (λ free.
      leaves_given (way inside) no.BlockFull (number_given team facts c) done (λ n given.
      let passed = ident_passed team facts c free.1 in
      let number : IsFreeNumber team net c.form c.want n =
      free_given team c.message.name net c c.want passed.want n given in
      adds team name book net inside (new_message team c.message (ident_of c.form n)) (λ ok.
      adds_new c.message (ident_of c.form n) ok.fields.0 (identifier_of c.form n number.formed) ok.team_is
      passed.name.unnamed passed.name.room number.live number.held)))

  goes_pgn : (c : TakePgn) → Goes team name book net (IsAction (act.TakePgn c)) (take_pgn team (Some net) c)
  goes_pgn c =
      let inside = IsAction (act.TakePgn c) in
      let facts = group_facts net c.message.name in
      let done : ℕ → Outcome =
      λ pgn. Changing (Number pgn) (with_message net (new_message team c.message (ident_with c pgn)))
      no_entries in
      leaves_unless (way inside) (on_net (Some net) (λ n. take_pgn_tests team (group_facts n c.message.name) c))
      (given_or no.BlockFull (group_given team facts c) done) (λ free.
      leaves_given (way inside) no.BlockFull (group_given team facts c) done (λ pgn given.
      let passed = group_passed team facts c free.1 in
      let least = free_least (taken_groups net) (blocks_of net.blocks team block.Pgn) (group_form c.pdu) pgn given in
      adds team name book net inside (new_message team c.message (ident_with c pgn)) (λ ok. (
      let group = group_with c pgn ok.fields.1 ok.fields.2 ok.fields.3 least.formed in
      let apart = other_group net pgn (ident_with c pgn) least.free group.1 in
      adds_new c.message (ident_with c pgn) ok.fields.0
      (small_number (fields_with c.priority pgn (address_of c.pdu) c.source) group.0.ranges) ok.team_is
      passed.name.unnamed passed.name.room apart.0 apart.1))))

pub take_ident_laws : (team name : List ℕ) (c : TakeIdent) → ActionLaws team name (act.TakeIdent c)
take_ident_laws team name c = record {
  nowhere = λ _. (no.NoNet, λ book. refl);
  decided = λ book net. decided_net _ _ net (λ n none. answered_given no.BlockFull _ _
      (chosen_there c.want (least_free (taken_numbers n c.form) (blocks_of n.blocks team (block_form c.form))
      (number_form c.form)) _ _ (λ last. last.0)
      (ident_passed team (ident_facts n c.message.name c.form c.want) c none).want) (λ number. tt));
  single = λ book net. net_single net _
      (λ n. (tt, (tt, (tt, (tt, (tt, wanted_single c.want _ _ (λ number. (tt, (tt, (tt, tt)))) (tt, tt)))))));
  left = λ book net.
      left_net (left name (Act (act.TakeIdent c)))
      (on_net net (λ n. take_ident_tests team (ident_facts n c.message.name c.form c.want) c)) net _ (λ n.
      leaves_given (left name (Act (act.TakeIdent c)) (Some n)) no.BlockFull
      (number_given team (ident_facts n c.message.name c.form c.want) c) _
      (λ number _. record { answer = tt; part = refl; named = refl; releases = refl }));
  kept = λ book net. goes_ident team name book net c;
  releases = λ book net rs.
      let given = number_given team (ident_facts net c.message.name c.form c.want) c in
      let done : Net → ℕ → Outcome =
      λ n number. Changing (Number number)
      (with_message n (new_message team c.message (ident_of c.form number))) no_entries in
      unless_with rs (on_net (Some net) (λ n. take_ident_tests team (ident_facts n c.message.name c.form c.want) c))
      (given_or no.BlockFull given (done net)) (given_or no.BlockFull given (done (w rs net)))
      (given_with rs no.BlockFull given (done net) (done (w rs net)) (λ number. refl));
}

pub take_pgn_laws : (team name : List ℕ) (c : TakePgn) → ActionLaws team name (act.TakePgn c)
take_pgn_laws team name c = record {
  nowhere = λ _. (no.NoNet, λ book. refl);
  decided = λ book net. decided_net _ _ net
      (λ n none. answered_given no.BlockFull _ _ (group_passed team (group_facts n c.message.name) c none).given
      (λ pgn. tt));
  single = λ book net. net_single net _ (λ n. (tt, (tt, (tt, (tt, (tt, (tt, (tt, tt))))))));
  left = λ book net.
      left_net (left name (Act (act.TakePgn c)))
      (on_net net (λ n. take_pgn_tests team (group_facts n c.message.name) c)) net _ (λ n.
      leaves_given (left name (Act (act.TakePgn c)) (Some n)) no.BlockFull
      (group_given team (group_facts n c.message.name) c) _
      (λ pgn _. record { answer = tt; part = refl; named = refl; releases = refl }));
  kept = λ book net. goes_pgn team name book net c;
  releases = λ book net rs.
      let given = group_given team (group_facts net c.message.name) c in
      let done : Net → ℕ → Outcome =
      λ n pgn. Changing (Number pgn) (with_message n (new_message team c.message (ident_with c pgn)))
      no_entries in
      unless_with rs (on_net (Some net) (λ n. take_pgn_tests team (group_facts n c.message.name) c))
      (given_or no.BlockFull given (done net)) (given_or no.BlockFull given (done (w rs net)))
      (given_with rs no.BlockFull given (done net) (done (w rs net)) (λ pgn. refl));
}
