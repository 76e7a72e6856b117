-- The numbers that commands give out.
use Rattle.office_law.proofs.Common.{put, Reading, clear_tests, import, import_tests, imported, is_too_large}
use Rattle.office_law.proofs.Common.{message_import_tests, new_messages, owned_by, spns_entered, Sheet, flat_map, ◌≡◌}
use Rattle.office_law.proofs.Common.{◌≢◌, ◌∙◌, ◌==◌, true, false, ℕ, List, [], ◌∷◌, map, Some, None, Contains, inl, inr}
use Rattle.office_law.proofs.Common.{refl, sym, ap, subst, arith, eq-eqb, ◌++◌, length, Equal, and_parts, false≢true}
use Rattle.office_law.proofs.Common.{ranked, Contains-append_left, Contains-append_right, list_any_at, IsIdentifier}
use Rattle.office_law.proofs.Common.{dbc_number, ident_of, fields_with, Ident, group_form, has_form, is_taken}
use Rattle.office_law.proofs.Common.{by_number, SpnBook, Pdu, Addressed, Broadcast, TakeIdent, TakePgn, TakeSpn, Spn}
use Rattle.office_law.proofs.Common.{Reply, Number, LiveMessage, Net, blocks_of, group_facts, group_of, ident_facts}
use Rattle.office_law.proofs.Common.{is_live, live_named, message_facts, spn_blocks_of, taken_groups, taken_idents}
use Rattle.office_law.proofs.Common.{IsNet, address_of, group_given, ident_with, new_message, number_given, take_ident}
use Rattle.office_law.proofs.Common.{take_ident_tests, take_pgn, take_pgn_tests, with_message, Entries, no_entries}
use Rattle.office_law.proofs.Common.{Outcome, Changing, entered, given_or, on_net, when, spn_entered, spn_given}
use Rattle.office_law.proofs.Common.{take_spn, take_spn_tests, with_spn}
use Rattle.office_law.proofs.NoTestHolds.{NoneHolds-append, each_passed}
use Rattle.office_law.proofs.KeptImport.{is_free, is_new}
use Rattle.office_law.proofs.LiveAfterImport.{are_joined}
use Rattle.office_rules.specs.Importing.{import_sheet, live_already}
use Rattle.can_id.specs.J1939.{format_of, is_pdu1}
use Rattle.can_id.proofs.Groups.{built_as_requested}
use Rattle.office_types.specs.declared.block.BlockForm.TheVariants as block
use Rattle.office_types.specs.declared.refusal.Refusal.TheVariants as no
use Rattle.office_types.specs.declared.reply.Reply.TheVariants.{Counts}
use Rattle.office_law.specs.Fresh.{GivesGroup, GivesIdent, GivesSpn, IsGrown, NumbersAreFresh, AreJoined, GivesFile}
use Rattle.office_law.proofs.Fresh.{free_given, free_least, group_taken, identifier_of, other_group}
use Rattle.office_law.proofs.NumberLaws.{group_with, is_group, small_address, small_number}
use Rattle.office_law.proofs.Idents.{not_held, not_live, same_number}
use Rattle.office_law.proofs.Inverting.{given, passed, same_Changing}
use Rattle.office_law.proofs.KeptBook.{now_used, still_used}
use Rattle.office_law.proofs.KeptMessages.{is_identifier}
use Rattle.office_law.proofs.GivenStart.{starts}
use Rattle.office_law.proofs.Lists.{All-from_contains, Contains-first, Contains-from_put, Contains-put}
use Rattle.office_law.proofs.Lists.{Contains-put_other}
use Rattle.office_law.proofs.Sheets.{Contains-map}
use Rattle.office_law.proofs.PassedTests.{ident_passed}

-- a message of an identifier that no live message has joins them
grown : (net : Net) (m : LiveMessage) → IsNet net → IsIdentifier m.message.ident → is_live net m.message.ident ≡ false
    → IsGrown net.live (put by_number m net.live) m
grown net m h form new = record {
  there = Contains-put by_number m net.live;
  kept = λ o c. elim (Contains-put_other by_number m o net.live c) [
    | inl there ↦ there
    | inr equal ↦ absurd (
        let same : dbc_number m.message.ident ≡ dbc_number o.message.ident = ranked _ _ Equal (sym equal) in
        not_live net m.message.ident o new c
        (same_number o.message.ident m.message.ident (is_identifier net.head.frame net.live o h.live c) form
        (sym same)))
  ];
  only = λ o c. Contains-from_put by_number m o net.live c;
}

idents : (team : List ℕ) (net after : Net) (c : TakeIdent) (reply : Reply) (e : Entries)
    → take_ident team (Some net) c ≡ Changing reply after e → GivesIdent team net c reply after e
idents team net after c reply e h =
    let facts = ident_facts net c.message.name c.form c.want in
    let done : ℕ → Outcome =
    λ n. Changing (Number n) (with_message net (new_message team c.message (ident_of c.form n))) no_entries in
    let w = passed (on_net (Some net) (λ n. take_ident_tests team (ident_facts n c.message.name c.form c.want) c))
    (given_or no.BlockFull (number_given team facts c) done) reply after e h in
    let g = given no.BlockFull (number_given team facts c) done reply after e w.1 in
    let free = free_given team c.message.name net c c.want (ident_passed team facts c w.0.1).want g.0 g.1 in
    let same = same_Changing (Number g.0) reply (with_message net (new_message team c.message (ident_of c.form g.0)))
    after no_entries e g.2 in
    record {
      number = g.0;
      formed = free.formed;
      granted = free.granted;
      chosen = free.chosen;
      not_live = All-from_contains (λ m. m.message.ident ≢ ident_of c.form g.0) net.live
          (λ m there. not_live net (ident_of c.form g.0) m free.live there);
      not_held = All-from_contains (λ i. i ≢ ident_of c.form g.0) net.held
          (λ i there is. not_held net (ident_of c.form g.0) free.held (subst (Contains net.held) is there));
      reported = sym same.0;
      added = sym same.1;
      grown = λ n. subst (λ (v : Net). IsGrown net.live v.live (new_message team c.message (ident_of c.form g.0)))
          same.1
          (grown net (new_message team c.message (ident_of c.form g.0)) n (identifier_of c.form g.0 free.formed)
          free.live);
      quiet = sym same.2;
    }

-- Parameter groups.

untaken : (net : Net) (pgn : ℕ) (i : Ident) → is_taken pgn (taken_groups net) ≡ false → Contains (taken_idents net) i
    → group_of i ≢ Some pgn
untaken net pgn i free c e = false≢true (sym free ∙ group_taken (taken_idents net) i pgn c e)

global_only : (p : Pdu) (pgn : ℕ) → has_form (group_form p) pgn ≡ true → is_pdu1 (format_of pgn) ≡ false
    → address_of p ≡ 255
global_only (Addressed d) pgn h none =
    absurd (let parts = and_parts _ _ h in let inner = and_parts _ _ parts.1 in false≢true (sym none ∙ inner.0))
global_only Broadcast pgn h none = refl

groups : (team : List ℕ) (net after : Net) (c : TakePgn) (reply : Reply) (e : Entries)
    → take_pgn team (Some net) c ≡ Changing reply after e → GivesGroup team net c reply after e
groups team net after c reply e h =
    let facts = group_facts net c.message.name in
    let done : ℕ → Outcome =
    λ pgn. Changing (Number pgn) (with_message net (new_message team c.message (ident_with c pgn)))
    no_entries in
    let w = passed (on_net (Some net) (λ n. take_pgn_tests team (group_facts n c.message.name) c))
    (given_or no.BlockFull (group_given team facts c) done) reply after e h in
    let g = given no.BlockFull (group_given team facts c) done reply after e w.1 in
    let pgn = g.0 in
    let least = free_least (taken_groups net) (blocks_of net.blocks team block.Pgn) (group_form c.pdu) pgn g.1 in
    let same = same_Changing (Number pgn) reply (with_message net (new_message team c.message (ident_with c pgn))) after
    no_entries e g.2 in
    record {
      number = pgn;
      formed = least.formed;
      granted = least.granted;
      least = least.least;
      not_live = All-from_contains (λ m. group_of m.message.ident ≢ Some pgn) net.live (λ m there.
          untaken net pgn m.message.ident least.free
          (Contains-append_left (map (λ (x : LiveMessage). x.message.ident) net.live) net.held m.message.ident
          (Contains-map (λ (x : LiveMessage). x.message.ident) net.live m there)));
      not_held = All-from_contains (λ i. group_of i ≢ Some pgn) net.held (λ i there.
          untaken net pgn i least.free
          (Contains-append_right (map (λ (x : LiveMessage). x.message.ident) net.live) net.held i there));
      built = λ ok. built_as_requested c.priority pgn (address_of c.pdu) c.source ok.2 (is_group c.pdu pgn least.formed)
          (global_only c.pdu pgn least.formed) (small_address c.pdu ok.1) (let s = ok.3 in omega (arith, s));
      reported = sym same.0;
      added = sym same.1;
      grown = λ n ok. subst (λ (v : Net). IsGrown net.live v.live (new_message team c.message (ident_with c pgn)))
          same.1 (
          let group = group_with c pgn ok.1 ok.2 ok.3 least.formed in
          grown net (new_message team c.message (ident_with c pgn)) n
          (small_number (fields_with c.priority pgn (address_of c.pdu) c.source) group.0.ranges)
          (other_group net pgn (ident_with c pgn) least.free group.1).0);
      quiet = sym same.2;
    }

-- Suspect parameter numbers.

spns : (team name : List ℕ) (net after : Net) (book : SpnBook) (c : TakeSpn) (reply : Reply) (e : Entries)
    → c.same ≡ None → take_spn team name (Some net) book c ≡ Changing reply after e
    → GivesSpn team name book reply e
spns team name net after book c reply e none h =
    let found = live_named net.live c.path.message in
    let done : LiveMessage → ℕ → Outcome = λ m n. Changing (Number n) (with_message net (with_spn m c.path.signal n))
    (spn_entered n) in
    let numbered : LiveMessage → Outcome = λ m. given_or no.BlockFull (spn_given team name book c) (done m) in
    let w = passed (on_net (Some net) (λ n. take_spn_tests team name (message_facts n c.path.message) book c))
    (given_or no.NoMessage found numbered) reply after e h in
    let m = given no.NoMessage found numbered reply after e w.1 in
    let g = given no.BlockFull (spn_given team name book c) (done m.0) reply after e m.2 in
    let n = g.0 in
    let free = free_least book.used (spn_blocks_of book name team) Spn n
    (sym (ap (λ s. spn_given team name book (record c { same = s })) none) ∙ g.1) in
    let same = same_Changing (Number n) reply (with_message net (with_spn m.0 c.path.signal n)) after (spn_entered n) e
    g.2 in
    record {
      number = n;
      granted = free.granted;
      least = free.least;
      unused = λ there. false≢true
          (sym free.free ∙ list_any_at (λ t. t == n) book.used there.0 n there.1
          (ap (λ t. t == n) there.2 ∙ eq-eqb n n refl));
      used = subst (λ (f : Entries). Contains (entered book f).used n) same.2
          (now_used (n ∷ []) book.used n (Contains-first n []));
      reported = sym same.0;
      added = sym same.2;
    }

-- Imports.

imports : (team : List ℕ) (net after : Net) (s : Sheet) (reply : Reply) (e : Entries)
    → import team (Some net) (Reading s) ≡ Changing reply after e → GivesFile team net s after
imports team net after s reply e h =
    let w = passed (import_tests team (Some net) (Reading s)) (import_sheet team net s) reply after e h in
    let parts = NoneHolds-append
    (flat_map clear_tests s.messages ++ flat_map (message_import_tests team net) s.messages)
    (when (is_too_large net s) no.TooMany ∷ []) w.0.1.1 in
    let each = each_passed (message_import_tests team net) s.messages
    (NoneHolds-append (flat_map clear_tests s.messages) (flat_map (message_import_tests team net) s.messages)
    parts.0).1 in
    let counts = Counts (length (new_messages net s.messages)) (length (live_already net s.messages)) in
    let same = same_Changing counts reply (imported team net s) after (spns_entered net s) e w.1 in
    record {
      not_held = All-from_contains (λ m. Contains net.held m.ident → ⊥) (new_messages net s.messages)
          (λ m c. not_held net m.ident (is_free team net s.messages m each c).0);
      joined = λ n sheet. subst
          (λ (v : Net). AreJoined net.live v.live (map (owned_by team) (new_messages net s.messages))) same.1
          (are_joined team net s (is_new net s.messages) n sheet);
    }

pub numbers_are_fresh : NumbersAreFresh
numbers_are_fresh = record {
  idents = idents;
  groups = groups;
  spns = spns;
  starts =
      λ team net after c reply e h. starts team net c after reply e h;
  imports = imports;
  stay_used =
      λ book e n c. still_used e.numbers book.used n c;
}
