-- What is known of a command that its tests don't refuse, test by test.
use Rattle.office_law.proofs.Common.{◌≡◌, ℕ, ◌&&◌, not, nat_le, nat_lt, false, List, ◌∷◌, length, Some, Test}
use Rattle.office_law.proofs.Common.{is_multiplexor, is_under, has_multiplexor, places_of, Node, block_form, same_form}
use Rattle.office_law.proofs.Common.{Pgn, SpnBook, Grant, NewMessage, TakeBits, TakeIdent, TakePgn, Refusal}
use Rattle.office_law.proofs.Common.{LiveMessage, Net, NumberFacts, blocks_of, has_node, in_review, is_j1939, none_of}
use Rattle.office_law.proofs.Common.{group_given, take_ident_tests, take_pgn_tests, want_tests, add_node_tests}
use Rattle.office_law.proofs.Common.{grant_tests, is_block_taken, when, release_limit, release_tests, has_signal}
use Rattle.office_law.proofs.Common.{start_tests}
use Rattle.std.proofs.Common.{is_none}
use Rattle.std.specs.List.{list_all}
use Rattle.dbc_words.specs.Limits.{node_limit, signal_limit}
use Rattle.office_types.specs.declared.refusal.Refusal.TheVariants as no
use Rattle.office_rules.specs.Facts.{knows_node}
use Rattle.office_law.proofs.NoTestHolds.{NoneHolds}

-- ---- a new message

pub record PassedName (facts : NumberFacts) (m : NewMessage) : Type 0 where
  pub draft : in_review facts.phase ≡ false
  pub node : not (knows_node facts.nodes m.node) ≡ false
  pub unnamed : facts.named ≡ false
  pub room : facts.full ≡ false

pub record PassedIdent (team : List ℕ) (facts : NumberFacts) (c : TakeIdent) : Type 0 where
  pub name : PassedName facts c.message
  pub block : none_of (blocks_of facts.blocks team (block_form c.form)) ≡ false
  pub want : NoneHolds (want_tests team facts c)

pub ident_passed : (team : List ℕ) (facts : NumberFacts) (c : TakeIdent) → NoneHolds (take_ident_tests team facts c)
    → PassedIdent team facts c
ident_passed team facts c (draft, (node, (unnamed, (room, (block, want))))) = record {
  name = record { draft = draft; node = node; unnamed = unnamed; room = room };
  block = block;
  want = want;
}

pub record PassedGroup (team : List ℕ) (facts : NumberFacts) (c : TakePgn) : Type 0 where
  pub kind : not (is_j1939 facts.kind) ≡ false
  pub name : PassedName facts c.message
  pub block : none_of (blocks_of facts.blocks team Pgn) ≡ false
  pub given : is_none (group_given team facts c) ≡ false

pub group_passed : (team : List ℕ) (facts : NumberFacts) (c : TakePgn) → NoneHolds (take_pgn_tests team facts c)
    → PassedGroup team facts c
group_passed team facts c (kind, (draft, (node, (unnamed, (room, (block, (given, end))))))) = record {
  kind = kind;
  name = record { draft = draft; node = node; unnamed = unnamed; room = room };
  block = block;
  given = given;
}

-- ---- a block, a node, a release

pub record PassedGrant (net : Net) (book : SpnBook) (c : Grant) : Type 0 where
  pub kind : (same_form c.block.form Pgn && not (is_j1939 net.head.kind)) ≡ false
  pub free : is_block_taken net book c ≡ false

pub grant_passed : (team : List ℕ) (net : Net) (book : SpnBook) (c : Grant)
    → NoneHolds (grant_tests team (Some net) book c) → PassedGrant net book c
grant_passed team net book c (office, (there, (kind, (free, end)))) = record { kind = kind; free = free }

pub record PassedNode (net : Net) (name : List ℕ) : Type 0 where
  pub draft : in_review net.head.phase ≡ false
  pub unnamed : has_node net.head.frame.nodes name ≡ false
  pub room : nat_le node_limit (length net.head.frame.nodes) ≡ false

pub node_passed : (net : Net) (name : List ℕ) → NoneHolds (add_node_tests (Some net) name) → PassedNode net name
node_passed net name (there, (draft, (unnamed, (room, end)))) = record { draft = draft; unnamed = unnamed; room = room }

pub record PassedRelease (net : Net) : Type 0 where
  pub review : not (in_review net.head.phase) ≡ false
  pub approved : nat_lt (length net.approvals) net.head.reviews ≡ false
  pub room : nat_le release_limit (length net.releases) ≡ false

pub release_passed : (team : List ℕ) (net : Net) → NoneHolds (release_tests team (Some net)) → PassedRelease net
release_passed team net (office, (there, (review, (approved, (room, end))))) =
    record { review = review; approved = approved; room = room }

-- ---- a new signal of a message

-- the tests of `take_bits` that read the message which it names
abbrev pub bits_tests : List Node → TakeBits → LiveMessage → List (Test Refusal)
bits_tests nodes c m =
    when (has_signal m c.path.signal) no.NameTaken
    ∷ when (not (list_all (has_node nodes) c.receivers)) no.NoNode
    ∷ when (nat_le signal_limit (length m.message.signals)) no.TooMany
    ∷ when (is_multiplexor c.mux && has_multiplexor m.message.signals) no.TwoMultiplexors
    ∷ when (is_under c.mux && not (has_multiplexor m.message.signals)) no.NoMultiplexor
    ∷ start_tests (places_of m.message.signals) m.message.length c

pub record PassedBits (nodes : List Node) (c : TakeBits) (m : LiveMessage) : Type 0 where
  pub unnamed : has_signal m c.path.signal ≡ false
  pub receivers : not (list_all (has_node nodes) c.receivers) ≡ false
  pub room : nat_le signal_limit (length m.message.signals) ≡ false
  pub one_multiplexor : (is_multiplexor c.mux && has_multiplexor m.message.signals) ≡ false
  pub multiplexed : (is_under c.mux && not (has_multiplexor m.message.signals)) ≡ false
  pub start : NoneHolds (start_tests (places_of m.message.signals) m.message.length c)

pub bits_passed : (nodes : List Node) (c : TakeBits) (m : LiveMessage) → NoneHolds (bits_tests nodes c m)
    → PassedBits nodes c m
bits_passed nodes c m (unnamed, (receivers, (room, (one, (multiplexed, start))))) = record {
  unnamed = unnamed;
  receivers = receivers;
  room = room;
  one_multiplexor = one;
  multiplexed = multiplexed;
  start = start;
}
