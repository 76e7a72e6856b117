-- What the tests of a command and the ranges of its fields say of the change that it makes.
use Rattle.office_law.proofs.Common.{◌≡◌, ◌≤◌, ◌<◌, ◌⊎◌, true, false, ℕ, List, [], length, Contains, message_limit}
use Rattle.office_law.proofs.Common.{roster_limit, spn_limit, IsNode, IsSheet, KeepsMessage, IsClearMessage}
use Rattle.office_law.proofs.Common.{IsClearSheet, Node, Sheet, Signal, IsRange, is_spn, same_form, IsPlainName, Pgn}
use Rattle.office_law.proofs.Common.{SpnBlock, SpnBook, GrantedBlock, LiveMessage, Net, has_node, in_review, is_granted}
use Rattle.office_law.proofs.Common.{is_held, is_j1939, is_live, is_named, is_spn_granted, is_submitter, spn_range}
use Rattle.office_law.proofs.Common.{is_too_large, message_import_tests, Entries, with_signals}
use Rattle.std.proofs.Common.{All}
use Rattle.office_law.proofs.NoTestHolds.{NoneHolds}

pub record CanGrant (net : Net) (g : GrantedBlock) : Type 0 where
  pub range : IsRange g.block
  pub team : IsPlainName g.team
  pub formed : is_spn g.block.form ≡ false
  pub groups : same_form g.block.form Pgn ≡ true → is_j1939 net.head.kind ≡ true
  pub free : is_granted net g.block ≡ false

pub record CanGrantSpns (book : SpnBook) (b : SpnBlock) : Type 0 where
  pub range : IsRange (spn_range b)
  pub net : IsPlainName b.net
  pub team : IsPlainName b.team
  pub free : is_spn_granted book (spn_range b) ≡ false

pub record CanAddNode (net : Net) (node : Node) : Type 0 where
  pub form : IsNode node
  pub unnamed : has_node net.head.frame.nodes node.name ≡ false
  pub few : length net.head.frame.nodes < roster_limit

-- the message may join live messages
pub record CanJoin (net : Net) (m : LiveMessage) : Type 0 where
  pub form : KeepsMessage m.message
  pub owner : IsPlainName m.owner
  pub clear : IsClearMessage m.message
  pub unnamed : is_named net m.message.name ≡ false
  pub new : is_live net m.message.ident ≡ false
  pub free : is_held net m.message.ident ≡ false

pub record CanAdd (net : Net) (m : LiveMessage) : Type 0 where
  pub joins : CanJoin net m
  pub silent : m.message.signals ≡ []
  pub few : length net.live < message_limit

abbrev pub IsSpn : ℕ → Type 0
IsSpn n = (1 ≤ n) × (n ≤ spn_limit)

-- the live message may have these signals: their suspect parameter numbers are old ones, or are entered
pub record CanChange (net : Net) (entries : Entries) (m : LiveMessage) (signals : List Signal) : Type 0 where
  pub there : Contains net.live m
  pub form : KeepsMessage (with_signals m signals).message
  pub clear : IsClearMessage (with_signals m signals).message
  pub entered : All (λ s. (s.spn ≡ 0)
      ⊎ (Contains entries.numbers s.spn ⊎ ((old : Signal) × Contains m.message.signals old × (s.spn ≡ old.spn))))
      signals
  pub numbers : All IsSpn entries.numbers

pub record CanImport (team : List ℕ) (net : Net) (s : Sheet) : Type 0 where
  pub sheet : IsSheet s
  pub clear : IsClearSheet s
  pub owner : IsPlainName team
  pub each : All (λ m. NoneHolds (message_import_tests team net m)) s.messages
  pub fits : is_too_large net s ≡ false

pub record CanApprove (team : List ℕ) (net : Net) : Type 0 where
  pub plain : IsPlainName team
  pub reviewed : in_review net.head.phase ≡ true
  pub other : is_submitter team net.head.phase ≡ false
