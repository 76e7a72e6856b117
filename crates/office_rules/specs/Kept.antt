-- What every office keeps: a record for each part of a network, one for the book, and one for the whole.
use Rattle.std.specs.Prelude.{◌≡◌, ◌≤◌, ◌⊎◌, true, false, ℕ, List, [], length, All, AllPairs, Contains, IfSome, is_some}
use Rattle.std.specs.List.Sorted.{IsStrictlySortedBy}
use Rattle.base.specs.Keyed.{text_cmp}
use Rattle.can_id.specs.Ident.{IsIdentifier}
use Rattle.can_id.specs.declared.ident.Ident.{Ident}
use Rattle.dbc_sheet.specs.Form.{IsSheet}
use Rattle.dbc_sheet.specs.Sheet.{IsClearSheet}
use Rattle.dbc_sheet.specs.declared.message.Message.{Message}
use Rattle.dbc_sheet.specs.declared.sheet.Sheet.{Sheet}
use Rattle.office_types.specs.Block.{IsRange, have_common, is_spn, same_form}
use Rattle.office_types.specs.Book.{AreUsed, by_net}
use Rattle.office_types.specs.PlainName.{IsPlainName}
use Rattle.office_types.specs.State.{by_name, by_first, by_ident, live_messages, sheet_with, submitter_of}
use Rattle.office_types.specs.declared.block.BlockForm.TheVariants.{Pgn}
use Rattle.office_types.specs.declared.book.SpnBook.{SpnBook}
use Rattle.office_types.specs.declared.command.NetKind.{NetKind}
use Rattle.office_types.specs.declared.state.GrantedBlock.{GrantedBlock}
use Rattle.office_types.specs.declared.state.Head.{Head}
use Rattle.office_types.specs.declared.state.LiveMessage.{LiveMessage}
use Rattle.office_types.specs.declared.state.Net.{Net}
use Rattle.office_types.specs.declared.state.Office.{Office}
use Rattle.office_types.specs.declared.state.Phase.{Phase}
use Rattle.office_types.specs.declared.state.Phase.TheVariants.{Draft}
use Rattle.office_rules.specs.Facts.{in_last, is_j1939, spn_range, was_released}
use Rattle.office_rules.specs.Reviewing.{release_limit}
use Rattle.office_rules.specs.Step.{net_named}

pub record IsHead (h : Head) : Type 0 where
  pub reviewed : h.reviews ≤ 9
  pub submitted : IfSome (submitter_of h.phase) IsPlainName
  pub frame_alone : h.frame.messages ≡ []

-- The live sheet is a sheet: its messages are in ascending order of their numbers, no two of them have one name, and
-- the limits are kept. And it is clear.
pub record AreLive (frame : Sheet) (live : List LiveMessage) : Type 0 where
  pub sheet : IsSheet (sheet_with frame live)
  pub clear : IsClearSheet (sheet_with frame live)
  pub owned : All (λ m. IsPlainName m.owner) live

-- No number is in two blocks of one form. Blocks of suspect parameter numbers are in the book alone, and those of
-- parameter groups on networks that allot them.
pub record AreGranted (kind : NetKind) (blocks : List GrantedBlock) : Type 0 where
  pub ranges : All (λ g. IsRange g.block × IsPlainName g.team) blocks
  pub formed : All (λ g. is_spn g.block.form ≡ false) blocks
  pub groups : All (λ g. same_form g.block.form Pgn ≡ true → is_j1939 kind ≡ true) blocks
  pub rising : IsStrictlySortedBy by_first blocks
  pub apart : AllPairs (λ a b. have_common a.block b.block ≡ false) blocks

-- Held identifiers are those of releases, and no live message has one.
pub record AreHeld (live : List LiveMessage) (releases : List Sheet) (held : List Ident) : Type 0 where
  pub identifiers : All IsIdentifier held
  pub rising : IsStrictlySortedBy by_ident held
  pub released : All (λ i. was_released releases i ≡ true) held
  pub apart : All (λ m. Contains held m.message.ident → ⊥) live

-- Each team approves once, in a review alone, and not in its own.
pub record AreApprovals (phase : Phase) (approvals : List (List ℕ)) : Type 0 where
  pub plain : All IsPlainName approvals
  pub rising : IsStrictlySortedBy text_cmp approvals
  pub in_review : phase ≡ Draft → approvals ≡ []
  pub others : IfSome (submitter_of phase) (λ submitter. Contains approvals submitter → ⊥)

-- A released message is still live, under its identifier and its name, or its identifier is held.
pub record IsStillLive (live : List LiveMessage) (m : Message) : Type 0 where
  pub now : LiveMessage
  pub there : Contains live now
  pub ident : now.message.ident ≡ m.ident
  pub name : now.message.name ≡ m.name

abbrev pub IsLiveOrHeld : List LiveMessage → List Ident → Message → Type 0
IsLiveOrHeld live held m = IsStillLive live m ⊎ Contains held m.ident

-- two messages of one identifier have one name
abbrev pub HaveOneName : Message → Message → Type 0
HaveOneName m n = m.ident ≡ n.ident → m.name ≡ n.name

-- two sheets give one identifier one name
abbrev pub AgreeOnNames : Sheet → Sheet → Type 0
AgreeOnNames s t = All (λ m. All (HaveOneName m) t.messages) s.messages

-- Releases are clear sheets, and any two of them give one identifier one name. A live message that was released is in
-- the last one: what comes to live isn't in any, and all that is live is in each new one.
pub record AreReleases (live : List LiveMessage) (held : List Ident) (releases : List Sheet) : Type 0 where
  pub sheets : All IsSheet releases
  pub clear : All IsClearSheet releases
  pub few : length releases ≤ release_limit
  pub kept : All (λ s. All (IsLiveOrHeld live held) s.messages) releases
  pub one_name : All (λ s. All (AgreeOnNames s) releases) releases
  pub last : All (λ m. was_released releases m.message.ident ≡ in_last releases m.message.ident) live

pub record IsNet (net : Net) : Type 0 where
  pub named : IsPlainName net.name
  pub head : IsHead net.head
  pub live : AreLive net.head.frame net.live
  pub blocks : AreGranted net.head.kind net.blocks
  pub held : AreHeld net.live net.releases net.held
  pub approvals : AreApprovals net.head.phase net.approvals
  pub releases : AreReleases net.live net.held net.releases

-- No suspect parameter number is in two blocks, of whatever networks, and none is used twice.
pub record IsBook (book : SpnBook) : Type 0 where
  pub ranges : All (λ b. IsRange (spn_range b) × IsPlainName b.net × IsPlainName b.team) book.blocks
  pub rising : IsStrictlySortedBy by_net book.blocks
  pub apart : AllPairs (λ a b. have_common (spn_range a) (spn_range b) ≡ false) book.blocks
  pub used : AreUsed book.used

-- each suspect parameter number of the messages is in the book
abbrev pub AreEntered : List ℕ → List Message → Type 0
AreEntered used messages = All (λ m. All (λ s. (s.spn ≡ 0) ⊎ Contains used s.spn) m.signals) messages

-- those of live messages and of releases are
pub record IsEntered (used : List ℕ) (net : Net) : Type 0 where
  pub live : AreEntered used (live_messages net.live)
  pub released : All (λ s. AreEntered used s.messages) net.releases

pub record IsOffice (o : Office) : Type 0 where
  pub nets : All IsNet o.nets
  pub rising : IsStrictlySortedBy by_name o.nets
  pub book : IsBook o.book
  -- a block of suspect parameter numbers is granted on a network that is there
  pub granted : All (λ b. is_some (net_named o b.net) ≡ true) o.book.blocks
  pub entered : All (IsEntered o.book.used) o.nets
