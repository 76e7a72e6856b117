-- What the rows of the tables stand for.
use Rattle.std.specs.Prelude.{◌≡◌, ℕ, ◌+◌, List, [], ◌∷◌, Bool, ◌&&◌, not, filter, length, unwrap_or}
use Rattle.sqlite.specs.Order.{Row, column}
use Rattle.sqlite.specs.declared.types.Value.TheVariants.{Text}
use Rattle.can_id.specs.Ident.{IsIdentifier, dbc_number}
use Rattle.can_id.specs.declared.ident.Ident.{Ident}
use Rattle.dbc_grammar.specs.Reads.{Reads}
use Rattle.dbc_sheet.specs.declared.sheet.Sheet.{Sheet}
use Rattle.office_types.specs.Block.{form_number}
use Rattle.office_types.specs.Command.{kind_number}
use Rattle.office_types.specs.State.{phase_number, submitter_of}
use Rattle.office_types.specs.declared.block.BlockForm.TheVariants.{Spn}
use Rattle.office_types.specs.declared.book.SpnBlock.{SpnBlock}
use Rattle.office_types.specs.declared.book.SpnBook.{SpnBook}
use Rattle.office_types.specs.declared.state.GrantedBlock.{GrantedBlock}
use Rattle.office_types.specs.declared.state.Head.{Head}
use Rattle.office_types.specs.declared.state.LiveMessage.{LiveMessage}
use Rattle.office_types.specs.declared.state.Net.{Net}
use Rattle.office_types.specs.declared.state.Phase.{Phase}
use Rattle.office_rules.specs.Facts.{spn_range}
use Rattle.store_tables.specs.Tables.{Tables}
use Rattle.store_bodies.specs.Body.{IsBody}
use Rattle.store_statements.specs.Rows.{block_row, held_row, spn_row, approval_row, is_of_net, is_of_form}
use Rattle.store_statements.specs.Shown.{blocks_of_form_order, spns_order}
use Rattle.store_statements.specs.declared.row.NetRow.{NetRow}
use Rattle.store_statements.specs.declared.row.BodyRow.{BodyRow}
use Rattle.store_statements.specs.declared.row.BlockRow.{BlockRow}
use Rattle.store_statements.specs.declared.row.FrozenRow.{FrozenRow}
use Rattle.store_rows.specs.Listed.{AreListed}

-- ---- one row

-- the row has columns that show the item
abbrev pub IsRowOf : {T A : Type 0} → (T → Row) → (A → T → Type 0) → A → Row → Type 0
IsRowOf {T} row_of Shows item row = (it : T) × Shows item it × (row ≡ row_of it)

-- the team that requested the review, empty in draft
abbrev pub submitter_text : Phase → List ℕ
submitter_text phase = unwrap_or (submitter_of phase) []

-- a row of `net`; the frame's text reads as the frame
pub record IsNetRow (name : List ℕ) (head : Head) (it : NetRow) : Type 0 where
  pub net : it.name.now ≡ name
  pub kind : it.kind ≡ kind_number head.kind
  pub reviews : it.reviews ≡ head.reviews
  pub phase : it.phase ≡ phase_number head.phase
  pub submitter : it.submitter.now ≡ submitter_text head.phase
  pub frame : Reads it.frame.now head.frame

-- a row of `message`; the body reads as the message alone
pub record IsMessageRow (name : List ℕ) (m : LiveMessage) (it : BodyRow) : Type 0 where
  pub net : it.net.now ≡ name
  pub number : it.number ≡ dbc_number m.message.ident
  pub named : it.name.now ≡ m.message.name
  pub owner : it.owner.now ≡ m.owner
  pub body : IsBody it.body.now m.message
  pub identifier : IsIdentifier m.message.ident

-- a row of `block`
pub record IsBlockRow (name : List ℕ) (g : GrantedBlock) (it : BlockRow) : Type 0 where
  pub net : it.net.now ≡ name
  pub form : it.form ≡ form_number g.block.form
  pub first : it.first ≡ g.block.first
  pub last : it.last ≡ g.block.last
  pub team : it.team.now ≡ g.team

-- the same of a block of suspect parameter numbers
abbrev pub IsSpnBlockRow : SpnBlock → BlockRow → Type 0
IsSpnBlockRow b it = IsBlockRow b.net (record { block = spn_range b; team = b.team }) it

abbrev pub IsHeldRow : List ℕ → Ident → Row → Type 0
IsHeldRow name ident row = IsIdentifier ident × (row ≡ held_row name (dbc_number ident))

abbrev pub IsApprovalRow : List ℕ → List ℕ → Row → Type 0
IsApprovalRow name team row = row ≡ approval_row name team

abbrev pub IsSpnRow : ℕ → Row → Type 0
IsSpnRow number row = row ≡ spn_row number

-- a row of `frozen`, of a release with its number; the body reads as the release
pub record IsFrozenRow (name : List ℕ) (release : ℕ × Sheet) (it : FrozenRow) : Type 0 where
  pub net : it.net.now ≡ name
  pub number : it.number ≡ release.0
  pub body : Reads it.body.now release.1

-- the releases with their numbers, from this one on
abbrev pub numbered : ℕ → List Sheet → List (ℕ × Sheet)
numbered first [] = []
numbered first (s ∷ releases) = (first, s) ∷ numbered (first + 1) releases

-- the number of a network's next release
abbrev pub next_release : Net → ℕ
next_release net = length net.releases + 1

-- ---- the rows of a network

-- a block of the network, but not one of suspect parameter numbers, which are the book's
abbrev pub is_granted : List ℕ → Row → Bool
is_granted name row = is_of_net name row && not (is_of_form (form_number Spn) row)

-- ---- the rows of the book

-- blocks of suspect parameter numbers, over all networks, and the used numbers
pub record IsBookIn (t : Tables) (book : SpnBook) : Type 0 where
  pub blocks : AreListed blocks_of_form_order (IsRowOf block_row IsSpnBlockRow)
      (filter (is_of_form (form_number Spn)) t.block) book.blocks
  pub used : AreListed spns_order IsSpnRow t.spn book.used

-- the row of a network's name, and any row that begins with it
abbrev pub IsNamed : List ℕ → Row → Type 0
IsNamed name row = column row 0 ≡ Text name
