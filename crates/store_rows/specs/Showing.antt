-- What the rows of queries show.
use Rattle.std.specs.Prelude.{◌≡◌, ℕ, List, pos, not, Bool}
use Rattle.std.specs.Ordering.{is_eq}
use Rattle.sqlite.specs.declared.types.Value.TheVariants.{Int, Text, Blob}
use Rattle.sqlite.specs.Order.{Row, column, value_cmp}
use Rattle.can_id.specs.Ident.{IsIdentifier, dbc_number}
use Rattle.can_id.specs.declared.ident.Ident.{Ident}
use Rattle.dbc_grammar.specs.Reads.{Reads}
use Rattle.dbc_sheet.specs.declared.sheet.Sheet.{Sheet}
use Rattle.office_types.specs.Block.{Range, form_number}
use Rattle.office_types.specs.Command.{kind_number}
use Rattle.office_types.specs.Reply.{part_numbers}
use Rattle.office_types.specs.State.{phase_number}
use Rattle.office_types.specs.declared.block.BlockForm.TheVariants.{Spn}
use Rattle.office_types.specs.declared.book.SpnBlock.{SpnBlock}
use Rattle.office_types.specs.declared.reply.PartReply.{PartReply}
use Rattle.office_types.specs.declared.state.GrantedBlock.{GrantedBlock}
use Rattle.office_types.specs.declared.state.Head.{Head}
use Rattle.office_types.specs.declared.state.LiveMessage.{LiveMessage}
use Rattle.office_types.specs.declared.state.Phase.{Phase}
use Rattle.store_bodies.specs.Body.{IsBody}
use Rattle.store_rows.specs.Rows.{submitter_text}

-- phase and submitter
pub record ShowsPhase (phase : Phase) (row : Row) : Type 0 where
  pub number : column row 2 ≡ Int (pos (phase_number phase))
  pub submitter : column row 3 ≡ Text (submitter_text phase)

-- kind, reviews, phase, submitter, frame
pub record ShowsHead (head : Head) (row : Row) : Type 0 where
  pub kind : column row 0 ≡ Int (pos (kind_number head.kind))
  pub reviews : column row 1 ≡ Int (pos head.reviews)
  pub phase : ShowsPhase head.phase row
  pub text : List ℕ
  pub frame : column row 4 ≡ Blob text
  pub reads : Reads text head.frame

-- owner, body
pub record ShowsMessage (m : LiveMessage) (row : Row) : Type 0 where
  pub owner : column row 0 ≡ Text m.owner
  pub body : List ℕ
  pub shown : column row 1 ≡ Blob body
  pub reads : IsBody body m.message

-- form, first, last
pub record ShowsRange (r : Range) (row : Row) : Type 0 where
  pub form : column row 0 ≡ Int (pos (form_number r.form))
  pub first : column row 1 ≡ Int (pos r.first)
  pub last : column row 2 ≡ Int (pos r.last)

-- form, first, last, team
pub record ShowsBlock (g : GrantedBlock) (row : Row) : Type 0 where
  pub range : ShowsRange g.block row
  pub team : column row 3 ≡ Text g.team

-- net, first, last, team
pub record ShowsSpnBlock (b : SpnBlock) (row : Row) : Type 0 where
  pub net : column row 0 ≡ Text b.net
  pub first : column row 1 ≡ Int (pos b.first)
  pub last : column row 2 ≡ Int (pos b.last)
  pub team : column row 3 ≡ Text b.team

abbrev pub ShowsIdent : Ident → Row → Type 0
ShowsIdent i row = IsIdentifier i × (column row 0 ≡ Int (pos (dbc_number i)))

abbrev pub ShowsTeam : List ℕ → Row → Type 0
ShowsTeam team row = column row 0 ≡ Text team

abbrev pub ShowsNumber : ℕ → Row → Type 0
ShowsNumber number row = column row 0 ≡ Int (pos number)

-- number, body
pub record ShowsRelease (s : Sheet) (row : Row) : Type 0 where
  pub text : List ℕ
  pub body : column row 1 ≡ Blob text
  pub reads : Reads text s

-- a shown row of `block` is a network's own
abbrev pub is_own : Row → Bool
is_own row = not (is_eq (value_cmp (column row 0) (Int (pos (form_number Spn)))))

-- kind, a
pub record ShowsPart (p : PartReply) (row : Row) : Type 0 where
  pub kind : column row 0 ≡ Int (pos (part_numbers p).kind)
  pub a : column row 1 ≡ Int (pos (part_numbers p).a)
