-- The parts of a network and of the book, as the tables have them.
use Rattle.std.specs.Prelude.{ℕ, List, [], ◌∷◌, Option, Some, None, filter}
use Rattle.can_id.specs.declared.ident.Ident.{Ident}
use Rattle.dbc_sheet.specs.declared.sheet.Sheet.{Sheet}
use Rattle.office_types.specs.Block.{form_number}
use Rattle.office_types.specs.declared.block.BlockForm.TheVariants.{Spn}
use Rattle.office_types.specs.declared.book.SpnBlock.{SpnBlock}
use Rattle.office_types.specs.declared.state.GrantedBlock.{GrantedBlock}
use Rattle.office_types.specs.declared.state.Head.{Head}
use Rattle.office_types.specs.declared.state.LiveMessage.{LiveMessage}
use Rattle.office_types.specs.declared.state.Net.{Net}
use Rattle.store_tables.specs.Tables.{Tables}
use Rattle.store_statements.specs.Rows.{net_row, message_row, block_row, frozen_row, is_of_form, is_of_net}
use Rattle.store_statements.specs.Shown.{net_order, messages_order, blocks_order, blocks_of_form_order, held_order}
use Rattle.store_statements.specs.Shown.{spns_order, approvals_order, releases_order}
use Rattle.store_rows.specs.Listed.{AreListed}
use Rattle.store_rows.specs.Rows.{IsRowOf, IsNetRow, IsMessageRow, IsBlockRow, IsSpnBlockRow, IsHeldRow, IsApprovalRow}
use Rattle.store_rows.specs.Rows.{IsSpnRow, IsFrozenRow, numbered}
use Rattle.store_rows.specs.NetIn.{rest_of}

-- the heads under a name: one where the network is there
abbrev pub heads : Option Head → List Head
heads None = []
heads (Some head) = head ∷ []

-- the tables have this head under the name, or none
abbrev pub HasHead : List ℕ → Tables → Option Head → Type 0
HasHead name t head = AreListed net_order (IsRowOf net_row (IsNetRow name)) (rest_of name t).head (heads head)

-- live messages of tables of the form before, each by its body
abbrev pub HasLive : List ℕ → Tables → List LiveMessage → Type 0
HasLive name t live = AreListed messages_order (IsRowOf message_row (IsMessageRow name))
    (filter (is_of_net name) t.message) live

abbrev pub HasBlocks : List ℕ → Tables → List GrantedBlock → Type 0
HasBlocks name t blocks = AreListed blocks_order (IsRowOf block_row (IsBlockRow name)) (rest_of name t).blocks blocks

abbrev pub HasHeld : List ℕ → Tables → List Ident → Type 0
HasHeld name t held = AreListed held_order (IsHeldRow name) (rest_of name t).held held

abbrev pub HasApprovals : List ℕ → Tables → List (List ℕ) → Type 0
HasApprovals name t teams = AreListed approvals_order (IsApprovalRow name) (rest_of name t).approvals teams

abbrev pub HasReleases : List ℕ → Tables → List Sheet → Type 0
HasReleases name t releases = AreListed releases_order (IsRowOf frozen_row (IsFrozenRow name)) (rest_of name t).releases
    (numbered 1 releases)

-- the releases of a network, from the first one on; none where it isn't there
abbrev pub releases_in : Option Net → List Sheet
releases_in None = []
releases_in (Some net) = net.releases

abbrev pub HasSpnBlocks : Tables → List SpnBlock → Type 0
HasSpnBlocks t blocks = AreListed blocks_of_form_order (IsRowOf block_row IsSpnBlockRow)
    (filter (is_of_form (form_number Spn)) t.block) blocks

abbrev pub HasUsed : Tables → List ℕ → Type 0
HasUsed t used = AreListed spns_order IsSpnRow t.spn used
