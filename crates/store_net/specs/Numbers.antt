-- The identifiers of a network that are taken: those of live messages and the held ones, within a range of numbers or
-- in blocks.
use Rattle.std.specs.Prelude.{◌≡◌, ℕ, List, Bool, ◌&&◌, filter, map, min}
use Rattle.std.specs.List.{flat_map}
use Rattle.std.specs.Ordering.{is_ge, is_le, nat_cmp}
use Rattle.can_id.specs.Ident.{dbc_number, ident_of}
use Rattle.can_id.specs.declared.form.IdentForm.{IdentForm}
use Rattle.can_id.specs.declared.ident.Ident.{Ident}
use Rattle.store_tables.specs.Tables.{Tables}
use Rattle.office_types.specs.declared.block.Block.{Block}
use Rattle.office_types.specs.declared.state.LiveMessage.{LiveMessage}
use Rattle.store_rows.specs.Live.{AreLiveRows, live_rows}
use Rattle.store_net.specs.Parts.{HasHeld}
use Rattle.store_net.specs.declared.ranges.TakenTable.{TakenTable}
use Rattle.store_net.specs.declared.ranges.TakenTable.TheVariants.{Live, Held}

abbrev pub live_idents : List LiveMessage → List Ident
live_idents live = map (λ (m : LiveMessage). m.message.ident) live

-- the network of the name has these identifiers in the table
abbrev pub HasTaken : TakenTable → List ℕ → Tables → List Ident → Type 0
HasTaken Live name t idents = (live : List LiveMessage) × AreLiveRows name (live_rows name t) live
    × (idents ≡ live_idents live)
HasTaken Held name t idents = HasHeld name t idents

-- from the first to the last
abbrev pub is_in : ℕ → ℕ → ℕ → Bool
is_in first last n = is_ge (nat_cmp n first) && is_le (nat_cmp n last)

-- those whose DBC numbers are in the range
abbrev pub idents_between : ℕ → ℕ → List Ident → List Ident
idents_between first last idents = filter (λ i. is_in first last (dbc_number i)) idents

-- The DBC number of a form and a number. The greatest number of 32 bits is no identifier's, and does for all above it.
abbrev pub dbc_of : IdentForm → ℕ → ℕ
dbc_of form n = min (dbc_number (ident_of form n)) 4294967295

-- those in blocks of identifiers of the form, block by block
abbrev pub idents_inside : IdentForm → List Block → List Ident → List Ident
idents_inside form blocks idents =
    flat_map (λ (b : Block). idents_between (dbc_of form b.first) (dbc_of form b.last) idents) blocks
