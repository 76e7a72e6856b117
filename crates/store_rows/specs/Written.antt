-- The tables after the rows of a change are written: a DELETE by the key, and an INSERT.
use Rattle.std.specs.Prelude.{◌≡◌, ℕ, List, [], ◌∷◌, ◌++◌, false, not, filter, Option, Some, None}
use Rattle.sqlite.specs.Tree.{put_row}
use Rattle.can_id.specs.Ident.{IsIdentifier, dbc_number}
use Rattle.office_types.specs.Block.{is_spn}
use Rattle.office_types.specs.declared.change.Change.{Change}
use Rattle.office_types.specs.declared.change.Change.TheVariants.{SetHead, SetMessage, RemoveMessage, AddSignal}
use Rattle.office_types.specs.declared.change.Change.TheVariants.{RemoveSignal, SetSpn, SetValues, SetBlock}
use Rattle.office_types.specs.declared.change.Change.TheVariants.{SetSpnBlock, Hold, EnterSpn, SetApproval}
use Rattle.office_types.specs.declared.change.Change.TheVariants.{ClearApprovals, AddRelease}
use Rattle.office_types.specs.declared.state.Net.{Net}
use Rattle.store_tables.specs.Tables.{Tables}
use Rattle.store_statements.specs.Rows.{net_row, block_row, held_row, spn_row, approval_row, frozen_row, is_of_net}
use Rattle.store_statements.specs.Rows.{has_net_and_number, is_block, has_two_texts, is_number}
use Rattle.store_statements.specs.declared.row.NetRow.{NetRow}
use Rattle.store_statements.specs.declared.row.BlockRow.{BlockRow}
use Rattle.store_statements.specs.declared.row.FrozenRow.{FrozenRow}
use Rattle.store_rows.specs.LiveWritten.{AreTextsSet, IsSignalAdded, IsLive, IsSpnSet, IsTakenOut, with_live}
use Rattle.store_rows.specs.LiveWritten.{without_live}
use Rattle.store_rows.specs.Rows.{IsNetRow, IsBlockRow, IsSpnBlockRow, IsFrozenRow, next_release}

abbrev pub with_net_row : NetRow → Tables → Tables
with_net_row it t = record t { net = filter (λ row. not (is_of_net it.name.now row)) t.net ++ net_row it ∷ [] }

abbrev pub with_block_row : BlockRow → Tables → Tables
with_block_row it t = record t
    { block = filter (λ row. not (is_block it.net.now it.form it.first row)) t.block ++ block_row it ∷ [] }

abbrev pub with_held_row : List ℕ → ℕ → Tables → Tables
with_held_row name number t =
    record t { held = filter (λ row. not (has_net_and_number name number row)) t.held ++ held_row name number ∷ [] }

-- `spn` is a table by its integer key, so the row is put in its place
abbrev pub with_spn_row : ℕ → Tables → Tables
with_spn_row number t = record t { spn = put_row (spn_row number) (filter (λ row. not (is_number number row)) t.spn) }

abbrev pub with_approval_row : List ℕ → List ℕ → Tables → Tables
with_approval_row name team t =
    record t { approval = filter (λ row. not (has_two_texts name team row)) t.approval ++ approval_row name team ∷ [] }

abbrev pub without_approval_rows : List ℕ → Tables → Tables
without_approval_rows name t = record t { approval = filter (λ row. not (is_of_net name row)) t.approval }

-- a release is only added
abbrev pub with_frozen_row : FrozenRow → Tables → Tables
with_frozen_row it t = record t { frozen = t.frozen ++ frozen_row it ∷ [] }

-- The change at the network of this name was written: the tables t became t2. A network's own block isn't one of
-- suspect parameter numbers, and a release is added where the network is there.
abbrev pub IsWritten : List ℕ → Change → Option Net → Tables → Tables → Type 0
IsWritten name (SetHead h) net t t2 = (it : NetRow) × IsNetRow name h it × (t2 ≡ with_net_row it t)
IsWritten name (SetMessage m) net t t2 = IsLive m × (t2 ≡ with_live name m t)
IsWritten name (RemoveMessage i) net t t2 = IsIdentifier i × (t2 ≡ without_live name (dbc_number i) t)
IsWritten name (AddSignal message s) None t t2 = ⊥
IsWritten name (AddSignal message s) (Some net) t t2 = IsSignalAdded name message s net.live t t2
IsWritten name (RemoveSignal path) None t t2 = ⊥
IsWritten name (RemoveSignal path) (Some net) t t2 = IsTakenOut name path net.live t t2
IsWritten name (SetSpn path n) None t t2 = ⊥
IsWritten name (SetSpn path n) (Some net) t t2 = IsSpnSet name path n net.live t t2
IsWritten name (SetValues path values) None t t2 = ⊥
IsWritten name (SetValues path values) (Some net) t t2 = AreTextsSet name path values net.live t t2
IsWritten name (SetBlock g) net t t2 = (it : BlockRow) × IsBlockRow name g it × (is_spn g.block.form ≡ false)
    × (t2 ≡ with_block_row it t)
IsWritten name (SetSpnBlock b) net t t2 = (it : BlockRow) × IsSpnBlockRow b it × (t2 ≡ with_block_row it t)
IsWritten name (Hold i) net t t2 = IsIdentifier i × (t2 ≡ with_held_row name (dbc_number i) t)
IsWritten name (EnterSpn n) net t t2 = t2 ≡ with_spn_row n t
IsWritten name (SetApproval team) net t t2 = t2 ≡ with_approval_row name team t
IsWritten name ClearApprovals net t t2 = t2 ≡ without_approval_rows name t
IsWritten name (AddRelease s) None t t2 = ⊥
IsWritten name (AddRelease s) (Some net) t t2 = (it : FrozenRow) × IsFrozenRow name (next_release net, s) it
    × (t2 ≡ with_frozen_row it t)
