-- The change of a grant, and which books do for it.
use Rattle.std.specs.Prelude.{◌≡◌, ℕ, true, List, if◌then◌else◌}
use Rattle.office_types.specs.Block.{is_spn}
use Rattle.office_types.specs.declared.book.SpnBook.{SpnBook}
use Rattle.office_types.specs.declared.change.Change.{Change}
use Rattle.office_types.specs.declared.change.Change.TheVariants.{SetBlock, SetSpnBlock}
use Rattle.office_types.specs.declared.command.Grant.{Grant}

-- the block is set on the network, or in the book where its numbers are suspect parameter numbers
abbrev pub grant_change : List ℕ → Grant → Change
grant_change name c =
    if is_spn c.block.form then SetSpnBlock
    (record { net = name; team = c.team; first = c.block.first; last = c.block.last })
    else SetBlock (record { block = c.block; team = c.team })

-- the other book does for the grant as well: for a block of suspect parameter numbers it is the same, and for another
-- block it may be any
abbrev pub IsAsGoodFor : Grant → SpnBook → SpnBook → Type 0
IsAsGoodFor c book other = is_spn c.block.form ≡ true → other ≡ book
