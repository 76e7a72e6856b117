-- Blocks of numbers: how they are called, and which is near a number or has it.
use Rattle.std.specs.Prelude.{ℕ, ◌-◌, ◌&&◌, nat_le, nat_lt, Bool, List, [], ◌∷◌, ◌++◌, Option, Some, None, codes}
use Rattle.std.specs.Prelude.{if◌then◌else◌}
use Rattle.office_types.specs.Block.{block_word, same_form}
use Rattle.office_types.specs.declared.block.Block.{Block}
use Rattle.office_types.specs.declared.block.BlockForm.{BlockForm}
use Rattle.office_types.specs.declared.book.SpnBlock.{SpnBlock}
use Rattle.office_types.specs.declared.state.GrantedBlock.{GrantedBlock}
use Rattle.office_reasons.specs.Pieces.{range_text, shown}

-- `std 256 to 258`, of one team's blocks
abbrev pub own_text : BlockForm → Block → List ℕ
own_text form b = block_word form ++ (codes " " ++ range_text b)

-- `256 to 258 of engine`, of one form's blocks
abbrev pub team_text : Block → List ℕ → List ℕ
team_text b team = range_text b ++ (codes " of " ++ shown team)

-- the numbers of a block of suspect parameter numbers
abbrev pub spn_numbers : SpnBlock → Block
spn_numbers b = record { first = b.first; last = b.last }

-- how far a number is from a block: 0 where it is in it
abbrev pub distance : ℕ → Block → ℕ
distance n b = if nat_lt n b.first then b.first - n else n - b.last

-- the nearer one, the first of two that are as near
abbrev pub nearer : ℕ → Option Block → Block → Option Block
nearer n None b = Some b
nearer n (Some best) b = if nat_le (distance n best) (distance n b) then Some best else Some b

-- the nearest of these and of what was nearest before
abbrev pub nearest_after : ℕ → Option Block → List Block → Option Block
nearest_after n best [] = best
nearest_after n best (b ∷ blocks) = nearest_after n (nearer n best b) blocks

abbrev pub nearest_of : ℕ → List Block → Option Block
nearest_of n blocks = nearest_after n None blocks

-- the block has the form and the number
abbrev pub holder_of : BlockForm → ℕ → GrantedBlock → Bool
holder_of form n g = (same_form g.block.form form && nat_le g.block.first n) && nat_le n g.block.last
