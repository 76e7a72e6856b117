-- Granted blocks.
use Rattle.std.specs.Prelude.{ℕ, ◌&&◌, nat_le, Bool}
use Rattle.office_types.specs.Block.{same_form}
use Rattle.office_types.specs.declared.block.BlockForm.{BlockForm}
use Rattle.office_types.specs.declared.state.GrantedBlock.{GrantedBlock}

-- the number of the form is in the block
abbrev pub has_number_in : BlockForm → ℕ → GrantedBlock → Bool
has_number_in form n g = same_form g.block.form form && (nat_le g.block.first n && nat_le n g.block.last)
