-- What is left of a team's numbers.
use Rattle.std.specs.Prelude.{ℕ, ◌&&◌, not, Bool, true, false, List, count_by, filter, length}
use Rattle.std.specs.Str.{bytes_eq}
use Rattle.columns.specs.Run.{runs_of}
use Rattle.columns.specs.declared.run.Run.{Run}
use Rattle.office_types.specs.Block.{Range, same_form}
use Rattle.office_types.specs.Free.{has_form, is_taken}
use Rattle.office_types.specs.declared.block.BlockForm.{BlockForm}
use Rattle.office_types.specs.declared.block.BlockForm.TheVariants as block
use Rattle.office_types.specs.declared.free.NumberForm.{NumberForm}
use Rattle.office_types.specs.declared.free.NumberForm.TheVariants.{Std, Ext, Pdu1, Pdu2, Spn}
use Rattle.office_types.specs.declared.state.GrantedBlock.{GrantedBlock}
use Rattle.office_blocks.specs.Blocks.{free_numbers, numbers_in}

-- the blocks that have its numbers
abbrev pub block_form : NumberForm → BlockForm
block_form Std = block.Std
block_form Ext = block.Ext
block_form Pdu1 = block.Pgn
block_form Pdu2 = block.Pgn
block_form Spn = block.Spn

-- they are parameter groups
abbrev pub is_group : NumberForm → Bool
is_group Pdu1 = true
is_group Pdu2 = true
is_group form = false

-- the block is the team's, and has numbers of the form
abbrev pub is_of : List ℕ → NumberForm → GrantedBlock → Bool
is_of team form g = bytes_eq g.team team && same_form g.block.form (block_form form)

abbrev pub blocks_of : List GrantedBlock → List ℕ → NumberForm → List GrantedBlock
blocks_of blocks team form = filter (is_of team form) blocks

-- the block's numbers of the form that are live, and those that are taken and not live
abbrev pub live_in : List ℕ → NumberForm → Range → ℕ
live_in live form b = count_by (λ n. is_taken n live && has_form form n) (numbers_in b)

abbrev pub is_beside : List ℕ → NumberForm → ℕ → Bool
is_beside live form n = has_form form n && not (is_taken n live)

abbrev pub held_in : List ℕ → List ℕ → NumberForm → Range → ℕ
held_in live taken form b = count_by (λ n. is_taken n taken && is_beside live form n) (numbers_in b)

-- of a granted block, with those that are free
abbrev pub live_at : List ℕ → NumberForm → GrantedBlock → ℕ
live_at live form g = live_in live form g.block

abbrev pub held_at : List ℕ → List ℕ → NumberForm → GrantedBlock → ℕ
held_at live taken form g = held_in live taken form g.block

abbrev pub free_at : List ℕ → NumberForm → GrantedBlock → ℕ
free_at taken form g = length (free_numbers taken g.block form)

-- the runs of those
abbrev pub runs_at : List ℕ → NumberForm → GrantedBlock → List Run
runs_at taken form g = runs_of 1 (free_numbers taken g.block form)
