-- Granted blocks in order.
use Rattle.std.specs.Prelude.{ℕ, ◌+◌, ◌*◌, List}
use Rattle.std.specs.List.Sorted.{IsNonDecreasingBy}
use Rattle.office_types.specs.Block.{form_number}
use Rattle.office_types.specs.declared.block.BlockForm.{BlockForm}
use Rattle.office_types.specs.declared.state.GrantedBlock.{GrantedBlock}

-- a number of a form as one number: the forms come one after the other
abbrev pub key : BlockForm → ℕ → ℕ
key form n = form_number form * 4294967296 + n

abbrev pub low : GrantedBlock → ℕ
low g = key g.block.form g.block.first

abbrev pub high : GrantedBlock → ℕ
high g = key g.block.form g.block.last

-- no block begins or ends before one in front of it
pub record AreOrdered (blocks : List GrantedBlock) : Type 0 where
  pub rising : IsNonDecreasingBy low blocks
  pub ending : IsNonDecreasingBy high blocks
