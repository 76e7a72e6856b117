-- The numbers that a team may bring to a network.
use Rattle.std.specs.Prelude.{ℕ, List}
use Rattle.office_types.specs.declared.block.BlockForm.TheVariants.{Std, Ext, Pgn}
use Rattle.office_types.specs.declared.state.GrantedBlock.{GrantedBlock}
use Rattle.office_rules.specs.Facts.{blocks_of}
use Rattle.office_import.specs.declared.numbers.TeamNumbers.{TeamNumbers}

-- those of its blocks
abbrev pub team_numbers : List ℕ → List GrantedBlock → TeamNumbers
team_numbers team blocks =
    record { std = blocks_of blocks team Std; ext = blocks_of blocks team Ext; pgn = blocks_of blocks team Pgn }
