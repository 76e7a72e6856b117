-- Lines that a fault is about.
use Rattle.std.specs.Prelude.{◌≤◌, ℕ, List, length}
use Rattle.dbc_advice.specs.declared.faulty_lines.Lines.{Lines}

-- lines of the text, from the first to the last, and the first isn't past the fault's offset
pub record AreLines (text : List ℕ) (at : ℕ) (lines : Lines) : Type 0 where
  pub ordered : lines.first ≤ lines.last
  pub within : lines.last ≤ length text
  pub before : lines.first ≤ at
