-- The position of an offset that was reached in a text.
use Rattle.std.specs.Prelude.{◌≡◌, ◌≤◌, ◌+◌, ℕ, List, length}
use Rattle.dbc_advice.specs.Position.{position_at}
use Rattle.dbc_lint.specs.declared.listing.Reached.{Reached}

-- it is in the text, and the position is its own
pub record IsReached (text : List ℕ) (r : Reached) : Type 0 where
  pub within : r.at ≤ length text
  pub is : r.position ≡ position_at text r.at
  pub line : r.position.line ≤ r.at + 1
  pub column : r.position.column ≤ r.at + 1
