-- Blocks that are in order, and where they are from a number.
use Rattle.std.specs.Prelude.{ℕ, nat_lt, List, if◌then◌else◌}
use Rattle.std.specs.List.Sorted.{IsNonDecreasingBy}
use Rattle.std.specs.declared.cmp.Ordering.{Ordering}
use Rattle.std.specs.declared.cmp.Ordering.TheVariants.{Less, Equal, Greater}
use Rattle.office_types.specs.declared.block.Block.{Block}

-- where the block is from the number: before it, at it, or after it
abbrev pub side : ℕ → Block → Ordering
side n b = if nat_lt b.last n then Less else (if nat_lt n b.first then Greater else Equal)

-- from block to block neither the first number falls nor the last one
pub record AreRising (blocks : List Block) : Type 0 where
  pub firsts : IsNonDecreasingBy (λ (b : Block). b.first) blocks
  pub lasts : IsNonDecreasingBy (λ (b : Block). b.last) blocks
