-- Sets of positions.
use Rattle.std.specs.Prelude.{◌≡◌, ℕ, ◌-◌, ◌*◌, ◌≤◌, true}
use Rattle.std.specs.FinSet as set
use Rattle.std.specs.Int.{bit_at}
use Rattle.std.specs.Ordering.{nat_cmp}
use Rattle.bitlayout.specs.declared.mask.Strip.{Strip}

-- bit i of the number is 1
abbrev pub HasBit : ℕ → ℕ → Type 0
HasBit n i = bit_at n i ≡ 1

-- the positions below this number, 8 * 1792, may be in a mask
abbrev pub mask_end : ℕ
mask_end = 14336

-- a set of positions, which is how contracts see a mask
abbrev pub Positions : Type 0
Positions = set.FinSet nat_cmp

-- the position is in the set
unfoldable pub Has : Positions → ℕ → Type 0
Has positions q = set.contains positions q ≡ true

-- the position is in the strip
unfoldable pub StripHas : Strip → ℕ → Type 0
StripHas strip q = (64 * strip.word ≤ q) × HasBit strip.bits (q - 64 * strip.word)
