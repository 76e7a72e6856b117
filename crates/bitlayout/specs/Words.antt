-- The words of a mask: bit i of word w is 1 where position 64 * w + i is in the mask.
use Rattle.std.specs.Prelude.{◌≡◌, ℕ, ◌+◌, ◌*◌, ◌/◌, ◌%◌, ◌^◌, ◌<◌, ◌==◌, Bool, List, All, length, map, slice_index}
use Rattle.std.specs.Prelude.{if◌then◌else◌}
use Rattle.std.specs.FinSet as set
use Rattle.std.specs.Int.{bit_at}
use Rattle.std.specs.List.{range_with_len}
use Prim.Native.Nat.{zero, suc}
use Rattle.bitlayout.specs.Mask.{Positions, mask_end}

-- 224 words of 64 bits
pub record AreWords (words : List ℕ) : Type 0 where
  pub count : length words ≡ 224
  pub small : All (λ word. word < 2 ^ 64) words

-- whether the bit of the position is 1
abbrev pub is_set : List ℕ → ℕ → Bool
is_set words q = bit_at (slice_index words (q / 64)) (q % 64) == 1

-- the positions below n that pass the test
unfoldable pub positions_where : (ℕ → Bool) → ℕ → Positions
positions_where test zero = set.empty
positions_where test (suc n) = if test n then set.insert (positions_where test n) n else positions_where test n

-- the positions whose bits are 1
abbrev pub positions_of : List ℕ → Positions
positions_of words = positions_where (is_set words) mask_end

-- the number of n bits that has those that pass the test
unfoldable pub number_where : (ℕ → Bool) → ℕ → ℕ
number_where test zero = 0
number_where test (suc n) = (if test n then 1 else 0) * 2 ^ n + number_where test n

-- the words that have these positions
unfoldable pub words_of : Positions → List ℕ
words_of positions = map (λ w. number_where (λ i. set.contains positions (64 * w + i)) 64) (range_with_len 0 224)
