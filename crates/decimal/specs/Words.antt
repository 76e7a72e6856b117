-- A number in two words of 64 bits, as two's complement has it: the high one is signed, and the low one is not.
use Rattle.std.specs.Prelude.{◌≡◌, ℕ, ◌+◌, ◌-◌, ◌*◌, ◌^◌, ◌<◌, ℤ, pos, negsuc, ◌+ℤ◌, ◌-ℤ◌, ◌*ℤ◌, unsigned_abs}
use Rattle.std.specs.Int.{int_shr}
use Rattle.std.proofs.Common.{arith, ap, ◌∙◌}
use Rattle.std.proofs.lemmas.Int.{ints}

-- the high word counts 2^64
abbrev pub of_words : ℤ → ℕ → ℤ
of_words high low = high *ℤ pos (2 ^ 64) +ℤ pos low

abbrev pub high_word : ℤ → ℤ
high_word z = int_shr z 64

abbrev pub low_word : ℤ → ℕ
low_word z = unsigned_abs (z -ℤ high_word z *ℤ pos (2 ^ 64))

below_zero : (h l : ℕ) → l < 2 ^ 64 → of_words (negsuc h) l ≡ negsuc (h * 2 ^ 64 + (2 ^ 64 - 1 - l))
below_zero h l lt = omega (arith, ints)

-- the words of a number that two words make are these
pub high_word_back : (high : ℤ) (low : ℕ) → low < 2 ^ 64 → high_word (of_words high low) ≡ high
high_word_back (pos h) l lt = ap pos (omega arith)
high_word_back (negsuc h) l lt = ap high_word (below_zero h l lt) ∙ ap negsuc (omega arith)

pub low_word_back : (high : ℤ) (low : ℕ) → low < 2 ^ 64 → low_word (of_words high low) ≡ low
low_word_back h l lt = let back = high_word_back h l lt in omega (arith, ints, back)
