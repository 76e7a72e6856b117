use Rattle.decimal.proofs.Common.{◌≡◌, ◌<◌, ◌^◌, ℤ, ◌≤ℤ◌, ◌<ℤ◌, ◌+ℤ◌, ◌-ℤ◌, ◌*ℤ◌, pos, negsuc, arith, refl}
use Rattle.decimal.proofs.Common.{unsigned_abs, to_z, of_z, w128, ints}
use Rattle.std.specs.Int.{Width, w64}
use Rattle.decimal.specs.Words.{of_words, high_word, low_word}
use Rattle.decimal.proofs.number.Decimal.new.Goals as goal

-- the high word rounds down
high_word_low : (z : ℤ) → (high_word z *ℤ pos (2 ^ 64)) ≤ℤ z
high_word_low (pos n) = omega (arith, ints)
high_word_low (negsuc n) = omega (arith, ints)

high_word_high : (z : ℤ) → z <ℤ (high_word z *ℤ pos (2 ^ 64) +ℤ pos (2 ^ 64))
high_word_high (pos n) = omega (arith, ints)
high_word_high (negsuc n) = omega (arith, ints)

words_back : (z : ℤ) → of_words (high_word z) (low_word z) ≡ z
words_back z = let low = high_word_low z in omega (arith, ints, low)

low_word_small : (z : ℤ) → low_word z < 2 ^ 64
low_word_small z =
    let low = high_word_low z in
    let high = high_word_high z in
    omega (arith, ints, low, high)

abbrev Fits : Width → ℤ → Type 0
Fits w z = to_z w (of_z w z) ≡ z

-- each step of the code is exact
steps_fit : (z : ℤ) → unsigned_abs z < 10 ^ 36
    → Fits w128 z × Fits w128 (high_word z) × Fits w128 (high_word z *ℤ pos (2 ^ 64))
    × Fits w128 (z -ℤ high_word z *ℤ pos (2 ^ 64)) × Fits w64 (high_word z)
steps_fit z small =
    let low = high_word_low z in
    let high = high_word_high z in (
      omega (arith, ints),
      omega (arith, ints, low, high),
      omega (arith, ints, low, high),
      omega (arith, ints, low, high),
      omega (arith, ints, low, high),
    )

pub invariant_of-result : goal.invariant_of-result
invariant_of-result c =
    let m = c.args.mantissa in
    let fit = steps_fit m c.requires.digits in
    let from = c.from.ensures in
    let exponent : to_z w64 (of_z w64 c.from.result) ≡ c.args.exponent = omega (arith, ints, from) in
    rw (fit.0, fit.1, fit.2, fit.3, fit.4, exponent, words_back m) (low_word_small m, c.requires)

pub returns : goal.returns
returns c =
    let m = c.args.mantissa in
    let fit = steps_fit m c.requires.digits in
    let from = c.from.ensures in
    let exponent : to_z w64 (of_z w64 c.from.result) ≡ c.args.exponent = omega (arith, ints, from) in
    rw (fit.0, fit.1, fit.2, fit.3, fit.4, exponent, words_back m) refl
