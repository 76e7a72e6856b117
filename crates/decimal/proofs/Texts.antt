-- The texts of numbers.
use Rattle.decimal.proofs.Common.{◌≡◌, ℕ, ◌/◌, ◌%◌, ◌^◌, ◌<◌, ◌≤◌, Bool, true, false, ◌∷◌, ◌++◌, length, replicate}
use Rattle.decimal.proofs.Common.{refl, arith, ℤ, pos, negsuc, ◌<ℤ◌, ◌≤ℤ◌, ◌⊎◌, inl, inr, unsigned_abs, int_le, ◌&&◌}
use Rattle.decimal.proofs.Common.{and_from, ints, decimal, signed_decimal}
use Rattle.std.proofs.Common.{mod-lt, div-le_self}
use Rattle.std.proofs.lemmas.Bool.{and_left, and_right}
use Rattle.decimal.specs.Printing.{unsigned_text, plain_text, with_point}
use Rattle.std.proofs.lemmas.Fmt.{length-decimal-le_wide}
use Rattle.decimal.proofs.DigitLists.{ten_le}
use Rattle.decimal.proofs.Values.{ten_pos}

pub decimal_short : (k n : ℕ) → 0 < k → k ≤ 64 → n < 10 ^ k → length (decimal n) ≤ k
decimal_short k n some le lt = length-decimal-le_wide k n some lt (let top = ten_le k 64 le in omega (arith, lt, top))

pub whole_small : (k n : ℕ) → n < 10 ^ 36 → n / 10 ^ k < 10 ^ 36
whole_small k n lt = let le = div-le_self n (10 ^ k) in omega (arith, lt, le)

pub rest_small : (k n : ℕ) → n % 10 ^ k < 10 ^ k
rest_small k n = mod-lt n (ten_pos k)

pub ruleset pointing = (decimal_short, whole_small, rest_small, ten_pos)

le_true : (a b : ℤ) → a ≤ℤ b → int_le a b ≡ true
le_true a b h = grind (arith, ints)

le_false : (a b : ℤ) → b <ℤ a → int_le a b ≡ false
le_false a b h = grind (arith, ints)

abbrev pub is_plain : ℤ → Bool
is_plain e = int_le (negsuc 19) e && int_le e (pos 20)

pub at_plain : (n : ℕ) (e : ℤ) → is_plain e ≡ true → unsigned_text n e ≡ plain_text n e
unfolding unsigned_text
at_plain n e h = rw h refl

pub at_far : (n : ℕ) (e : ℤ) → is_plain e ≡ false → unsigned_text n e ≡ decimal n ++ 69 ∷ signed_decimal e
unfolding unsigned_text
at_far n e h = rw h refl

pub text_far : (n : ℕ) (e : ℤ) → (e <ℤ negsuc 19) ⊎ (pos 20 <ℤ e)
    → unsigned_text n e ≡ decimal n ++ 69 ∷ signed_decimal e
text_far n e (inl h) = at_far n e (and_left _ _ (le_false (negsuc 19) e h))
text_far n e (inr h) = at_far n e (and_right _ _ (le_false e (pos 20) h))

pub text_with_point : (n : ℕ) (e : ℤ) → negsuc 19 ≤ℤ e → e <ℤ pos 0 → unsigned_text n e ≡ with_point (unsigned_abs e) n
text_with_point n (pos k) low high = absurd (omega (arith, ints))
text_with_point n (negsuc k) low high = at_plain n (negsuc k) (and_from _ _ (le_true (negsuc 19) (negsuc k) low) refl)

pub text_zeros : (n : ℕ) (e : ℤ) → pos 0 ≤ℤ e → e ≤ℤ pos 20
    → unsigned_text n e ≡ decimal n ++ replicate (unsigned_abs e) 48
text_zeros n (pos k) low high = at_plain n (pos k) (and_from _ _ refl (le_true (pos k) (pos 20) high))
text_zeros n (negsuc k) low high = absurd (omega (arith, ints))
