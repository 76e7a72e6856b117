-- Where an exponent ends.
use Rattle.std.proofs.Common.{◌≡◌, ◌≢◌, ℕ, zero, suc, ◌+◌, ◌-◌, ◌<◌, ◌≤◌, ◌⊎◌, Bool, true, false, true≢false}
use Rattle.std.proofs.Common.{if◌then◌else◌, List, length, get_or, drop, inl, inr, refl, sym, ap, ◌∙◌, arith}
use Rattle.std.specs.Char.{is_ascii_digit}
use Rattle.std.specs.List.{prefix_len}
use Rattle.std.proofs.lemmas.List.{drop_more, get_or_past}
use Rattle.std.proofs.lemmas.Bool.{cases_lt}
use Rattle.std.proofs.Math.ListN.{drop_of_length-le}
use Rattle.decimal.specs.Spelling.{is_letter_e, is_sign}
use Rattle.dbc_grammar.specs.Lexing.{exponent_len, power_len, with_front}

-- the length of digits and of what comes before them, 0 if there are no digits
abbrev after_front : ℕ → ℕ → ℕ
after_front front zero = 0
after_front front (suc n) = front + suc n

one_front : (n : ℕ) → with_front n ≡ after_front 1 n
one_front zero = refl
one_front (suc n) = omega arith

no_front : (n : ℕ) → n ≡ after_front 0 n
no_front zero = refl
no_front (suc n) = omega arith

nothing : (front n : ℕ) → n ≡ 0 → with_front (after_front front n) ≡ 0
nothing front zero h = refl
nothing front (suc n) h = absurd cc

one_more : (n : ℕ) → n ≢ 0 → with_front n ≡ suc n
one_more zero h = absurd (h refl)
one_more (suc n) h = refl

something : (front n : ℕ) → n ≢ 0 → with_front (after_front front n) ≡ suc (front + n)
something front zero h = absurd (h refl)
something front (suc n) h = one_more (front + suc n) (λ e. absurd (omega (arith, e)))

pub none_if : (test : Bool) (len : ℕ) → test ≡ false → (if test then len else 0) ≡ 0
none_if true len h = absurd (true≢false h)
none_if false len h = refl

some_if : (test : Bool) (len : ℕ) → test ≡ true → (if test then len else 0) ≡ len
some_if true len h = refl
some_if false len h = absurd (true≢false (sym h))

-- an exponent, and its digits after its letter and its sign
module _ (source : List ℕ) where
  power_by : (sign : Bool) (at digits : ℕ) → digits ≡ (if sign then at + 1 else at)
      → (if sign then with_front (prefix_len is_ascii_digit (drop (at + 1) source)) else prefix_len is_ascii_digit
      (drop at source))
      ≡ after_front (digits - at) (prefix_len is_ascii_digit (drop digits source))
  power_by true at digits is =
      let one : digits - at ≡ 1 = omega (arith, is) in
      rw (one, is) (one_front (prefix_len is_ascii_digit (drop (at + 1) source)))
  power_by false at digits is =
      let none : digits - at ≡ 0 = omega (arith, is) in
      rw (none, is) (no_front (prefix_len is_ascii_digit (drop at source)))

  power_here : (at : ℕ) → (at < length source) ⊎ (length source ≤ at)
      → power_len (drop at source)
      ≡ (if is_sign (get_or source at 0) then with_front (prefix_len is_ascii_digit (drop (at + 1) source))
      else prefix_len is_ascii_digit (drop at source))
  unfolding power_len
  power_here at (inl there) =
      let sign = is_sign (get_or source at 0) in
      let signed = with_front (prefix_len is_ascii_digit (drop (at + 1) source)) in
      let here = drop_more source at 0 there in
      ap power_len here ∙ ap (λ v. if sign then signed else prefix_len is_ascii_digit v) (sym here)
  power_here at (inr past) = rw (get_or_past source at 0 past, drop_of_length-le source past) refl

  power_is : (at digits : ℕ) → digits ≡ (if is_sign (get_or source at 0) then at + 1 else at)
      → power_len (drop at source) ≡ after_front (digits - at) (prefix_len is_ascii_digit (drop digits source))
  power_is at digits is = power_here at (cases_lt at (length source))
      ∙ power_by (is_sign (get_or source at 0)) at digits is

  -- no exponent
  pub no_exponent : (at : ℕ) → at < length source → is_letter_e (get_or source at 0) ≡ false
      → at ≡ at + exponent_len (drop at source)
  unfolding exponent_len
  no_exponent at there other =
      let none : exponent_len (drop at source) ≡ 0 = ap exponent_len (drop_more source at 0 there)
      ∙ none_if (is_letter_e (get_or source at 0)) (with_front (power_len (drop (at + 1) source))) other in
      omega (arith, none)

  pub no_exponent_at_end : (at : ℕ) → at ≡ length source → at ≡ at + exponent_len (drop at source)
  unfolding exponent_len
  no_exponent_at_end at past =
      let none : exponent_len (drop at source) ≡ 0 = ap exponent_len (drop_of_length-le source (omega (arith, past))) in
      omega (arith, none)

  module _ (at digits end : ℕ) (there : at < length source) (letter : is_letter_e (get_or source at 0) ≡ true)
      (is : digits ≡ (if is_sign (get_or source (at + 1) 0) then at + 1 + 1 else at + 1)) (after : at + 1 ≤ digits)
      (ends : end ≡ digits + prefix_len is_ascii_digit (drop digits source)) where
    exponent_is : exponent_len (drop at source)
        ≡ with_front (after_front (digits - (at + 1)) (prefix_len is_ascii_digit (drop digits source)))
    unfolding exponent_len
    exponent_is = ap exponent_len (drop_more source at 0 there)
        ∙ some_if (is_letter_e (get_or source at 0)) (with_front (power_len (drop (at + 1) source))) letter
        ∙ ap with_front (power_is (at + 1) digits is)

    -- without digits it's none
    pub exponent_without_digits : end ≡ digits → at ≡ at + exponent_len (drop at source)
    exponent_without_digits h =
        let none = exponent_is ∙ nothing (digits - (at + 1)) (prefix_len is_ascii_digit (drop digits source))
        (omega (arith, ends, h)) in
        omega (arith, none)

    pub exponent_with_digits : end ≢ digits → end ≡ at + exponent_len (drop at source)
    exponent_with_digits h =
        let some = exponent_is ∙ something (digits - (at + 1)) (prefix_len is_ascii_digit (drop digits source))
        (λ e. h (omega (arith, ends, e))) in
        omega (arith, ends, some, after)
