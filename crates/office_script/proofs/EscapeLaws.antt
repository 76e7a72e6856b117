-- The bytes that a written value stands for.
use Rattle.std.proofs.Common.{◌≡◌, ◌≢◌, ◌↔◌, ◌+◌, ◌*◌, ◌<◌, ◌&&◌, ◌++◌, nat_lt, true, false, ℕ, Bool, List, [], ◌∷◌}
use Rattle.std.proofs.Common.{Option, Some, None, refl, sym, ap, ◌∙◌, subst, arith, inl, inr, ◌⊎◌, append_assoc}
use Rattle.std.proofs.Common.{append-nil, length}
use Rattle.std.specs.Option.{option_map}
use Rattle.std.specs.Char.{digit_value}
use Rattle.std.proofs.lemmas.Bool.{ne_eqb}
use Rattle.std.proofs.lemmas.Bool.Decides.{eqb_tells, nat_tests}
use Rattle.office_script.specs.Escapes.{StandsFor, nothing, itself, escape, unescaped, unescaped_digits}

abbrev are_digits : ℕ → ℕ → Bool
-- whether both are hexadecimal digits
are_digits high low = nat_lt (digit_value high) 16 && nat_lt (digit_value low) 16

-- two digits pass the test
digits_yes : (high low : ℕ) → digit_value high < 16 → digit_value low < 16 → are_digits high low ≡ true
digits_yes high low h l = grind (arith, nat_tests)

-- what passes the test are two digits
digits_back : (high low : ℕ) → are_digits high low ≡ true → (digit_value high < 16) × (digit_value low < 16)
digits_back high low e = (grind (arith, nat_tests), grind (arith, nat_tests))

-- what follows a byte that stands for itself, or an escape
more_of : (b : ℕ) (found : Option (List ℕ)) (bytes : List ℕ) → option_map (λ more. b ∷ more) found ≡ Some bytes
    → (more : List ℕ) × (found ≡ Some more) × (bytes ≡ b ∷ more)
more_of b None bytes e = cc
more_of b (Some more) bytes e = (more, refl, cc)

-- what a value stands for is found
found_from : {written bytes : List ℕ} → StandsFor written bytes → unescaped written ≡ Some bytes
found_from nothing = refl
found_from (itself {b = b} ne rest) = rw (ne_eqb b 37 ne, found_from rest)
found_from (escape {high = high} {low = low} h l rest) = rw (digits_yes high low h l, found_from rest)

-- a value that stands for bytes stands for equal ones
along : (written a b : List ℕ) → a ≡ b → StandsFor written a → StandsFor written b
along written a b e h = let P : List ℕ → Type 0 = λ bs. StandsFor written bs in subst P e h

-- a byte that is `%` begins an escape
at_percent : (b : ℕ) (written bytes : List ℕ) → b ≡ 37 → StandsFor (37 ∷ written) bytes → StandsFor (b ∷ written) bytes
at_percent b written bytes e h = let P : ℕ → Type 0 = λ c. StandsFor (c ∷ written) bytes in subst P (sym e) h

-- a test passes or fails
true_or_false : (t : Bool) → (t ≡ true) ⊎ (t ≡ false)
true_or_false true = inl refl
true_or_false false = inr refl

mutual
  stands_from : (written bytes : List ℕ) → unescaped written ≡ Some bytes → StandsFor written bytes
  stands_from [] bytes e = along [] [] bytes (let same : [] ≡ bytes = cc in same) nothing
  stands_from (b ∷ written) bytes e =
      elim (eqb_tells b 37) [
        | inl h ↦ at_percent b written bytes h.1 (stands_after written bytes (rw h.0 at e))
        | inr h ↦ let m = more_of b (unescaped written) bytes (rw h.0 at e) in
            along (b ∷ written) (b ∷ m.0) bytes (sym m.2) (itself h.1 (stands_from written m.0 m.1))
      ]

  stands_after : (written bytes : List ℕ) → unescaped_digits written ≡ Some bytes → StandsFor (37 ∷ written) bytes
  stands_after [] bytes e = cc
  stands_after (high ∷ []) bytes e = cc
  stands_after (high ∷ low ∷ written) bytes e =
      elim (true_or_false (are_digits high low)) [
        | inl both ↦ let h = digits_back high low both in
            let m = more_of (16 * digit_value high + digit_value low) (unescaped written) bytes (rw both at e) in
            along (37 ∷ high ∷ low ∷ written) ((16 * digit_value high + digit_value low) ∷ m.0) bytes (sym m.2)
            (escape h.0 h.1 (stands_from written m.0 m.1))
        | inr other ↦ let none : None ≡ Some bytes = rw other at e in cc
      ]

-- a value stands for just the bytes that are found
pub escapes_law : (written bytes : List ℕ) → (StandsFor written bytes ↔ (unescaped written ≡ Some bytes))
escapes_law written bytes = (found_from, stands_from written bytes)

-- the same of an answer
pub meant : (written : List ℕ) (found : Option (List ℕ)) → found ≡ unescaped written → (bytes : List ℕ)
    → (StandsFor written bytes ↔ (found ≡ Some bytes))
meant written found e bytes = rw e (escapes_law written bytes)

-- an escape that was read
pub escape_read : (after others rest : List ℕ) (high low byte : ℕ) → after ≡ high ∷ others → others ≡ low ∷ rest
    → ((digit_value high < 16) × (digit_value low < 16)) × (byte ≡ 16 * digit_value high + digit_value low)
    → unescaped_digits after ≡ option_map (λ bytes. byte ∷ bytes) (unescaped rest)
escape_read after others rest high low byte first second h =
    rw (first, second, h.1, digits_yes high low h.0.0 h.0.1) refl

-- one more byte at the end of those read so far
one_more : (bytes : List ℕ) (b : ℕ) (found : Option (List ℕ))
    → option_map (λ more. bytes ++ more) (option_map (λ more. b ∷ more) found)
    ≡ option_map (λ more. (bytes ++ (b ∷ [])) ++ more) found
one_more bytes b None = refl
one_more bytes b (Some more) = ap Some (sym (append_assoc bytes (b ∷ []) more))

-- a byte was read that stands for itself
pub itself_more : (all : Option (List ℕ)) (bytes left after : List ℕ) (b : ℕ)
    → all ≡ option_map (λ more. bytes ++ more) (unescaped left) → left ≡ b ∷ after → b ≢ 37
    → all ≡ option_map (λ more. (bytes ++ (b ∷ [])) ++ more) (unescaped after)
itself_more all bytes left after b h first ne =
    let step : unescaped left ≡ option_map (λ more. b ∷ more) (unescaped after) = rw (first, ne_eqb b 37 ne) refl in
    h ∙ (ap (option_map (λ more. bytes ++ more)) step ∙ one_more bytes b (unescaped after))

-- an escape was read
pub escape_more : (all : Option (List ℕ)) (bytes left after following : List ℕ) (first b : ℕ)
    → all ≡ option_map (λ more. bytes ++ more) (unescaped left) → left ≡ first ∷ after → first ≡ 37
    → unescaped_digits after ≡ option_map (λ more. b ∷ more) (unescaped following)
    → all ≡ option_map (λ more. (bytes ++ (b ∷ [])) ++ more) (unescaped following)
escape_more all bytes left after following first b h cut percent read =
    let step : unescaped left ≡ option_map (λ more. b ∷ more) (unescaped following) = rw (cut, percent) read in
    h ∙ (ap (option_map (λ more. bytes ++ more)) step ∙ one_more bytes b (unescaped following))

-- no byte was read
pub escape_stops : (all : Option (List ℕ)) (bytes left after : List ℕ) (first : ℕ)
    → all ≡ option_map (λ more. bytes ++ more) (unescaped left) → left ≡ first ∷ after → first ≡ 37
    → unescaped_digits after ≡ None → None ≡ all
escape_stops all bytes left after first h cut percent read =
    let step : unescaped left ≡ None = rw (cut, percent) read in
    sym (h ∙ ap (option_map (λ more. bytes ++ more)) step)

-- all was read
pub read_whole : (all : Option (List ℕ)) (bytes left : List ℕ)
    → all ≡ option_map (λ more. bytes ++ more) (unescaped left) → length left ≡ 0 → Some bytes ≡ all
read_whole all bytes [] h none = sym (h ∙ ap Some (append-nil bytes))
read_whole all bytes (b ∷ left) h none = absurd (omega (arith, none))
