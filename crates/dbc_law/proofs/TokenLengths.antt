-- How long a word is, read from its first byte, where a byte follows it that continues no word.
use Rattle.dbc_law.proofs.Common.{◌≡◌, ◌==◌, ℕ, ◌+◌, ◌<◌, Bool, true, false, cond, List, [], ◌∷◌, ◌++◌, length, refl}
use Rattle.dbc_law.proofs.Common.{ap, ◌∙◌, arith, append_assoc, is_ascii_digit, and_parts, or_parts, nat_tests}
use Rattle.dbc_law.proofs.Common.{length-append, are_digits, continues_identifier, is_c_identifier}
use Rattle.std.proofs.Common.{◌||◌, eqb}
use Rattle.std.specs.List.{prefix_len}
use Rattle.std.proofs.lemmas.List.{drop_at}
use Rattle.decimal.specs.Cutting.{fraction_len}
use Rattle.decimal.specs.Spelling.{Spelling, IsNumberToken, is_exponent, is_fraction, is_letter_e, is_numeral, is_power}
use Rattle.decimal.specs.Spelling.{is_sign}
use Rattle.decimal.proofs.Tokens.{Stops, e_digit, e_point, point_digit, prefix_exact}
use Rattle.dbc_grammar.specs.Lexing.{exponent_len, number_len, power_len, tail_len}
use Rattle.dbc_grammar.proofs.TokenNumbers.{numeral_parts, with_front-is}
use Rattle.dbc_grammar.proofs.TokenWords.{name_continues}

-- the byte continues a name or a number
abbrev pub continues_word : ℕ → Bool
continues_word b = continues_identifier b || (b == 46)

-- the bytes end, or go on with a byte that continues no word
abbrev pub Breaks : List ℕ → Type 0
Breaks rest = Stops continues_word rest

-- ---- names

no_name : (rest : List ℕ) → Breaks rest → Stops continues_identifier rest
no_name [] h = tt
no_name (b ∷ rest) h = (or_parts (continues_identifier b) (b == 46) h).0

pub name_exact : (word rest : List ℕ) → is_c_identifier word ≡ true → Breaks rest
    → prefix_len continues_identifier (word ++ rest) ≡ length word
name_exact word rest h breaks =
    prefix_exact continues_identifier word rest (name_continues word h) (no_name rest breaks)

-- ---- numbers, part by part

no_digit : (b : ℕ) → continues_word b ≡ false → is_ascii_digit b ≡ false
no_digit b h = grind (arith, nat_tests)

no_letter : (b : ℕ) → continues_word b ≡ false → is_letter_e b ≡ false
no_letter b h = grind (arith, nat_tests)

no_point : (b : ℕ) → continues_word b ≡ false → eqb b 46 ≡ false
no_point b h = (or_parts (continues_identifier b) (eqb b 46) h).1

no_digits : (rest : List ℕ) → Breaks rest → Stops is_ascii_digit rest
no_digits [] h = tt
no_digits (b ∷ rest) h = no_digit b h

numeral_exact : (bytes rest : List ℕ) → is_numeral bytes ≡ true → Breaks rest
    → (prefix_len is_ascii_digit (bytes ++ rest) ≡ length bytes) × (0 < length bytes)
numeral_exact bytes rest h breaks = let n = numeral_parts bytes h in
    (prefix_exact is_ascii_digit bytes rest n.1 (no_digits rest breaks), n.0)

power_exact_at : (b : ℕ) (bytes rest : List ℕ) (sign : Bool) → is_sign b ≡ sign
    → cond sign (is_numeral bytes) (is_numeral (b ∷ bytes)) ≡ true → Breaks rest
    → power_len (b ∷ (bytes ++ rest)) ≡ length (b ∷ bytes)
unfolding power_len
power_exact_at b bytes rest true e h breaks =
    let n = numeral_exact bytes rest h breaks in
    rw (e, n.0) (omega (arith, with_front-is (length bytes) n.1))
power_exact_at b bytes rest false e h breaks = rw e (numeral_exact (b ∷ bytes) rest h breaks).0

power_exact : (bytes rest : List ℕ) → is_power bytes ≡ true → Breaks rest → (power_len (bytes ++ rest) ≡ length bytes)
    × (0 < length bytes)
power_exact [] rest h breaks = absurd cc
power_exact (b ∷ bytes) rest h breaks = (power_exact_at b bytes rest (is_sign b) refl h breaks, omega arith)

exponent_exact : (bytes rest : List ℕ) → is_exponent bytes ≡ true → Breaks rest
    → exponent_len (bytes ++ rest) ≡ length bytes
unfolding exponent_len
exponent_exact [] [] h breaks = refl
exponent_exact [] (b ∷ rest) h breaks = rw (no_letter b breaks) refl
exponent_exact (b ∷ bytes) rest h breaks =
    let e = and_parts (is_letter_e b) (is_power bytes) h in
    let p = power_exact bytes rest e.1 breaks in
    rw (e.0, p.0) (omega (arith, with_front-is (length bytes) p.1))

-- no digit comes after those of a fraction, nor after those before the point
exponent_stops : (exponent rest : List ℕ) → is_exponent exponent ≡ true → Breaks rest
    → Stops is_ascii_digit (exponent ++ rest)
exponent_stops [] rest h breaks = no_digits rest breaks
exponent_stops (b ∷ bytes) rest h breaks = e_digit b (and_parts (is_letter_e b) _ h).0

fraction_stops : (fraction exponent rest : List ℕ) → is_fraction fraction ≡ true → is_exponent exponent ≡ true
    → Breaks rest
    → Stops is_ascii_digit (fraction ++ (exponent ++ rest))
fraction_stops [] exponent rest f e breaks = exponent_stops exponent rest e breaks
fraction_stops (b ∷ bytes) exponent rest f e breaks = point_digit b (and_parts (eqb b 46) _ f).0

fraction_exact : (fraction exponent rest : List ℕ) → is_fraction fraction ≡ true → is_exponent exponent ≡ true
    → Breaks rest
    → fraction_len (fraction ++ (exponent ++ rest)) ≡ length fraction
fraction_exact [] [] [] f e breaks = refl
fraction_exact [] [] (b ∷ rest) f e breaks = rw (no_point b breaks) refl
fraction_exact [] (b ∷ bytes) rest f e breaks = rw (e_point b (and_parts (is_letter_e b) _ e).0) refl
fraction_exact (b ∷ bytes) exponent rest f e breaks =
    let parts = and_parts (eqb b 46) (are_digits bytes) f in
    rw parts.0 (omega (
      arith,
      prefix_exact is_ascii_digit bytes (exponent ++ rest) parts.1
          (exponent_stops exponent rest e breaks),
    ))

tail_exact : (fraction exponent rest : List ℕ) → is_fraction fraction ≡ true → is_exponent exponent ≡ true → Breaks rest
    → tail_len (fraction ++ (exponent ++ rest)) ≡ length fraction + length exponent
unfolding tail_len
tail_exact fraction exponent rest f e breaks =
    rw (
      fraction_exact fraction exponent rest f e breaks,
      drop_at fraction (exponent ++ rest) (length fraction) refl,
      exponent_exact exponent rest e breaks,
    ) refl

parts_exact : (whole fraction exponent rest : List ℕ) → are_digits whole ≡ true → is_fraction fraction ≡ true
    → is_exponent exponent ≡ true → Breaks rest
    → number_len (whole ++ (fraction ++ (exponent ++ rest))) ≡ length whole + (length fraction + length exponent)
unfolding number_len
parts_exact whole fraction exponent rest w f e breaks =
    let tail = fraction ++ (exponent ++ rest) in
    rw (
      prefix_exact is_ascii_digit whole tail w (fraction_stops fraction exponent rest f e breaks),
      drop_at whole tail (length whole) refl,
      tail_exact fraction exponent rest f e breaks,
    ) refl

pub number_exact : (word rest : List ℕ) (s : Spelling) → IsNumberToken word s → Breaks rest
    → number_len (word ++ rest) ≡ length word
number_exact word rest s token breaks =
    let all : word ++ rest ≡ s.whole ++ (s.fraction ++ (s.exponent ++ rest)) = ap (λ v. v ++ rest) token.parts
    ∙ simp append_assoc in
    let long : length word ≡ length s.whole + (length s.fraction + length s.exponent) = ap length token.parts
    ∙ simp length-append in
    rw (long, all) (parts_exact s.whole s.fraction s.exponent rest (numeral_parts s.whole token.whole).1 token.fraction
    token.exponent breaks)
