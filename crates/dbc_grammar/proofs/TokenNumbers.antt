-- The longest number at an offset is found part by part: digits, a point with digits, an exponent.
use Rattle.dbc_grammar.proofs.Common.{◌≡◌, ℕ, zero, suc, ◌+◌, ◌≤◌, ◌<◌, Bool, true, false, cond, eqb, List, [], ◌∷◌}
use Rattle.dbc_grammar.proofs.Common.{◌++◌, length, take, drop, refl, ap, subst, ◌∙◌, arith, append_assoc}
use Rattle.dbc_grammar.proofs.Common.{is_ascii_digit, prefix_len, and_parts, and_from, nat_tests, length-append}
use Rattle.dbc_grammar.proofs.Common.{drop_at, length-prefix_len, prefix_len-le-length, are_digits, is_numeral, Stops}
use Rattle.dbc_grammar.proofs.Common.{prefix_all, prefix_exact}
use Rattle.std.proofs.lemmas.Bool.{cond_both, ne_eqb}
use Rattle.std.proofs.lemmas.List.{length-drop}
use Rattle.std.proofs.Math.Seq.{take-add}
use Rattle.decimal.specs.Cutting.{fraction_len}
use Rattle.decimal.specs.Spelling.{Spelling, IsNumberToken, is_exponent, is_fraction, is_letter_e, is_power, is_sign}
use Rattle.dbc_grammar.specs.Lexing.{exponent_len, number_len, power_len, tail_len, with_front}
use Rattle.dbc_grammar.proofs.TokenRuns.{prefix_le}

-- ---- no number is longer

pub numeral_parts : (bytes : List ℕ) → is_numeral bytes ≡ true → (0 < length bytes) × (are_digits bytes ≡ true)
numeral_parts [] h = absurd cc
numeral_parts (b ∷ bytes) h = (omega arith, (and_parts _ (are_digits (b ∷ bytes)) h).1)

pub with_front-is : (n : ℕ) → 0 < n → with_front n ≡ n + 1
with_front-is zero h = absurd (omega arith)
with_front-is (suc n) h = omega arith

numeral_le : (bytes more : List ℕ) → is_numeral bytes ≡ true
    → (length bytes ≤ prefix_len is_ascii_digit (bytes ++ more)) × (0 < length bytes)
numeral_le bytes more h = let n = numeral_parts bytes h in (prefix_le is_ascii_digit bytes more n.1, n.0)

power_le_at : (b : ℕ) (bytes more : List ℕ) (sign : Bool) → is_sign b ≡ sign
    → cond sign (is_numeral bytes) (is_numeral (b ∷ bytes)) ≡ true
    → length (b ∷ bytes) ≤ power_len (b ∷ (bytes ++ more))
unfolding power_len
power_le_at b bytes more true e h =
    let le = numeral_le bytes more h in
    rw e (omega (arith, le.0, with_front-is (prefix_len is_ascii_digit (bytes ++ more)) (omega (arith, le.0, le.1))))
power_le_at b bytes more false e h = rw e (numeral_le (b ∷ bytes) more h).0

power_le : (bytes more : List ℕ) → is_power bytes ≡ true → (length bytes ≤ power_len (bytes ++ more))
    × (0 < length bytes)
power_le [] more h = absurd cc
power_le (b ∷ bytes) more h = (power_le_at b bytes more (is_sign b) refl h, omega arith)

exponent_le : (bytes more : List ℕ) → is_exponent bytes ≡ true → length bytes ≤ exponent_len (bytes ++ more)
unfolding exponent_len
exponent_le [] more h = omega arith
exponent_le (b ∷ bytes) more h =
    let e = and_parts (is_letter_e b) (is_power bytes) h in
    let le = power_le bytes more e.1 in
    rw e.0 (omega (arith, le.0, with_front-is (power_len (bytes ++ more)) (omega (arith, le.0, le.1))))

e_digit : (b : ℕ) → is_letter_e b ≡ true → is_ascii_digit b ≡ false
e_digit b h = grind (arith, nat_tests)

e_point : (b : ℕ) → is_letter_e b ≡ true → eqb b 46 ≡ false
e_point b h = grind (arith, nat_tests)

point_digit : (b : ℕ) → eqb b 46 ≡ true → is_ascii_digit b ≡ false
point_digit b h = grind (arith, nat_tests)

tail_le : (fraction exponent more : List ℕ) → is_fraction fraction ≡ true → is_exponent exponent ≡ true
    → length fraction + length exponent ≤ tail_len (fraction ++ (exponent ++ more))
unfolding tail_len
tail_le [] [] more f e = omega arith
tail_le [] (b ∷ bs) more f e =
    rw (e_point b (and_parts (is_letter_e b) _ e).0) (omega (arith, exponent_le (b ∷ bs) more e))
tail_le (c ∷ cs) [] more f e =
    let p = and_parts (eqb c 46) (are_digits cs) f in
    rw p.0 (omega (arith, prefix_le is_ascii_digit cs more p.1))
tail_le (c ∷ cs) (b ∷ bs) more f e =
    let p = and_parts (eqb c 46) (are_digits cs) f in
    let exact = prefix_exact is_ascii_digit cs (b ∷ bs ++ more) p.1 (e_digit b (and_parts (is_letter_e b) _ e).0) in
    let tail = b ∷ bs ++ more in
    let past : drop (1 + length cs) (c ∷ (cs ++ tail)) ≡ tail = drop_at (c ∷ cs) tail (1 + length cs) (omega arith) in
    rw (p.0, exact, past) (omega (arith, exponent_le (b ∷ bs) more e))

after_whole : (whole tail : List ℕ) (n : ℕ) → are_digits whole ≡ true → Stops is_ascii_digit tail → n ≤ tail_len tail
    → length whole + n ≤ number_len (whole ++ tail)
unfolding number_len
after_whole whole tail n w stops le =
    rw (prefix_exact is_ascii_digit whole tail w stops, drop_at whole tail (length whole) refl) (omega arith)

parts_le : (whole fraction exponent more : List ℕ) → are_digits whole ≡ true → is_fraction fraction ≡ true
    → is_exponent exponent ≡ true
    → length whole + (length fraction + length exponent) ≤ number_len (whole ++ (fraction ++ (exponent ++ more)))
unfolding number_len
parts_le whole [] [] more w f e = omega (arith, prefix_le is_ascii_digit whole more w)
parts_le whole [] (b ∷ bs) more w f e =
    after_whole whole (b ∷ bs ++ more) (0 + length (b ∷ bs)) w (e_digit b (and_parts (is_letter_e b) _ e).0)
    (tail_le [] (b ∷ bs) more f e)
parts_le whole (c ∷ cs) exponent more w f e =
    let stops = point_digit c (and_parts (eqb c 46) _ f).0 in
    after_whole whole (c ∷ cs ++ (exponent ++ more)) (length (c ∷ cs) + length exponent) w stops
    (tail_le (c ∷ cs) exponent more f e)

pub number_le : (word more : List ℕ) (s : Spelling) → IsNumberToken word s → length word ≤ number_len (word ++ more)
number_le word more s token =
    let all : word ++ more ≡ s.whole ++ (s.fraction ++ (s.exponent ++ more)) = ap (λ v. v ++ more) token.parts
    ∙ simp append_assoc in
    let long : length word ≡ length s.whole + (length s.fraction + length s.exponent) = ap length token.parts
    ∙ simp length-append in
    rw (long, all) (parts_le s.whole s.fraction s.exponent more (numeral_parts s.whole token.whole).1 token.fraction
    token.exponent)

-- ---- what is found is a number

one_more : (n : ℕ) → 1 + n ≡ suc n
one_more n = omega arith

numeral_at : (bytes : List ℕ) → 0 < prefix_len is_ascii_digit bytes
    → is_numeral (take (prefix_len is_ascii_digit bytes) bytes) ≡ true
numeral_at bytes some =
    let long : 0 < length (take (prefix_len is_ascii_digit bytes) bytes) = rw length-prefix_len some in
    numeral_of (take (prefix_len is_ascii_digit bytes) bytes) long (prefix_all is_ascii_digit bytes)
  where
    numeral_of : (digits : List ℕ) → 0 < length digits → are_digits digits ≡ true → is_numeral digits ≡ true
    numeral_of [] some all = absurd (omega arith)
    numeral_of (d ∷ ds) some all = rw (ne_eqb (length (d ∷ ds)) 0 (λ z. absurd (omega (arith, z)))) all

fraction_found_at : (b : ℕ) (bytes : List ℕ) (point : Bool) → eqb b 46 ≡ point
    → is_fraction (take (cond point (1 + prefix_len is_ascii_digit bytes) 0) (b ∷ bytes)) ≡ true
fraction_found_at b bytes true e = rw one_more (and_from (eqb b 46) _ e (prefix_all is_ascii_digit bytes))
fraction_found_at b bytes false e = refl

fraction_found : (bytes : List ℕ) → is_fraction (take (fraction_len bytes) bytes) ≡ true
fraction_found [] = refl
fraction_found (b ∷ bytes) = fraction_found_at b bytes (eqb b 46) refl

signed_found : (b : ℕ) (bytes : List ℕ) (n : ℕ) → is_sign b ≡ true → prefix_len is_ascii_digit bytes ≡ n
    → 0 < with_front n
    → is_power (take (with_front n) (b ∷ bytes)) ≡ true
signed_found b bytes zero s e some = absurd (omega arith)
signed_found b bytes (suc n) s e some =
    let h = numeral_at bytes (omega (arith, e)) in
    rw s (rw e at h)

plain_found : (b : ℕ) (bytes : List ℕ) (n : ℕ) → is_sign b ≡ false → prefix_len is_ascii_digit (b ∷ bytes) ≡ n → 0 < n
    → is_power (take n (b ∷ bytes)) ≡ true
plain_found b bytes zero s e some = absurd (omega arith)
plain_found b bytes (suc n) s e some =
    let h = numeral_at (b ∷ bytes) (omega (arith, e)) in
    rw s (subst (λ k. is_numeral (take k (b ∷ bytes)) ≡ true) e h)

power_found_at : (b : ℕ) (bytes : List ℕ) (sign : Bool) → is_sign b ≡ sign
    → 0 < cond sign (with_front (prefix_len is_ascii_digit bytes)) (prefix_len is_ascii_digit (b ∷ bytes))
    → is_power (take (cond sign (with_front (prefix_len is_ascii_digit bytes)) (prefix_len is_ascii_digit (b ∷ bytes)))
    (b ∷ bytes)) ≡ true
power_found_at b bytes true e some = signed_found b bytes _ e refl some
power_found_at b bytes false e some = plain_found b bytes _ e refl some

power_found : (bytes : List ℕ) → 0 < power_len bytes → is_power (take (power_len bytes) bytes) ≡ true
unfolding power_len
power_found [] some = absurd (omega (arith, some))
power_found (b ∷ bytes) some = power_found_at b bytes (is_sign b) refl some

with_letter : (b : ℕ) (bytes : List ℕ) (n : ℕ) → is_letter_e b ≡ true → power_len bytes ≡ n
    → is_exponent (take (with_front n) (b ∷ bytes)) ≡ true
with_letter b bytes zero h e = refl
with_letter b bytes (suc n) h e =
    let p = power_found bytes (omega (arith, e)) in
    and_from (is_letter_e b) _ h (rw e at p)

exponent_found_at : (b : ℕ) (bytes : List ℕ) (letter : Bool) → is_letter_e b ≡ letter
    → is_exponent (take (cond letter (with_front (power_len bytes)) 0) (b ∷ bytes)) ≡ true
exponent_found_at b bytes true e = with_letter b bytes _ e refl
exponent_found_at b bytes false e = refl

exponent_found : (bytes : List ℕ) → is_exponent (take (exponent_len bytes) bytes) ≡ true
unfolding exponent_len
exponent_found [] = refl
exponent_found (b ∷ bytes) = exponent_found_at b bytes (is_letter_e b) refl

pub number_found : (bytes : List ℕ) → 0 < prefix_len is_ascii_digit bytes → (s : Spelling)
    × IsNumberToken (take (number_len bytes) bytes) s
unfolding number_len tail_len
number_found bytes some =
    let n = prefix_len is_ascii_digit bytes in
    let rest = drop n bytes in
    let tail = drop (fraction_len rest) rest in
    let s : Spelling = record {
      whole = take n bytes;
      fraction = take (fraction_len rest) rest;
      exponent =
          take (exponent_len tail) tail;
    } in (
      s,
      record {
        parts = rw (take-add, take-add) refl;
        whole = numeral_at bytes some;
        fraction = fraction_found rest;
        exponent = exponent_found tail;
      },
    )

-- ---- what is found is there

with_front_le : (n m : ℕ) → n ≤ m → with_front n ≤ suc m
with_front_le zero m h = omega arith
with_front_le (suc n) m h = omega arith

fraction_within : (bytes : List ℕ) → fraction_len bytes ≤ length bytes
fraction_within [] = omega arith
fraction_within (b ∷ bytes) =
    let le = prefix_len-le-length is_ascii_digit bytes in
    cond_both (eqb b 46) (1 + prefix_len is_ascii_digit bytes) 0 (λ n. n ≤ suc (length bytes)) (λ _. omega (arith, le))
    (λ _. omega arith)

power_within : (bytes : List ℕ) → power_len bytes ≤ length bytes
unfolding power_len
power_within [] = omega arith
power_within (b ∷ bytes) =
    let le = prefix_len-le-length is_ascii_digit bytes in
    cond_both (is_sign b) (with_front (prefix_len is_ascii_digit bytes)) (prefix_len is_ascii_digit (b ∷ bytes))
    (λ n. n ≤ suc (length bytes))
    (λ _. with_front_le _ (length bytes) le) (λ _. prefix_len-le-length is_ascii_digit (b ∷ bytes))

exponent_within : (bytes : List ℕ) → exponent_len bytes ≤ length bytes
unfolding exponent_len
exponent_within [] = omega arith
exponent_within (b ∷ bytes) =
    cond_both (is_letter_e b) (with_front (power_len bytes)) 0 (λ n. n ≤ suc (length bytes))
    (λ _. with_front_le _ (length bytes) (power_within bytes)) (λ _. omega arith)

pub number_within : (bytes : List ℕ) → number_len bytes ≤ length bytes
unfolding number_len tail_len
number_within bytes =
    let n = prefix_len is_ascii_digit bytes in
    let rest = drop n bytes in
    let f = fraction_len rest in
    omega (
      arith,
      prefix_len-le-length is_ascii_digit bytes,
      length-drop n bytes,
      fraction_within rest,
      length-drop f rest,
      exponent_within (drop f rest),
    )
