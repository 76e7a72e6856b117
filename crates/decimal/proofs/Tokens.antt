-- A number token has one division into parts, and cutting its bytes finds it.
use Rattle.decimal.proofs.Common.{◌≡◌, ℕ, suc, ◌+◌, ◌<◌, Bool, true, false, not, eqb, List, [], ◌∷◌, ◌++◌, length, take}
use Rattle.decimal.proofs.Common.{drop, refl, sym, ap, ◌∙◌, arith, is_ascii_digit, prefix_len, and_parts, and_from}
use Rattle.decimal.proofs.Common.{ne_eqb, nat_tests, take-append-drop}
use Rattle.std.proofs.Common.{cond}
use Rattle.std.specs.List.{list_all}
use Rattle.std.proofs.lemmas.List.{take_at, drop_at}
use Rattle.decimal.specs.Spelling.{Spelling, IsNumberToken, is_fraction, is_exponent, is_letter_e, is_numeral}
use Rattle.decimal.specs.Spelling.{are_digits}
use Rattle.decimal.specs.Cutting.{cut, fraction_len}

-- the list does not begin with an element that passes
abbrev pub Stops : (ℕ → Bool) → List ℕ → Type 0
Stops p [] = Unit {0}
Stops p (b ∷ bs) = p b ≡ false

-- elements that pass, and then one that does not
pub prefix_exact : (p : ℕ → Bool) (ds more : List ℕ) → list_all p ds ≡ true → Stops p more
    → prefix_len p (ds ++ more) ≡ length ds
prefix_exact p [] [] h stops = refl
prefix_exact p [] (b ∷ bs) h stops = rw stops refl
prefix_exact p (d ∷ ds) more h stops =
    let a = and_parts (p d) (list_all p ds) h in
    rw a.0 (omega (arith, prefix_exact p ds more a.1 stops))

one_more : (n : ℕ) → 1 + n ≡ suc n
one_more n = omega arith

prefix_all_at : (p : ℕ → Bool) (b : ℕ) (bs : List ℕ) (t : Bool) → p b ≡ t
    → list_all p (take (prefix_len p bs) bs) ≡ true → list_all p (take (cond t (1 + prefix_len p bs) 0) (b ∷ bs)) ≡ true
prefix_all_at p b bs true e h = rw (one_more, e) h
prefix_all_at p b bs false e h = refl

pub prefix_all : (p : ℕ → Bool) (bs : List ℕ) → list_all p (take (prefix_len p bs) bs) ≡ true
prefix_all p [] = refl
prefix_all p (b ∷ bs) = prefix_all_at p b bs (p b) refl (prefix_all p bs)

pub e_digit : (b : ℕ) → is_letter_e b ≡ true → is_ascii_digit b ≡ false
e_digit b h = grind (arith, nat_tests)

pub e_point : (b : ℕ) → is_letter_e b ≡ true → eqb b 46 ≡ false
e_point b h = grind (arith, nat_tests)

pub point_digit : (b : ℕ) → eqb b 46 ≡ true → is_ascii_digit b ≡ false
point_digit b h = grind (arith, nat_tests)

some_length : (ds : List ℕ) → 0 < length ds → not (eqb (length ds) 0) ≡ true
some_length ds h = ap not (ne_eqb (length ds) 0 (λ e. omega (arith, h, e)))

pub numeral_from : (ds : List ℕ) → 0 < length ds → are_digits ds ≡ true → is_numeral ds ≡ true
numeral_from ds some digits = and_from _ (are_digits ds) (some_length ds some) digits

-- no digit follows the whole part, and none the fraction
exponent_stops : (exponent : List ℕ) → is_exponent exponent ≡ true → Stops is_ascii_digit exponent
exponent_stops [] h = tt
exponent_stops (b ∷ bs) h = e_digit b (and_parts (is_letter_e b) _ h).0

tail_stops : (fraction exponent : List ℕ) → is_fraction fraction ≡ true → is_exponent exponent ≡ true
    → Stops is_ascii_digit (fraction ++ exponent)
tail_stops [] exponent f e = exponent_stops exponent e
tail_stops (b ∷ bs) exponent f e = point_digit b (and_parts (eqb b 46) _ f).0

fraction_exact : (fraction exponent : List ℕ) → is_fraction fraction ≡ true → is_exponent exponent ≡ true
    → fraction_len (fraction ++ exponent) ≡ length fraction
fraction_exact [] [] f e = refl
fraction_exact [] (b ∷ bs) f e = rw (e_point b (and_parts (is_letter_e b) _ e).0) refl
fraction_exact (b ∷ bs) exponent f e =
    let parts = and_parts (eqb b 46) (are_digits bs) f in
    rw parts.0 (omega (arith, prefix_exact is_ascii_digit bs exponent parts.1 (exponent_stops exponent e)))

cut_parts : (whole fraction exponent : List ℕ) → are_digits whole ≡ true → is_fraction fraction ≡ true
    → is_exponent exponent ≡ true
    → cut (whole ++ (fraction ++ exponent)) ≡ record { whole = whole; fraction = fraction; exponent = exponent }
unfolding cut
cut_parts whole fraction exponent w f e =
    let n = prefix_exact is_ascii_digit whole (fraction ++ exponent) w (tail_stops fraction exponent f e) in
    let past = drop_at whole (fraction ++ exponent) (length whole) refl in
    let front = take_at whole (fraction ++ exponent) (length whole) refl in
    let m = fraction_exact fraction exponent f e in
    rw (n, past, front, m) (λ t. record {
      whole = whole;
      fraction = take_at fraction exponent (length fraction) refl t;
      exponent = drop_at fraction exponent (length fraction) refl t;
    })

pub token_is_cut : (bytes : List ℕ) (s : Spelling) → IsNumberToken bytes s → s ≡ cut bytes
token_is_cut bytes s token =
    sym (ap cut token.parts ∙ cut_parts s.whole s.fraction s.exponent
    (and_parts (not (eqb (length s.whole) 0)) (are_digits s.whole) token.whole).1 token.fraction token.exponent)

pub same_token : (bytes : List ℕ) (s t : Spelling) → IsNumberToken bytes s → IsNumberToken bytes t → s ≡ t
same_token bytes s t one two = token_is_cut bytes s one ∙ sym (token_is_cut bytes t two)

cut_fraction_at : (b : ℕ) (bs : List ℕ) (t : Bool) → eqb b 46 ≡ t
    → is_fraction (take (cond t (1 + prefix_len is_ascii_digit bs) 0) (b ∷ bs)) ≡ true
cut_fraction_at b bs true e = rw one_more (and_from (eqb b 46) _ e (prefix_all is_ascii_digit bs))
cut_fraction_at b bs false e = refl

cut_fraction : (bs : List ℕ) → is_fraction (take (fraction_len bs) bs) ≡ true
cut_fraction [] = refl
cut_fraction (b ∷ bs) = cut_fraction_at b bs (eqb b 46) refl

pub cut_is_token : (bytes : List ℕ) → is_numeral (cut bytes).whole ≡ true → is_exponent (cut bytes).exponent ≡ true
    → IsNumberToken bytes (cut bytes)
unfolding cut
cut_is_token bytes w e =
    let n = prefix_len is_ascii_digit bytes in
    let rest = drop n bytes in
    record {
      parts = sym (ap (λ xs. take n bytes ++ xs) (take-append-drop (fraction_len rest) rest)
          ∙ take-append-drop n bytes);
      whole = w;
      fraction = cut_fraction rest;
      exponent = e;
    }
