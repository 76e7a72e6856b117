-- A token that is the longest where it is stays so if the line ends after some of the bytes that follow.
use Rattle.dbc_keep_law.proofs.Common.{◌≡◌, ◌==◌, ◌≤◌, ℕ, Bool, true, false, not, List, [], ◌∷◌, ◌++◌, length, refl}
use Rattle.dbc_keep_law.proofs.Common.{sym, ap, subst, ◌∙◌, append_assoc, arith, list_all, and_from, and_parts}
use Rattle.dbc_keep_law.proofs.Common.{nat_tests, list_all-append, Spells, IsLongest, TokenKind, Name, Text, Mark}
use Rattle.dbc_keep_law.proofs.Common.{word_longest}
use Rattle.std.specs.Char.{is_ascii_digit}
use Rattle.dbc_words.specs.Name.{continues_identifier}
use Rattle.decimal.specs.Spelling.{are_digits, is_exponent, is_fraction, is_letter_e, is_numeral, is_power, is_sign}
use Rattle.dbc_grammar.specs.declared.token.TokenKind.TheVariants.{Number}
use Rattle.dbc_grammar.proofs.TokenBytes.{begins_further, one_kind}
use Rattle.dbc_grammar.proofs.TokenNumbers.{numeral_parts}
use Rattle.dbc_grammar.proofs.TokenWords.{name_continues}

-- ---- no byte of a name or a number ends a line

abbrev goes_on : ℕ → Bool
goes_on b = not (b == 10)

all_pass : (p q : ℕ → Bool) → ((b : ℕ) → p b ≡ true → q b ≡ true) → (bs : List ℕ) → list_all p bs ≡ true
    → list_all q bs ≡ true
all_pass p q h [] e = refl
all_pass p q h (b ∷ bs) e =
    let parts = and_parts (p b) (list_all p bs) e in
    and_from (q b) (list_all q bs) (h b parts.0) (all_pass p q h bs parts.1)

letter_goes : (b : ℕ) → continues_identifier b ≡ true → goes_on b ≡ true
letter_goes b h = grind (arith, nat_tests)

digit_goes : (b : ℕ) → is_ascii_digit b ≡ true → goes_on b ≡ true
digit_goes b h = grind (arith, nat_tests)

sign_goes : (b : ℕ) → is_sign b ≡ true → goes_on b ≡ true
sign_goes b h = grind (arith, nat_tests)

e_goes : (b : ℕ) → is_letter_e b ≡ true → goes_on b ≡ true
e_goes b h = grind (arith, nat_tests)

point_goes : (b : ℕ) → (b == 46) ≡ true → goes_on b ≡ true
point_goes b h = grind (arith, nat_tests)

digits_go : (bs : List ℕ) → are_digits bs ≡ true → list_all goes_on bs ≡ true
digits_go bs h = all_pass is_ascii_digit goes_on digit_goes bs h

fraction_goes : (bs : List ℕ) → is_fraction bs ≡ true → list_all goes_on bs ≡ true
fraction_goes [] h = refl
fraction_goes (b ∷ bs) h =
    let parts = and_parts (b == 46) (are_digits bs) h in
    and_from (goes_on b) (list_all goes_on bs) (point_goes b parts.0) (digits_go bs parts.1)

power_goes_by : (b : ℕ) (bs : List ℕ) (sign : Bool) → is_sign b ≡ sign → is_power (b ∷ bs) ≡ true
    → list_all goes_on (b ∷ bs) ≡ true
power_goes_by b bs true e h =
    let n : is_numeral bs ≡ true = rw e at h in
    and_from (goes_on b) (list_all goes_on bs) (sign_goes b e) (digits_go bs (numeral_parts bs n).1)
power_goes_by b bs false e h =
    let n : is_numeral (b ∷ bs) ≡ true = rw e at h in
    digits_go (b ∷ bs) (numeral_parts (b ∷ bs) n).1

power_goes : (bs : List ℕ) → is_power bs ≡ true → list_all goes_on bs ≡ true
power_goes [] h = refl
power_goes (b ∷ bs) h = power_goes_by b bs (is_sign b) refl h

exponent_goes : (bs : List ℕ) → is_exponent bs ≡ true → list_all goes_on bs ≡ true
exponent_goes [] h = refl
exponent_goes (b ∷ bs) h =
    let parts = and_parts (is_letter_e b) (is_power bs) h in
    and_from (goes_on b) (list_all goes_on bs) (e_goes b parts.0) (power_goes bs parts.1)

both_go : (xs ys : List ℕ) → list_all goes_on xs ≡ true → list_all goes_on ys ≡ true
    → list_all goes_on (xs ++ ys) ≡ true
both_go xs ys h k = list_all-append goes_on xs ys ∙ and_from (list_all goes_on xs) (list_all goes_on ys) h k

name_goes : (word : List ℕ) → Spells Name word → list_all goes_on word ≡ true
name_goes word s = all_pass continues_identifier goes_on letter_goes word (name_continues word s)

number_goes : (word : List ℕ) → Spells Number word → list_all goes_on word ≡ true
number_goes word (s, token) =
    let tail = both_go s.fraction s.exponent (fraction_goes s.fraction token.fraction)
    (exponent_goes s.exponent token.exponent) in
    let whole = digits_go s.whole (numeral_parts s.whole token.whole).1 in
    subst (λ v. list_all goes_on v ≡ true) (sym token.parts) (both_go s.whole (s.fraction ++ s.exponent) whole tail)

-- ---- bytes without a line's end that come first come before it

cut : (word rest front more : List ℕ) → list_all goes_on word ≡ true → front ++ 10 ∷ more ≡ word ++ rest
    → (tail : List ℕ) × (front ≡ word ++ tail)
cut [] rest front more h e = (front, refl)
cut (b ∷ word) rest [] more h e =
    let same : 10 ≡ b = cc in
    let no : goes_on 10 ≡ true = subst (λ v. goes_on v ≡ true) (sym same)
    (and_parts (goes_on b) (list_all goes_on word) h).0 in
    absurd cc
cut (b ∷ word) rest (c ∷ front) more h e =
    let same : c ≡ b = cc in
    let others : front ++ 10 ∷ more ≡ word ++ rest = cc in
    let (tail, parts) = cut word rest front more (and_parts (goes_on b) (list_all goes_on word) h).1 others in
    (tail, λ i. same i ∷ parts i)

-- ---- the longest

at_end : (word inner rest more : List ℕ) (w r : List ℕ) (n : ℕ) (kind : TokenKind) → Spells kind w
    → list_all goes_on w ≡ true
    → IsLongest n (word ++ (inner ++ rest)) → word ++ (inner ++ 10 ∷ more) ≡ w ++ r → length w ≤ n
at_end word inner rest more w r n kind s h longest e =
    let regroup : (word ++ inner) ++ 10 ∷ more ≡ w ++ r = append_assoc word inner (10 ∷ more) ∙ e in
    let (tail, parts) = cut w r (word ++ inner) more h regroup in
    let here : word ++ (inner ++ rest) ≡ w ++ (tail ++ rest) =
    sym (append_assoc word inner rest) ∙ ap (λ v. v ++ rest) parts ∙ append_assoc w tail rest in
    longest kind w (tail ++ rest) s here

same_kind_here : (k l : TokenKind) (word w xs r : List ℕ) → Spells k word → Spells l w → word ++ xs ≡ w ++ r → k ≡ l
same_kind_here k l word w xs r s t e =
    one_kind k l (word ++ xs) (w ++ r) (begins_further k word xs s) (begins_further l w r t) e

pub longest_before_end : (kind : TokenKind) (word inner rest more : List ℕ) → Spells kind word
    → IsLongest (length word) (word ++ (inner ++ rest))
    → IsLongest (length word) (word ++ (inner ++ 10 ∷ more))
longest_before_end Text word inner rest more s longest = word_longest Text word (inner ++ 10 ∷ more) s tt
longest_before_end Mark word inner rest more s longest = word_longest Mark word (inner ++ 10 ∷ more) s tt
longest_before_end Name word inner rest more s longest = λ k w r t e.
    let same : Name ≡ k = same_kind_here Name k word w (inner ++ 10 ∷ more) r s t e in
    let u : Spells Name w = subst (λ k. Spells k w) (sym same) t in
    at_end word inner rest more w r (length word) Name u (name_goes w u) longest e
longest_before_end Number word inner rest more s longest = λ k w r t e.
    let same : Number ≡ k = same_kind_here Number k word w (inner ++ 10 ∷ more) r s t e in
    let u : Spells Number w = subst (λ k. Spells k w) (sym same) t in
    at_end word inner rest more w r (length word) Number u (number_goes w u) longest e
