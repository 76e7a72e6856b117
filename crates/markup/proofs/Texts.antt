-- A reader over numbers and over escaped texts.
use Rattle.std.proofs.Common.{◌≡◌, ◌+◌, ◌/◌, ◌%◌, ◌<◌, ◌≤◌, ◌==◌, ◌++◌, ◌||◌, ℕ, zero, suc, Bool, true, false, List}
use Rattle.std.proofs.Common.{[], ◌∷◌, if◌then◌else◌, refl, sym, ap, ◌∙◌, arith}
use Rattle.std.specs.Prelude.{codes, decimal, nat_lt}
use Rattle.std.specs.Fmt.{digit_glyph, digits_onto, digits as number_digits}
use Rattle.std.specs.List.{flat_map}
use Rattle.std.proofs.lemmas.Bool.{false≢true, ne_eqb}
use Rattle.std.proofs.lemmas.Bool.Decides.{nat_tests}
use Rattle.html.specs.Reading.{is_digit}
use Rattle.html.specs.Text.{characters, escaped, is_plain, reference, written}
use Rattle.html.proofs.Plain.{plain_from}
use Rattle.markup.specs.Html.{piece_html, words}
use Rattle.markup.specs.Reader.{Part, Place, Reader, after, ampersand, at, content, digits, due, ends, hash, in_text}
use Rattle.markup.specs.Reader.{less, letters, may_be, number, only, part_after, read, step, tagged, titled, value}
use Rattle.markup.specs.declared.attribute.Piece.{Piece}
use Rattle.markup.specs.declared.attribute.Piece.TheVariants as piece

-- ---- one after the other

read-append : (r : Reader) (xs ys : List ℕ) → read r (xs ++ ys) ≡ read (read r xs) ys
read-append r [] ys = refl
read-append r (x ∷ xs) ys = read-append (after r x) xs ys

pub both : (r s t : Reader) (xs ys : List ℕ) → read r xs ≡ s → read s ys ≡ t → read r (xs ++ ys) ≡ t
both r s t xs ys first second = read-append r xs ys ∙ ap (λ q. read q ys) first ∙ second

-- ---- digits

apart : (f : ℕ → Bool) (n b : ℕ) → f n ≡ false → f b ≡ true → (b == n) ≡ false
apart f n b off on = ne_eqb b n (λ e. false≢true (sym off ∙ sym (ap f e) ∙ on))

one_glyph : (n : ℕ) → (48 ≤ digit_glyph false (n % 10)) × (digit_glyph false (n % 10) ≤ 57)
one_glyph n =
    let low : n % 10 < 10 = omega arith in
    let small : nat_lt (n % 10) 10 ≡ true = grind (arith, nat_tests) in
    let is : digit_glyph false (n % 10) ≡ 48 + n % 10 = ap (λ t. if t then 48 + n % 10 else 87 + n % 10) small in
    (omega (arith, is), omega (arith, is))

digit_is : (b : ℕ) → (48 ≤ b) × (b ≤ 57) → is_digit b ≡ true
digit_is b h =
    let low : 48 ≤ b = h.0 in
    let high : b ≤ 57 = h.1 in
    grind (arith, nat_tests)

digit_plain : (b : ℕ) → (48 ≤ b) × (b ≤ 57) → is_plain b ≡ true
digit_plain b h =
    let low : 48 ≤ b = h.0 in
    let high : b ≤ 57 = h.1 in
    let less_off : b == 60 ≡ false = grind (arith, nat_tests) in
    let more_off : b == 62 ≡ false = grind (arith, nat_tests) in
    plain_from b (omega arith) (omega arith) less_off more_off

-- each digit brings one reader to where the other one is
abbrev Passes : Reader → Reader → Type 0
Passes r s = (b : ℕ) → (48 ≤ b) × (b ≤ 57) → after r b ≡ s

choose : (r w : Reader) (t : Bool) (x y : List ℕ) → read r x ≡ w → read r y ≡ w → read r (if t then x else y) ≡ w
choose r w true x y one other = one
choose r w false x y one other = other

all_digits : (r : Reader) → Passes r r → (k n : ℕ) (acc : List ℕ)
    → read r (digits_onto k 10 false n acc) ≡ read r acc
all_digits r one zero n acc = refl
all_digits r one (suc k) n acc =
    let glyph = digit_glyph false (n % 10) in
    let here : read r (digit_glyph false (n % 10) ∷ acc) ≡ read r acc =
    ap (λ q. read q acc) (one (digit_glyph false (n % 10)) (one_glyph n)) in
    choose r (read r acc) (n / 10 == 0) (glyph ∷ acc) (digits_onto k 10 false (n / 10) (glyph ∷ acc)) here
    (all_digits r one k (n / 10) (glyph ∷ acc) ∙ here)

first_digits : (r s : Reader) → Passes r s → Passes s s → (k n : ℕ) (acc : List ℕ)
    → read r (digits_onto (suc k) 10 false n acc) ≡ read s acc
first_digits r s first one zero n acc =
    let glyph = digit_glyph false (n % 10) in
    let here : read r (digit_glyph false (n % 10) ∷ acc) ≡ read s acc =
    ap (λ q. read q acc) (first (digit_glyph false (n % 10)) (one_glyph n)) in
    choose r (read s acc) (n / 10 == 0) (glyph ∷ acc) (glyph ∷ acc) here here
first_digits r s first one (suc k) n acc =
    let glyph = digit_glyph false (n % 10) in
    let here : read r (digit_glyph false (n % 10) ∷ acc) ≡ read s acc =
    ap (λ q. read q acc) (first (digit_glyph false (n % 10)) (one_glyph n)) in
    let next : read s (digit_glyph false (n % 10) ∷ acc) ≡ read s acc =
    ap (λ q. read q acc) (one (digit_glyph false (n % 10)) (one_glyph n)) in
    choose r (read s acc) (n / 10 == 0) (glyph ∷ acc) (digits_onto (suc k) 10 false (n / 10) (glyph ∷ acc)) here
    (first_digits r s first one k (n / 10) (glyph ∷ acc) ∙ next)

decimal_onto : (n : ℕ) → decimal n ≡ digits_onto 64 10 false n []
unfolding number_digits
decimal_onto n = refl

decimal_from : (r s : Reader) (n : ℕ) → Passes r s → Passes s s → read r (decimal n) ≡ s
decimal_from r s n first one = ap (read r) (decimal_onto n) ∙ first_digits r s first one 63 n []

-- ---- a text, in an element, in a title or in a value

-- the places of a text that ends with this byte
pub record IsText (end : ℕ) (place : Part → Place) : Type 0 where
  pub next : List (List ℕ) → Reader
  pub steps : (part : Part) (opened : List (List ℕ)) (b : ℕ)
      → step (place part) opened b ≡ in_text end (next opened) place part opened b
  pub plain : is_plain end ≡ false
  pub mark : (38 == end) ≡ false

pub content_text : IsText 60 content
content_text = record { next = λ opened. at less opened; steps = λ part opened b. refl; plain = refl; mark = refl }

pub titled_text : IsText 60 titled
titled_text = record {
  next = λ opened. at (due (codes "/") (ends [])) opened;
  steps = λ part opened b. refl;
  plain = refl;
  mark = refl;
}

pub value_text : IsText 34 value
value_text = record { next = λ opened. at tagged opened; steps = λ part opened b. refl; plain = refl; mark = refl }

plain_may : (c : ℕ) → is_plain c ≡ true → may_be letters c ≡ true
plain_may c h = ap (λ t. t || is_plain c) (apart is_plain 38 c refl h) ∙ h

plain_step : {end : ℕ} (place : Part → Place) (text : IsText end place) (opened : List (List ℕ)) (c : ℕ)
    → is_plain c ≡ true → step (place letters) opened c ≡ at (place letters) opened
plain_step {end = end} place text opened c h =
    text.steps letters opened c
    ∙ ap (λ t. if t then text.next opened else only (may_be letters c) (at (place (part_after letters c)) opened))
    (apart is_plain end c text.plain h)
    ∙ ap (λ t. only t (at (place (part_after letters c)) opened)) (plain_may c h)
    ∙ ap (λ t. at (place (if t then ampersand else letters)) opened) (apart is_plain 38 c refl h)

-- a decimal reference, after `&`
digit_off : (b : ℕ) → (48 ≤ b) × (b ≤ 57) → (b == 59) ≡ false
digit_off b h = apart is_digit 59 b refl (digit_is b h)

hash_step : {end : ℕ} (place : Part → Place) (text : IsText end place) (opened : List (List ℕ))
    → Passes (at (place hash) opened) (at (place digits) opened)
hash_step place text opened b h =
    text.steps hash opened b ∙ ap (λ t. only t (at (place digits) opened)) (digit_is b h)

digits_step : {end : ℕ} (place : Part → Place) (text : IsText end place) (opened : List (List ℕ))
    → Passes (at (place digits) opened) (at (place digits) opened)
digits_step place text opened b h =
    text.steps digits opened b
    ∙ ap (λ t. only (t || is_digit b) (at (place (if t then letters else digits)) opened)) (digit_off b h)
    ∙ ap (λ t. only t (at (place digits) opened)) (digit_is b h)

reference_read : {end : ℕ} (place : Part → Place) (text : IsText end place) (opened : List (List ℕ)) (c : ℕ)
    → read (at (place letters) opened) (reference c) ≡ at (place letters) opened
reference_read {end = end} place text opened c =
    let begun : step (place letters) opened 38 ≡ at (place ampersand) opened =
    text.steps letters opened 38 ∙ ap (λ t. if t then text.next opened else at (place ampersand) opened) text.mark in
    let before : read (at (place letters) opened) (codes "&#") ≡ at (place hash) opened =
    ap (λ q. after q 35) begun ∙ text.steps ampersand opened 35 in
    both (at (place letters) opened) (at (place hash) opened) (at (place letters) opened) (codes "&#")
    (decimal c ++ codes ";") before
    (both (at (place hash) opened) (at (place digits) opened) (at (place letters) opened) (decimal c) (codes ";")
    (decimal_from (at (place hash) opened) (at (place digits) opened) c (hash_step place text opened)
    (digits_step place text opened)) (text.steps digits opened 59))

-- a character as it is, or as a reference
one_read : {end : ℕ} (place : Part → Place) (text : IsText end place) (opened : List (List ℕ)) (c : ℕ) (t : Bool)
    → is_plain c ≡ t → read (at (place letters) opened) (if t then c ∷ [] else reference c) ≡ at (place letters) opened
one_read place text opened c true h = plain_step place text opened c h
one_read place text opened c false h = reference_read place text opened c

all_read : {end : ℕ} (place : Part → Place) (text : IsText end place) (opened : List (List ℕ)) (cs : List ℕ)
    → read (at (place letters) opened) (flat_map written cs) ≡ at (place letters) opened
all_read place text opened [] = refl
all_read place text opened (c ∷ cs) =
    let here = at (place letters) opened in
    both here here here (written c) (flat_map written cs) (one_read place text opened c (is_plain c) refl)
    (all_read place text opened cs)

pub escaped_read : {end : ℕ} (place : Part → Place) (text : IsText end place) (opened : List (List ℕ))
    (bytes : List ℕ) → read (at (place letters) opened) (escaped bytes) ≡ at (place letters) opened
escaped_read place text opened bytes = all_read place text opened (characters bytes)

pub decimal_read : {end : ℕ} (place : Part → Place) (text : IsText end place) (opened : List (List ℕ)) (n : ℕ)
    → read (at (place letters) opened) (decimal n) ≡ at (place letters) opened
decimal_read place text opened n =
    let one : Passes (at (place letters) opened) (at (place letters) opened) =
    λ b h. plain_step place text opened b (digit_plain b h) in
    decimal_from (at (place letters) opened) (at (place letters) opened) n one one

piece_read : {end : ℕ} (place : Part → Place) (text : IsText end place) (opened : List (List ℕ)) (p : Piece)
    → read (at (place letters) opened) (piece_html p) ≡ at (place letters) opened
piece_read place text opened (piece.Text bytes) = escaped_read place text opened bytes.now
piece_read place text opened (piece.Number n) = decimal_read place text opened n

pub words_read : {end : ℕ} (place : Part → Place) (text : IsText end place) (opened : List (List ℕ))
    (pieces : List Piece) → read (at (place letters) opened) (words pieces) ≡ at (place letters) opened
words_read place text opened [] = refl
words_read place text opened (p ∷ pieces) =
    let here = at (place letters) opened in
    both here here here (piece_html p) (words pieces) (piece_read place text opened p)
    (words_read place text opened pieces)

-- ---- a value that is a number

pub number_read : (n : ℕ) (opened : List (List ℕ)) → read (at number opened) (decimal n) ≡ at number opened
number_read n opened =
    let one : Passes (at number opened) (at number opened) =
    λ b h. ap (λ t. if t then at tagged opened else only (is_digit b) (at number opened))
    (apart is_digit 34 b refl (digit_is b h)) ∙ ap (λ t. only t (at number opened)) (digit_is b h) in
    decimal_from (at number opened) (at number opened) n one one
