-- The byte with which a token begins determines its kind, and is no gap.
use Rattle.dbc_grammar.proofs.Common.{◌≡◌, ℕ, Bool, true, false, List, [], ◌∷◌, ◌++◌, Some, None, refl, sym, ap, ◌∙◌}
use Rattle.dbc_grammar.proofs.Common.{arith, is_ascii_digit, and_parts, nat_tests, are_digits, is_numeral}
use Rattle.dbc_grammar.proofs.Common.{starts_identifier}
use Rattle.dbc_grammar.specs.declared.token.TokenKind.{TokenKind}
use Rattle.dbc_grammar.specs.declared.token.TokenKind.TheVariants.{Name, Number, Text, Mark}
use Rattle.dbc_grammar.specs.Lexing.{kind_of}
use Rattle.dbc_grammar.specs.Spelling.{Spells, is_gap, is_mark, is_quote}

digit_letter : (b : ℕ) → is_ascii_digit b ≡ true → starts_identifier b ≡ false
digit_letter b h = grind (arith, nat_tests)

mark_letter : (b : ℕ) → is_mark b ≡ true → starts_identifier b ≡ false
mark_letter b h = grind (arith, nat_tests)

mark_digit : (b : ℕ) → is_mark b ≡ true → is_ascii_digit b ≡ false
mark_digit b h = grind (arith, nat_tests)

mark_quote : (b : ℕ) → is_mark b ≡ true → is_quote b ≡ false
mark_quote b h = grind (arith, nat_tests)

gap_letter : (b : ℕ) → is_gap b ≡ true → starts_identifier b ≡ false
gap_letter b h = grind (arith, nat_tests)

gap_digit : (b : ℕ) → is_gap b ≡ true → is_ascii_digit b ≡ false
gap_digit b h = grind (arith, nat_tests)

gap_quote : (b : ℕ) → is_gap b ≡ true → is_quote b ≡ false
gap_quote b h = grind (arith, nat_tests)

gap_mark : (b : ℕ) → is_gap b ≡ true → is_mark b ≡ false
gap_mark b h = grind (arith, nat_tests)

pub kind_of_digit : (b : ℕ) → is_ascii_digit b ≡ true → kind_of b ≡ Some Number
kind_of_digit b h = rw (digit_letter b h, h) refl

pub kind_of_mark : (b : ℕ) → is_mark b ≡ true → kind_of b ≡ Some Mark
kind_of_mark b h = rw (mark_letter b h, mark_digit b h, mark_quote b h, h) refl

kind_of_gap : (b : ℕ) → is_gap b ≡ true → kind_of b ≡ None
kind_of_gap b h = rw (gap_letter b h, gap_digit b h, gap_quote b h, gap_mark b h) refl

pub kind_is_no_gap : (b : ℕ) (kind : TokenKind) → kind_of b ≡ Some kind → is_gap b ≡ false
kind_is_no_gap b kind h = by_cases (is_gap b) refl
  where
    by_cases : (t : Bool) → is_gap b ≡ t → is_gap b ≡ false
    by_cases false e = e
    by_cases true e = let none : Some kind ≡ None = sym h ∙ kind_of_gap b e in absurd cc

-- the bytes begin with one that determines the kind
pub record Begins (kind : TokenKind) (bytes : List ℕ) : Type 0 where
  pub first : ℕ
  pub after : List ℕ
  pub parts : bytes ≡ first ∷ after
  pub kind_begins : kind_of first ≡ Some kind

name_begins : (word : List ℕ) → Spells Name word → Begins Name word
name_begins [] h = absurd cc
name_begins (b ∷ bytes) h =
    record { first = b; after = bytes; parts = refl; kind_begins = rw (and_parts (starts_identifier b) _ h).0 refl }

number_begins : (word whole tail : List ℕ) → word ≡ whole ++ tail → is_numeral whole ≡ true → Begins Number word
number_begins word [] tail e h = absurd cc
number_begins word (b ∷ whole) tail e h =
    let digits : are_digits (b ∷ whole) ≡ true = (and_parts _ (are_digits (b ∷ whole)) h).1 in
    let digit : is_ascii_digit b ≡ true = (and_parts (is_ascii_digit b) (are_digits whole) digits).0 in
    record { first = b; after = whole ++ tail; parts = e; kind_begins = kind_of_digit b digit }

pub spelling_begins : (kind : TokenKind) (word : List ℕ) → Spells kind word → Begins kind word
spelling_begins Name word h = name_begins word h
spelling_begins Number word (s, token) = number_begins word s.whole (s.fraction ++ s.exponent) token.parts token.whole
spelling_begins Text word (inside, text, e) =
    record { first = 34; after = inside ++ 34 ∷ []; parts = e; kind_begins = refl }
spelling_begins Mark word (mark, h, e) =
    record { first = mark; after = []; parts = e; kind_begins = kind_of_mark mark h }

pub begins_further : (kind : TokenKind) (word rest : List ℕ) → Spells kind word → Begins kind (word ++ rest)
begins_further kind word rest h =
    let b = spelling_begins kind word h in
    record {
      first = b.first;
      after = b.after ++ rest;
      parts = ap (λ v. v ++ rest) b.parts;
      kind_begins =
          b.kind_begins;
    }

-- the same bytes begin with one kind alone
pub one_kind : (k l : TokenKind) (xs ys : List ℕ) → Begins k xs → Begins l ys → xs ≡ ys → k ≡ l
one_kind k l xs ys x y e =
    let whole : x.first ∷ x.after ≡ y.first ∷ y.after = sym x.parts ∙ e ∙ y.parts in
    let same : x.first ≡ y.first = cc in
    let kinds : Some k ≡ Some l = sym x.kind_begins ∙ ap kind_of same ∙ y.kind_begins in
    cc
