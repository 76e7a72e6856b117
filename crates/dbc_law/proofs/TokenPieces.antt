-- Each kind of piece is legible where the pieces after it are and can follow it.
use Rattle.dbc_law.proofs.Common.{◌≡◌, ◌<◌, ◌^◌, ℕ, Bool, true, false, List, [], ◌∷◌, refl, sym, arith, codes}
use Rattle.dbc_law.proofs.Common.{is_ascii_digit, decimal, is_negative, list_all, and_from, and_parts, nat_tests}
use Rattle.dbc_law.proofs.Common.{IsDecimal, Number, are_digits, text_reads, keyword_text, IsName, continues_identifier}
use Rattle.dbc_law.proofs.Common.{is_c_identifier, IsText, Keyword, Piece, line_text, mark, number, quoted, space}
use Rattle.dbc_law.proofs.Common.{tight, word, Spells, is_mark, IsGap}
use Rattle.std.proofs.lemmas.List.{append-nil}
use Rattle.decimal.proofs.ReadsBack.{IsSmall, decimal_digits, decimal_numeral}
use Rattle.dbc_words.specs.Name.{is_name}
use Rattle.dbc_words.specs.declared.keyword.Keyword.TheVariants.{Version}
use Rattle.dbc_grammar.specs.Canon.{value}
use Rattle.dbc_grammar.specs.declared.token.TokenKind.TheVariants.{Number as NumberKind}
use Rattle.dbc_law.proofs.DecimalPieces.{digits, signed_pieces}
use Rattle.dbc_law.proofs.TokenLegible.{AreLegible, CanFollow}
use Rattle.dbc_law.proofs.TokenLengths.{Breaks, continues_word}

-- ---- names and keywords

pub identifier : (name : List ℕ) → IsName name → is_c_identifier name ≡ true
unfolding is_name
identifier name h = grind arith

pub word_legible : (gap name : List ℕ) (ps : List Piece) → IsGap gap → is_c_identifier name ≡ true → CanFollow ps
    → AreLegible (word gap name ∷ ps)
word_legible gap name ps gap_is h more = (record { gap = gap_is; spelled = h; ends = more.breaks }, more.legible)

pub word_follows : (name : List ℕ) (ps : List Piece) → is_c_identifier name ≡ true → CanFollow ps
    → CanFollow (word space name ∷ ps)
word_follows name ps h more = record { legible = word_legible space name ps refl h more; breaks = refl }

pub name_follows : (name : List ℕ) (ps : List Piece) → IsName name → CanFollow ps → CanFollow (word space name ∷ ps)
name_follows name ps h more = word_follows name ps (identifier name h) more

keyword_identifier : (k : Keyword) → is_c_identifier (keyword_text k) ≡ true
keyword_identifier Version = refl
keyword_identifier k = refl

-- a keyword at the head of its line, and one after other pieces
pub keyword_line : (k : Keyword) (ps : List Piece) → CanFollow ps → AreLegible (word tight (keyword_text k) ∷ ps)
keyword_line k ps more = word_legible tight (keyword_text k) ps refl (keyword_identifier k) more

pub keyword_follows : (k : Keyword) (ps : List Piece) → CanFollow ps → CanFollow (word space (keyword_text k) ∷ ps)
keyword_follows k ps more = word_follows (keyword_text k) ps (keyword_identifier k) more

-- ---- whole numbers

is_small : (n : ℕ) → n < 2 ^ 32 → IsSmall n
is_small n h = omega (arith, h)

number_spelled : (n : ℕ) → n < 2 ^ 32 → Spells NumberKind (decimal n)
number_spelled n h = (
  record { whole = decimal n; fraction = []; exponent = [] },
  record {
    parts = sym (append-nil (decimal n));
    whole = decimal_numeral n (is_small n h);
    fraction = refl;
    exponent =
        refl;
  },
)

pub number_legible : (gap : List ℕ) (n : ℕ) (ps : List Piece) → IsGap gap → n < 2 ^ 32 → CanFollow ps
    → AreLegible (number gap n ∷ ps)
number_legible gap n ps gap_is h more =
    (record { gap = gap_is; spelled = number_spelled n h; ends = more.breaks }, more.legible)

pub number_follows : (n : ℕ) (ps : List Piece) → n < 2 ^ 32 → CanFollow ps → CanFollow (number space n ∷ ps)
number_follows n ps h more = record { legible = number_legible space n ps refl h more; breaks = refl }

-- the letter m and the digits of a number
pub multiplexed_identifier : (n : ℕ) → n < 2 ^ 32 → is_c_identifier (109 ∷ decimal n) ≡ true
multiplexed_identifier n h = digits_continue (decimal n) (decimal_digits n (is_small n h))
  where
    digit_continues : (b : ℕ) → is_ascii_digit b ≡ true → continues_identifier b ≡ true
    digit_continues b h = grind (arith, nat_tests)

    digits_continue : (ds : List ℕ) → are_digits ds ≡ true → list_all continues_identifier ds ≡ true
    digits_continue [] h = refl
    digits_continue (d ∷ ds) h = let parts = and_parts (is_ascii_digit d) (are_digits ds) h in
        and_from _ _ (digit_continues d parts.0) (digits_continue ds parts.1)

-- ---- decimals

-- the digits, as reading them back says
digits_spelled : (n : Number) → IsDecimal n → Spells NumberKind (digits n)
digits_spelled n h = let written = (text_reads n h).0 in (written.spelling, written.token)

signed_legible : (negative : Bool) (gap : List ℕ) (n : Number) → IsGap gap → IsDecimal n
    → AreLegible (signed_pieces negative gap n)
signed_legible true gap n gap_is h = (
  record { gap = gap_is; spelled = (45, refl, refl); ends = tt },
  (record { gap = refl; spelled = digits_spelled n h; ends = refl }, tt),
)
signed_legible false gap n gap_is h = (record { gap = gap_is; spelled = digits_spelled n h; ends = refl }, tt)

spaced_breaks : (negative : Bool) (n : Number) → Breaks (line_text (signed_pieces negative space n))
spaced_breaks true n = refl
spaced_breaks false n = refl

pub value_legible : (gap : List ℕ) (n : Number) → IsGap gap → IsDecimal n → AreLegible (value gap n)
value_legible gap n gap_is h = signed_legible (is_negative n.mantissa) gap n gap_is h

pub value_follows : (n : Number) → IsDecimal n → CanFollow (value space n)
value_follows n h = record { legible = value_legible space n refl h; breaks = spaced_breaks (is_negative n.mantissa) n }

-- ---- texts and marks, which end by themselves

pub text_follows : (text : List ℕ) (ps : List Piece) → IsText text → AreLegible ps → CanFollow (quoted space text ∷ ps)
text_follows text ps h more =
    record { legible = (record { gap = refl; spelled = (text, h, refl); ends = tt }, more); breaks = refl }

mark_breaks : (m : ℕ) → is_mark m ≡ true → continues_word m ≡ false
mark_breaks m h = grind (arith, nat_tests)

pub mark_follows : (m : ℕ) (ps : List Piece) → is_mark m ≡ true → AreLegible ps → CanFollow (mark tight (m ∷ []) ∷ ps)
mark_follows m ps h more =
    record { legible = (record { gap = refl; spelled = (m, h, refl); ends = tt }, more); breaks = mark_breaks m h }

pub spaced_mark_follows : (m : ℕ) (ps : List Piece) → is_mark m ≡ true → AreLegible ps
    → CanFollow (mark space (m ∷ []) ∷ ps)
spaced_mark_follows m ps h more =
    record { legible = (record { gap = refl; spelled = (m, h, refl); ends = tt }, more); breaks = refl }

-- the `;` that ends many lines
pub end_follows : CanFollow (mark tight (codes ";") ∷ [])
end_follows = mark_follows 59 [] refl tt
