-- Examples of what is read of a text, and of texts that have no tokens. `"` is byte 34, and `\` is byte 92.
use Rattle.dbc_grammar.proofs.Common.{◌≡◌, ℕ, ◌+◌, List, [], ◌∷◌, length, map, Some, None, refl, sym, ap, ◌∙◌, codes}
use Rattle.std.specs.Prelude.{drop, min}
use Rattle.dbc_grammar.specs.declared.token.TokenKind.{TokenKind}
use Rattle.dbc_grammar.specs.declared.token.TokenKind.TheVariants.{Name, Number, Text, Mark}
use Rattle.dbc_grammar.specs.Lexing.{LexFault, StrayByte, UnclosedText, Lexed, exponent_len, first_token, inside_len}
use Rattle.dbc_grammar.specs.Lexing.{lexed, lexed_in, number_len, power_len, tail_len, token_at, word_len}
use Rattle.dbc_grammar.specs.Token.{Token}
use Rattle.dbc_grammar.specs.TokenLaw.{tokens_then_fault, tokens_without_fault}
use Rattle.dbc_grammar.specs.Tokens.{HasTokens}
use Rattle.dbc_grammar.proofs.TokenExact.{exact}

abbrev token : TokenKind → ℕ → List ℕ → Token
token kind start text = record { kind = kind; start = start; end = start + length text; text = text }

-- ---- numbers

point_without_digits : lexed 0 (codes "1.") ≡ tokens_without_fault (token Number 0 (codes "1.") ∷ [])
unfolding lexed lexed_in first_token token_at word_len number_len tail_len exponent_len
point_without_digits = refl

point_and_exponent : lexed 0 (codes "1.E5") ≡ tokens_without_fault (token Number 0 (codes "1.E5") ∷ [])
unfolding lexed lexed_in first_token token_at word_len number_len tail_len exponent_len power_len
point_and_exponent = refl

signed_exponent : lexed 0 (codes " 0.5e-07;")
    ≡ tokens_without_fault (token Number 1 (codes "0.5e-07") ∷ token Mark 8 (codes ";") ∷ [])
unfolding lexed lexed_in first_token token_at word_len number_len tail_len exponent_len power_len
signed_exponent = refl

signed_power : lexed 0 (codes "1.7E+308") ≡ tokens_without_fault (token Number 0 (codes "1.7E+308") ∷ [])
unfolding lexed lexed_in first_token token_at word_len number_len tail_len exponent_len power_len
signed_power = refl

power_without_point : lexed 0 (codes "2e-07;")
    ≡ tokens_without_fault (token Number 0 (codes "2e-07") ∷ token Mark 5 (codes ";") ∷ [])
unfolding lexed lexed_in first_token token_at word_len number_len tail_len exponent_len power_len
power_without_point = refl

letter_without_power : lexed 0 (codes "1E")
    ≡ tokens_without_fault (token Number 0 (codes "1") ∷ token Name 1 (codes "E") ∷ [])
unfolding lexed lexed_in first_token token_at word_len number_len tail_len exponent_len power_len
letter_without_power = refl

sign_without_power : lexed 0 (codes "1E+")
    ≡ tokens_without_fault (token Number 0 (codes "1") ∷ token Name 1 (codes "E") ∷ token Mark 2 (codes "+") ∷ [])
unfolding lexed lexed_in first_token token_at word_len number_len tail_len exponent_len power_len
sign_without_power = refl

number_then_name : lexed 0 (codes "12abc")
    ≡ tokens_without_fault (token Number 0 (codes "12") ∷ token Name 2 (codes "abc") ∷ [])
unfolding lexed lexed_in first_token token_at word_len number_len tail_len exponent_len
number_then_name = refl

-- the DBC format has no hexadecimal numbers
no_hexadecimal : lexed 0 (codes "0x10")
    ≡ tokens_without_fault (token Number 0 (codes "0") ∷ token Name 1 (codes "x10") ∷ [])
unfolding lexed lexed_in first_token token_at word_len number_len tail_len exponent_len
no_hexadecimal = refl

sign_is_a_mark : lexed 0 (codes "-40")
    ≡ tokens_without_fault (token Mark 0 (codes "-") ∷ token Number 1 (codes "40") ∷ [])
unfolding lexed lexed_in first_token token_at word_len number_len tail_len exponent_len
sign_is_a_mark = refl

second_point : lexed 0 (codes "1.5.2") ≡ tokens_then_fault (token Number 0 (codes "1.5") ∷ []) (StrayByte 3)
unfolding lexed lexed_in first_token token_at word_len number_len tail_len exponent_len
second_point = refl

-- a number begins with a digit
point_first : lexed 0 (codes ".5") ≡ tokens_then_fault [] (StrayByte 0)
unfolding lexed lexed_in first_token token_at
point_first = refl

-- ---- texts

-- `"a\"b"`: a quote that a backslash takes doesn't end the text
taken_quote : lexed 0 (34 ∷ 97 ∷ 92 ∷ 34 ∷ 98 ∷ 34 ∷ [])
    ≡ tokens_without_fault (token Text 0 (34 ∷ 97 ∷ 92 ∷ 34 ∷ 98 ∷ 34 ∷ []) ∷ [])
unfolding lexed lexed_in first_token token_at word_len inside_len
taken_quote = refl

-- `"\\"a`: a backslash that a backslash takes takes no quote
taken_backslash : lexed 0 (34 ∷ 92 ∷ 92 ∷ 34 ∷ 97 ∷ [])
    ≡ tokens_without_fault (token Text 0 (34 ∷ 92 ∷ 92 ∷ 34 ∷ []) ∷ token Name 4 (codes "a") ∷ [])
unfolding lexed lexed_in first_token token_at word_len inside_len
taken_backslash = refl

-- `"a\\"b`
backslash_before_the_last_quote : lexed 0 (34 ∷ 97 ∷ 92 ∷ 92 ∷ 34 ∷ 98 ∷ [])
    ≡ tokens_without_fault (token Text 0 (34 ∷ 97 ∷ 92 ∷ 92 ∷ 34 ∷ []) ∷ token Name 5 (codes "b") ∷ [])
unfolding lexed lexed_in first_token token_at word_len inside_len
backslash_before_the_last_quote = refl

-- `"a""b"`: two texts, since a quote doesn't escape a quote
two_texts : lexed 0 (codes "\"a\"\"b\"")
    ≡ tokens_without_fault (token Text 0 (codes "\"a\"") ∷ token Text 3 (codes "\"b\"") ∷ [])
unfolding lexed lexed_in first_token token_at word_len inside_len
two_texts = refl

-- `"a\"`: the backslash takes the last quote
last_quote_taken : lexed 0 (34 ∷ 97 ∷ 92 ∷ 34 ∷ []) ≡ tokens_then_fault [] (UnclosedText 0)
unfolding lexed lexed_in first_token token_at word_len inside_len
last_quote_taken = refl

-- the same after a space
unclosed_after_a_gap : lexed 0 (32 ∷ 34 ∷ 97 ∷ 92 ∷ 34 ∷ []) ≡ tokens_then_fault [] (UnclosedText 1)
unfolding lexed lexed_in first_token token_at word_len inside_len
unclosed_after_a_gap = refl

-- `"a\`
backslash_at_the_end : lexed 0 (34 ∷ 97 ∷ 92 ∷ []) ≡ tokens_then_fault [] (UnclosedText 0)
unfolding lexed lexed_in first_token token_at word_len inside_len
backslash_at_the_end = refl

-- a degree sign of ISO 8859-1 and `C`, a line feed, and the byte 255
any_bytes : lexed 0 (34 ∷ 176 ∷ 67 ∷ 10 ∷ 255 ∷ 34 ∷ [])
    ≡ tokens_without_fault (token Text 0 (34 ∷ 176 ∷ 67 ∷ 10 ∷ 255 ∷ 34 ∷ []) ∷ [])
unfolding lexed lexed_in first_token token_at word_len inside_len
any_bytes = refl

-- a degree sign, `C` and the byte 255 in a text, and a name after it
text_then_name : lexed 0 (34 ∷ 176 ∷ 67 ∷ 255 ∷ 34 ∷ 32 ∷ 67 ∷ [])
    ≡ tokens_without_fault (token Text 0 (34 ∷ 176 ∷ 67 ∷ 255 ∷ 34 ∷ []) ∷ token Name 6 (codes "C") ∷ [])
unfolding lexed lexed_in first_token token_at word_len inside_len
text_then_name = refl

empty_text : lexed 0 (34 ∷ 34 ∷ []) ≡ tokens_without_fault (token Text 0 (34 ∷ 34 ∷ []) ∷ [])
unfolding lexed lexed_in first_token token_at word_len inside_len
empty_text = refl

-- `VERSION "a`
unclosed_version : lexed 0 (codes "VERSION \"a") ≡ tokens_then_fault (token Name 0 (codes "VERSION") ∷ [])
    (UnclosedText 8)
unfolding lexed lexed_in first_token token_at word_len inside_len
unclosed_version = refl

-- ---- gaps and other bytes

-- space, tab, line feed, vertical tab, form feed, carriage return and space
gaps_alone : lexed 0 (32 ∷ 9 ∷ 10 ∷ 11 ∷ 12 ∷ 13 ∷ 32 ∷ []) ≡ tokens_without_fault []
unfolding lexed lexed_in first_token token_at
gaps_alone = refl

nothing : lexed 0 [] ≡ tokens_without_fault []
unfolding lexed lexed_in first_token token_at
nothing = refl

-- a byte order mark is no gap
byte_order_mark : lexed 0 (239 ∷ 187 ∷ 191 ∷ 66 ∷ []) ≡ tokens_then_fault [] (StrayByte 0)
unfolding lexed lexed_in first_token token_at
byte_order_mark = refl

-- a degree sign of ISO 8859-1 outside a text
stray_degree_sign : lexed 0 (67 ∷ 176 ∷ []) ≡ tokens_then_fault (token Name 0 (codes "C") ∷ []) (StrayByte 1)
unfolding lexed lexed_in first_token token_at word_len
stray_degree_sign = refl

stray_zero : lexed 0 (0 ∷ []) ≡ tokens_then_fault [] (StrayByte 0)
unfolding lexed lexed_in first_token token_at
stray_zero = refl

stray_byte : lexed 0 (codes "BS_: #") ≡ tokens_then_fault (token Name 0 (codes "BS_") ∷ token Mark 3 (codes ":") ∷ [])
    (StrayByte 5)
unfolding lexed lexed_in first_token token_at word_len
stray_byte = refl

signal_start : lexed 0 (codes "SG_ T m0:16|8@1+(1,-40)")
    ≡ tokens_without_fault (
    token Name 0 (codes "SG_") ∷ token Name 4 (codes "T") ∷ token Name 6 (codes "m0") ∷ token Mark 8 (codes ":")
    ∷ token Number 9 (codes "16")
    ∷ token Mark 11 (codes "|") ∷ token Number 12 (codes "8") ∷ token Mark 13 (codes "@") ∷ token Number 14 (codes "1")
    ∷ token Mark 15 (codes "+")
    ∷ token Mark 16 (codes "(") ∷ token Number 17 (codes "1") ∷ token Mark 18 (codes ",") ∷ token Mark 19 (codes "-")
    ∷ token Number 20 (codes "40")
    ∷ token Mark 22 (codes ")") ∷ []
    )
unfolding lexed lexed_in first_token token_at word_len number_len tail_len exponent_len
signal_start = refl

-- ---- names and marks

gap_at_the_end : lexed 0 (codes "BS_: ")
    ≡ tokens_without_fault (token Name 0 (codes "BS_") ∷ token Mark 3 (codes ":") ∷ [])
unfolding lexed lexed_in first_token token_at word_len
gap_at_the_end = refl

two_names : lexed 0 (codes "_a1\nZ") ≡ tokens_without_fault (token Name 0 (codes "_a1") ∷ token Name 4 (codes "Z") ∷ [])
unfolding lexed lexed_in first_token token_at word_len
two_names = refl

every_mark : lexed 0 (codes ":;,|@()[]+-")
    ≡ tokens_without_fault (
    token Mark 0 (codes ":") ∷ token Mark 1 (codes ";") ∷ token Mark 2 (codes ",") ∷ token Mark 3 (codes "|")
    ∷ token Mark 4 (codes "@")
    ∷ token Mark 5 (codes "(") ∷ token Mark 6 (codes ")") ∷ token Mark 7 (codes "[") ∷ token Mark 8 (codes "]")
    ∷ token Mark 9 (codes "+")
    ∷ token Mark 10 (codes "-") ∷ []
    )
unfolding lexed lexed_in first_token token_at word_len
every_mark = refl

-- ---- from an offset, as the lexer reads

abbrev lexed_at : List ℕ → ℕ → Lexed
lexed_at source offset = lexed (min offset (length source)) (drop offset source)

from_offsets : map (lexed_at (codes "BS_: 12")) (0 ∷ 1 ∷ 3 ∷ 4 ∷ 7 ∷ 9 ∷ [])
    ≡ tokens_without_fault (token Name 0 (codes "BS_") ∷ token Mark 3 (codes ":") ∷ token Number 5 (codes "12") ∷ [])
    ∷ tokens_without_fault (token Name 1 (codes "S_") ∷ token Mark 3 (codes ":") ∷ token Number 5 (codes "12") ∷ [])
    ∷ tokens_without_fault (token Mark 3 (codes ":") ∷ token Number 5 (codes "12") ∷ [])
    ∷ tokens_without_fault (token Number 5 (codes "12") ∷ [])
    ∷ tokens_without_fault []
    ∷ tokens_without_fault []
    ∷ []
unfolding lexed lexed_in first_token token_at word_len number_len tail_len exponent_len
from_offsets = refl

-- ---- the same of the tokens that a text has

number_and_name : HasTokens 0 (codes "1E") (token Number 0 (codes "1") ∷ token Name 1 (codes "E") ∷ [])
number_and_name = (exact 0 _ _).1 letter_without_power

-- the number isn't cut short to 1, with another number after it
only_longest : (ts : List Token) → HasTokens 0 (codes "12abc") ts
    → ts ≡ token Number 0 (codes "12") ∷ token Name 2 (codes "abc") ∷ []
only_longest ts h = ap (λ (l : Lexed). l.tokens) (sym ((exact 0 _ ts).0 h) ∙ number_then_name)

no_tokens : (bytes : List ℕ) (tokens : List Token) (fault : LexFault) → lexed 0 bytes ≡ tokens_then_fault tokens fault
    → (ts : List Token) → HasTokens 0 bytes ts → ⊥
no_tokens bytes tokens fault e ts h = let no : Some fault ≡ None =
    ap (λ (l : Lexed). l.fault) (sym e ∙ (exact 0 bytes ts).0 h) in absurd cc

two_points_have_none : (ts : List Token) → HasTokens 0 (codes "1.5.2") ts → ⊥
two_points_have_none = no_tokens _ _ _ second_point

unclosed_has_none : (ts : List Token) → HasTokens 0 (codes "VERSION \"a") ts → ⊥
unclosed_has_none = no_tokens _ _ _ unclosed_version

stray_has_none : (ts : List Token) → HasTokens 0 (codes "BS_: #") ts → ⊥
stray_has_none = no_tokens _ _ _ stray_byte
