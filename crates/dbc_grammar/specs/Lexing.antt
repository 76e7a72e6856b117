-- The tokens of a DBC text, computed from its first byte on: the first byte of a token determines its kind, and the
-- token is as long as its kind allows. `TokenLaw.antt` relates this to the tokens that a text has.
use Rattle.std.specs.Prelude.{◌==◌, ℕ, zero, suc, ◌+◌, ◌-◌, Bool, true, false, List, [], ◌∷◌, length, take, drop}
use Rattle.std.specs.Prelude.{Option, Some, None, Result, Ok, Err, if◌then◌else◌}
use Rattle.std.specs.Char.{is_ascii_digit}
use Rattle.std.specs.List.{prefix_len}
use Rattle.std.specs.Option.{option_map}
use Rattle.decimal.specs.Cutting.{fraction_len}
use Rattle.decimal.specs.Spelling.{is_letter_e, is_sign}
use Rattle.dbc_words.specs.Name.{starts_identifier, continues_identifier}
use Rattle.dbc_words.specs.Text.{backslash}
use Rattle.dbc_grammar.specs.declared.token.TokenKind.{TokenKind}
use Rattle.dbc_grammar.specs.declared.token.TokenKind.TheVariants.{Name, Number, Text, Mark}
use Rattle.dbc_grammar.specs.Spelling.{is_gap, is_quote, is_mark}
use Rattle.dbc_grammar.specs.Token.{Token}

-- why reading ends before the end of the bytes, and the offset
pub data LexFault : Type 0 where
  -- no quote closes the text whose opening quote is there
  UnclosedText : ℕ → LexFault
  -- no token begins with the byte there
  StrayByte : ℕ → LexFault

-- what is read: the tokens, and why there are no more; None if the bytes end
pub record Lexed : Type 0 where
  pub tokens : List Token
  pub fault : Option LexFault

-- the length with one more byte before it, or 0 if nothing follows that byte
abbrev pub with_front : ℕ → ℕ
with_front zero = 0
with_front (suc n) = suc (suc n)

-- how many bytes the digits after `E` or `e` take with their sign, 0 if there are no digits
unfoldable pub power_len : List ℕ → ℕ
power_len [] = 0
power_len (b ∷ bytes) = if is_sign b then with_front (prefix_len is_ascii_digit bytes) else prefix_len is_ascii_digit
    (b ∷ bytes)

-- how many bytes an exponent takes, 0 if there is none
unfoldable pub exponent_len : List ℕ → ℕ
exponent_len [] = 0
exponent_len (b ∷ bytes) = if is_letter_e b then with_front (power_len bytes) else 0

-- how many bytes a point with its digits and an exponent take
unfoldable pub tail_len : List ℕ → ℕ
tail_len bytes = fraction_len bytes + exponent_len (drop (fraction_len bytes) bytes)

-- how many bytes a number takes, if the first is a digit
unfoldable pub number_len : List ℕ → ℕ
number_len bytes = prefix_len is_ascii_digit bytes + tail_len (drop (prefix_len is_ascii_digit bytes) bytes)

-- How many bytes come before the quote that closes a text, None if none does; `escaped` means that a backslash comes
-- before the first byte.
unfoldable pub inside_len : Bool → List ℕ → Option ℕ
inside_len escaped [] = None
inside_len true (b ∷ bytes) = option_map suc (inside_len false bytes)
inside_len false (b ∷ bytes) = if is_quote b then Some 0 else option_map suc (inside_len (b == backslash) bytes)

-- the kind of the tokens that begin with the byte
abbrev pub kind_of : ℕ → Option TokenKind
kind_of b =
    if starts_identifier b then Some Name
    else (if is_ascii_digit b then Some Number
    else (if is_quote b then Some Text
    else (if is_mark b then Some Mark
    else None)))

-- how many bytes the longest token of the kind takes, if the first byte begins one of that kind
unfoldable pub word_len : TokenKind → List ℕ → Option ℕ
word_len Name bytes = Some (prefix_len continues_identifier bytes)
word_len Number bytes = Some (number_len bytes)
word_len Text bytes = option_map (λ n. n + 2) (inside_len false (drop 1 bytes))
word_len Mark bytes = Some 1

-- the token of this many bytes, at the offset
abbrev pub token_of : ℕ → List ℕ → TokenKind → ℕ → Token
token_of offset bytes kind n = record { kind = kind; start = offset; end = offset + n; text = take n bytes }

abbrev pub token_or_fault : ℕ → List ℕ → TokenKind → Option ℕ → Result (Option Token) LexFault
token_or_fault offset bytes kind None = Err (UnclosedText offset)
token_or_fault offset bytes kind (Some n) = Ok (Some (token_of offset bytes kind n))

abbrev pub of_kind : ℕ → List ℕ → Option TokenKind → Result (Option Token) LexFault
of_kind offset bytes None = Err (StrayByte offset)
of_kind offset bytes (Some kind) = token_or_fault offset bytes kind (word_len kind bytes)

-- the token that begins after a gap; None at the end of the bytes
unfoldable pub token_at : ℕ → List ℕ → Result (Option Token) LexFault
token_at offset [] = Ok None
token_at offset (b ∷ bytes) = of_kind offset (b ∷ bytes) (kind_of b)

-- the first token of the bytes
unfoldable pub first_token : ℕ → List ℕ → Result (Option Token) LexFault
first_token offset bytes = token_at (offset + prefix_len is_gap bytes) (drop (prefix_len is_gap bytes) bytes)

-- what is read of the bytes, from their first token and from what is read after it
abbrev pub with_first : Result (Option Token) LexFault → (Token → Lexed) → Lexed
with_first (Err fault) after = record { tokens = []; fault = Some fault }
with_first (Ok None) after = record { tokens = []; fault = None }
with_first (Ok (Some token)) after = record { tokens = token ∷ (after token).tokens; fault = (after token).fault }

-- what is read in at most this many steps
unfoldable pub lexed_in : ℕ → ℕ → List ℕ → Lexed
lexed_in zero offset bytes = record { tokens = []; fault = None }
lexed_in (suc steps) offset bytes =
    with_first (first_token offset bytes) (λ token. lexed_in steps token.end (drop (token.end - offset) bytes))

-- What is read of bytes at the offset. Each token takes a byte, so one step more than there are bytes is
-- always enough.
unfoldable pub lexed : ℕ → List ℕ → Lexed
lexed offset bytes = lexed_in (length bytes + 1) offset bytes
