-- Tokens taken one by one, and what is found where a fault is.
use Rattle.std.specs.Prelude.{◌≡◌, ℕ, List, [], ◌∷◌, Option, Some, None, slice_get, slice_range}
use Rattle.std.specs.Option.{unwrap_or}
use Rattle.dbc_words.specs.declared.keyword.Keyword.{Keyword}
use Rattle.dbc_grammar.specs.Fields.{key_of}
use Rattle.dbc_grammar.specs.Lexing.{Lexed, LexFault, StrayByte, UnclosedText, lexed}
use Rattle.dbc_grammar.specs.Token.{Token}
use Rattle.dbc_grammar.specs.TokenLaw.{tokens_then_fault, tokens_without_fault}
use Rattle.dbc_advice.specs.Lines.{line_end, line_start}
use Rattle.dbc_advice.specs.declared.found.Found.{Found}
use Rattle.dbc_advice.specs.declared.found.Found.TheVariants as found
use Rattle.dbc_lex.specs.Token.{token_of}
use Rattle.dbc_lex.specs.declared.token.Token.{Token as TextToken}

-- the first of the tokens, and the others are left; or there is none
abbrev pub GivesToken : List Token → Option TextToken → List Token → Type 0
GivesToken old (Some t) new = old ≡ token_of t ∷ new
GivesToken old None new = old ≡ []

-- the first token is this one
abbrev pub BeginsWith : List Token → List ℕ → Type 0
BeginsWith tokens bytes = (t : Token) × (rest : List Token) × (tokens ≡ t ∷ rest) × (bytes ≡ t.text)

-- what is read first from an offset of a text on: its end, a text that no quote closes, a byte with which no token
-- begins, or a token
abbrev pub IsFound : List ℕ → Lexed → Found → Type 0
IsFound text read found.End = read ≡ tokens_without_fault []
IsFound text read found.Quote = (at : ℕ) × (read ≡ tokens_then_fault [] (UnclosedText at))
IsFound text read (found.Byte b) = (at : ℕ) × (read ≡ tokens_then_fault [] (StrayByte at))
    × (b ≡ unwrap_or (slice_get text at) 0)
IsFound text read (found.Token bytes) = BeginsWith read.tokens bytes.now

-- the keyword with which a line begins, if more comes after it
abbrev pub keyword_with_more : List Token → Option LexFault → Option Keyword
keyword_with_more [] fault = None
keyword_with_more (t ∷ []) None = None
keyword_with_more (t ∷ rest) fault = key_of t

abbrev pub line_keyword : List ℕ → Option Keyword
line_keyword line = keyword_with_more (lexed 0 line).tokens (lexed 0 line).fault

-- that of the line of the offset
abbrev pub keyword_at : List ℕ → ℕ → Option Keyword
keyword_at text at = line_keyword (slice_range text (line_start text at) (line_end text at))
