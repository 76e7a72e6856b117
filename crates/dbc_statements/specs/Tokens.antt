-- The tokens that are left of a text: the first one, and those that are read after its end.
use Rattle.std.specs.Prelude.{◌≡◌, ◌⊎◌, ◌≤◌, ℕ, List, [], ◌∷◌, ◌++◌, Option, Some, None, drop, length, slice_range, ⊤}
use Rattle.std.specs.List.{AllByRecursion}
use Rattle.dbc_grammar.specs.Lexing.{LexFault, Lexed, lexed}
use Rattle.dbc_grammar.specs.Spelling.{Spells}
use Rattle.dbc_grammar.specs.Token.{Token}
use Rattle.dbc_grammar.specs.declared.token.TokenKind.{TokenKind}
use Rattle.dbc_lex.specs.Fault.{fault_of}
use Rattle.dbc_lex.specs.Token.{token_of}
use Rattle.dbc_lex.specs.declared.fault.ReadFault.{ReadFault}
use Rattle.dbc_lex.specs.declared.token.Token.{Token as TextToken}

-- the token of these bytes of the text
abbrev pub token_between : List ℕ → TokenKind → ℕ → ℕ → Token
token_between source kind start end =
    record { kind = kind; start = start; end = end; text = slice_range source start end }

-- the token between the offsets, and those that are read after it; none without a kind
abbrev pub tokens_from : List ℕ → Option TokenKind → ℕ → ℕ → List Token
tokens_from source None start end = []
tokens_from source (Some kind) start end = token_between source kind start end ∷ (lexed end (drop end source)).tokens

-- each is spelled as its kind requires
abbrev pub AreSpelled : List Token → Type 0
AreSpelled tokens = AllByRecursion (λ (t : Token). Spells t.kind t.text) tokens

-- no token is left only where the text ends
abbrev pub EndsThere : List ℕ → Option TokenKind → ℕ → Type 0
EndsThere source None end = end ≡ length source
EndsThere source (Some kind) end = ⊤

-- the first token is within the text, and each is spelled as its kind requires
pub record AreTokens (source : List ℕ) (kind : Option TokenKind) (start end : ℕ) : Type 0 where
  pub ordered : start ≤ end
  pub within : end ≤ length source
  pub ends : EndsThere source kind end
  pub spelled : AreSpelled (tokens_from source kind start end)

-- if there is one, it is spelled as its kind requires
abbrev pub IsSpelled : Option TextToken → Type 0
IsSpelled None = ⊤
IsSpelled (Some t) = Spells t.kind t.text.now

-- this is the first of the tokens, or there is none
abbrev pub IsFirst : List Token → Option TextToken → Type 0
IsFirst tokens None = tokens ≡ []
IsFirst tokens (Some t) = tokens ≡ token_of t ∷ drop 1 tokens

-- this is the one after the first
abbrev pub IsSecond : List Token → Option TextToken → Type 0
IsSecond tokens second = IsFirst (drop 1 tokens) second

-- reading ends with this fault
abbrev pub EndsWith : Lexed → ReadFault → Type 0
EndsWith read fault = (cause : LexFault) × (read.fault ≡ Some cause) × (fault ≡ fault_of cause)

-- an offset where one of the tokens ends, or that of the first byte
abbrev pub IsReached : List Token → ℕ → Type 0
IsReached tokens offset = (offset ≡ 0)
    ⊎ ((front : List Token) × (t : Token) × (rest : List Token) × (tokens ≡ front ++ t ∷ rest) × (t.end ≡ offset))
