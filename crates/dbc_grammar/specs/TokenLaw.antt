-- How the tokens of a DBC text relate to what is read from its first byte on.
use Rattle.std.specs.Prelude.{◌≡◌, ⊤, ℕ, ◌+◌, ◌-◌, ◌≤◌, ◌↔◌, false, List, [], ◌∷◌, ◌++◌, length, take, drop, Some, None}
use Rattle.std.specs.Prelude.{if◌then◌else◌}
use Rattle.dbc_grammar.specs.declared.token.TokenKind.{TokenKind}
use Rattle.dbc_grammar.specs.Lexing.{LexFault, StrayByte, UnclosedText, Lexed, lexed}
use Rattle.dbc_grammar.specs.Inside.{inside_of}
use Rattle.dbc_grammar.specs.Spelling.{Spells, is_gap, is_quote, quoted}
use Rattle.dbc_grammar.specs.Token.{Token}
use Rattle.dbc_grammar.specs.Tokens.{HasTokens, IsFirst, IsGap}

-- these tokens, and no fault
abbrev pub tokens_without_fault : List Token → Lexed
tokens_without_fault tokens = record { tokens = tokens; fault = None }

-- these tokens, and then the fault
abbrev pub tokens_then_fault : List Token → LexFault → Lexed
tokens_then_fault tokens fault = record { tokens = tokens; fault = Some fault }

-- A text has the tokens exactly if they are what is read of it without a fault.
abbrev pub TokensAreRead : Type 0
TokensAreRead = (bytes : List ℕ) (tokens : List Token)
    → HasTokens 0 bytes tokens ↔ (lexed 0 bytes ≡ tokens_without_fault tokens)

-- A text has at most one list of tokens.
abbrev pub TokensAreOne : Type 0
TokensAreOne = (bytes : List ℕ) (ts us : List Token) → HasTokens 0 bytes ts → HasTokens 0 bytes us → ts ≡ us

-- The bytes, which are at the offset, are a gap and then a byte that is no gap and with which no token begins, of any
-- kind. It is the opening quote of a text that no quote closes, or else a stray byte.
pub record NoToken (offset : ℕ) (bytes : List ℕ) (fault : LexFault) : Type 0 where
  pub gap : List ℕ
  pub first : ℕ
  pub after : List ℕ
  pub parts : bytes ≡ gap ++ (first ∷ after)
  pub gap_is : IsGap gap
  pub no_gap : is_gap first ≡ false
  pub none : (kind : TokenKind) (word rest : List ℕ) → Spells kind word → first ∷ after ≡ word ++ rest → ⊥
  pub fault_is : fault ≡ (if is_quote first then UnclosedText (offset + length gap) else StrayByte
      (offset + length gap))

-- The bytes, which are at the offset, have first these tokens, and after them none begins.
abbrev pub StopsWith : ℕ → List ℕ → List Token → LexFault → Type 0
StopsWith offset bytes [] fault = NoToken offset bytes fault
StopsWith offset bytes (token ∷ tokens) fault = (rest : List ℕ) × IsFirst offset bytes token rest
    × StopsWith token.end rest tokens fault

-- Reading ends with a fault exactly if no token begins after those that were read.
abbrev pub FaultsAreExact : Type 0
FaultsAreExact = (bytes : List ℕ) (tokens : List Token) (fault : LexFault)
    → StopsWith 0 bytes tokens fault ↔ (lexed 0 bytes ≡ tokens_then_fault tokens fault)

-- Each token begins at the offset or after it, ends within the source, and its bytes are those between; the next ones
-- begin at its end or after it.
abbrev pub AreSlices : ℕ → List ℕ → List Token → Type 0
AreSlices offset source [] = ⊤
AreSlices offset source (t ∷ ts) =
    (offset ≤ t.start) × (t.start ≤ t.end) × (t.end ≤ length source)
    × (t.text ≡ take (t.end - t.start) (drop t.start source)) × AreSlices t.end source ts

-- The tokens that are read of a source are slices of it, also where reading ends with a fault.
abbrev pub TokensAreSlices : Type 0
TokensAreSlices = (source : List ℕ) → AreSlices 0 source (lexed 0 source).tokens

-- The value of a text token is what is inside its quotes.
abbrev pub InsidesAreKept : Type 0
InsidesAreKept = (inside : List ℕ) → inside_of (quoted inside) ≡ inside
