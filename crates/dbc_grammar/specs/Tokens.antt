-- Which tokens a DBC text has. Vector's DBC File Format Documentation gives a grammar of tokens, and does not say how a
-- text is cut into them. That only gaps are between tokens, and that each token is as long as it can be, is this
-- project's dialect.
use Rattle.std.specs.Prelude.{◌≡◌, ℕ, ◌+◌, ◌≤◌, List, [], ◌∷◌, ◌++◌, length, IsTrue}
use Rattle.std.specs.List.{list_all}
use Rattle.dbc_grammar.specs.declared.token.TokenKind.{TokenKind}
use Rattle.dbc_grammar.specs.Spelling.{is_gap, Spells}
use Rattle.dbc_grammar.specs.Token.{Token}

-- a gap: only gap bytes, or none
abbrev pub IsGap : List ℕ → Type 0
IsGap bytes = IsTrue (list_all is_gap bytes)

-- No spelling with which the bytes begin, of any kind, is longer than n bytes.
abbrev pub IsLongest : ℕ → List ℕ → Type 0
IsLongest n bytes = (kind : TokenKind) (word rest : List ℕ) → Spells kind word → bytes ≡ word ++ rest → length word ≤ n

-- The bytes, which are at the offset, are a gap, then the token, then the rest; and the token is the longest spelling
-- where it begins.
pub record IsFirst (offset : ℕ) (bytes : List ℕ) (token : Token) (rest : List ℕ) : Type 0 where
  pub gap : List ℕ
  pub parts : bytes ≡ gap ++ (token.text ++ rest)
  pub gap_is : IsGap gap
  pub start : token.start ≡ offset + length gap
  pub end : token.end ≡ token.start + length token.text
  pub spelled : Spells token.kind token.text
  pub longest : IsLongest (length token.text) (token.text ++ rest)

-- The bytes, which are at the offset, have these tokens and no others: in order, with only gaps between them, before
-- the first and after the last.
abbrev pub HasTokens : ℕ → List ℕ → List Token → Type 0
HasTokens offset bytes [] = IsGap bytes
HasTokens offset bytes (token ∷ tokens) = (rest : List ℕ) × IsFirst offset bytes token rest
    × HasTokens token.end rest tokens
