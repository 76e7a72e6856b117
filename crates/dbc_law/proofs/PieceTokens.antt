-- Which tokens belong to the pieces of canonical lines.
use Rattle.dbc_law.proofs.Common.{◌≡◌, ℕ, List, [], ◌∷◌, ◌++◌, refl, Line, Piece, Rule, many, Token}

-- the token of a piece whose text is between these offsets
abbrev pub token_of : Piece → ℕ → ℕ → Token
token_of p start end = record { kind = p.kind; start = start; end = end; text = p.text }

-- the first token is the piece's
pub record Front (ts : List Token) (p : Piece) (rest : List Token) : Type 0 where
  pub start : ℕ
  pub end : ℕ
  pub front : ts ≡ token_of p start end ∷ rest

abbrev pub piece : Rule Piece
piece = λ ts p rest. Front ts p rest

-- the first tokens are those of the pieces of a line
abbrev pub line : Rule Line
line = λ ts l rest. many piece ts l rest

-- and those of lines, one after the other
abbrev pub lines : Rule (List Line)
lines = λ ts ls rest. many line ts ls rest

module _ {A : Type 0} (rule : Rule A) where
  -- one piece after the other
  pub many_append : (ts : List Token) (xs ys : List A) (middle rest : List Token) → many rule ts xs middle
      → many rule middle ys rest
      → many rule ts (xs ++ ys) rest
  many_append ts [] ys middle rest e more = rw e at more
  many_append ts (x ∷ xs) ys middle rest (next, first, others) more =
      (next, first, many_append next xs ys middle rest others more)

  pub many_parts : (ts : List Token) (xs ys : List A) (rest : List Token) → many rule ts (xs ++ ys) rest
      → (middle : List Token) × many rule ts xs middle × many rule middle ys rest
  many_parts ts [] ys rest h = (ts, refl, h)
  many_parts ts (x ∷ xs) ys rest (next, first, others) =
      let (middle, front, after) = many_parts next xs ys rest others in
      (middle, (next, first, front), after)
