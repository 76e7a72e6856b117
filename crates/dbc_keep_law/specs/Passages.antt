-- The statements of a source that are passed over, as lines: each token with the bytes before it.
use Rattle.std.specs.Prelude.{ℕ, ◌-◌, List, [], ◌∷◌, map, filter, take, drop}
use Rattle.dbc_grammar.specs.Canon.{Line, Piece}
use Rattle.dbc_grammar.specs.Division.{Part}
use Rattle.dbc_grammar.specs.Saying.{is_passed}
use Rattle.dbc_grammar.specs.Statement.{Statement}
use Rattle.dbc_grammar.specs.Token.{Token}
use Rattle.dbc_words.specs.declared.keyword.Keyword.{Keyword}

-- each token, and before it the bytes since the offset, or since the end of the token before
abbrev pub pieces_from : List ℕ → ℕ → List Token → List Piece
pieces_from source at [] = []
pieces_from source at (t ∷ ts) =
    record { gap = take (t.start - at) (drop at source); kind = t.kind; text = t.text } ∷ pieces_from source t.end ts

-- the bytes of the run from its first token to its last, as a line
abbrev pub line_of : List ℕ → List Token → Line
line_of source [] = []
line_of source (t ∷ ts) = pieces_from source t.start (t ∷ ts)

-- a statement that is passed over: its first keyword, and its bytes
pub record Passage : Type 0 where
  pub keyword : Keyword
  pub line : Line

abbrev pub passage_of : List ℕ → Part → Passage
passage_of source part = record { keyword = part.is.keyword; line = line_of source part.run }

abbrev pub statements_of : List Part → List Statement
statements_of parts = map (λ (p : Part). p.is) parts

-- all of them, in their order
abbrev pub passages_of : List ℕ → List Part → List Passage
passages_of source parts = map (passage_of source)
    (filter (λ (p : Part). is_passed (statements_of parts) p.is.content) parts)
