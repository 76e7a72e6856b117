-- What a writer appends to the text before it.
use Rattle.std.specs.Prelude.{◌≡◌, ℕ, List, ◌++◌}
use Rattle.std.specs.List.{flat_map}
use Rattle.dbc_grammar.specs.Canon.{Piece}

-- a piece's gap, and its token
abbrev pub piece_text : Piece → List ℕ
piece_text p = p.gap ++ p.text

-- The new text is the old one, followed by the texts of these things, which are pieces of a line or whole lines.
pub record Adds {X : Type 0} (text_of : X → List ℕ) (old new : List ℕ) (things : List X) : Type 0 where
  pub text : new ≡ old ++ flat_map text_of things
