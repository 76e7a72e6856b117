-- The pieces of a decimal, by its sign.
use Rattle.dbc_law.proofs.Common.{codes, Number, Piece, mark, tight}
use Rattle.std.specs.Prelude.{Bool, List, [], ◌∷◌, ℕ, unsigned_abs, if◌then◌else◌}
use Rattle.decimal.specs.Printing.{unsigned_text}
use Rattle.dbc_grammar.specs.declared.token.TokenKind.TheVariants as kind

abbrev pub digits : Number → List ℕ
digits n = unsigned_text (unsigned_abs n.mantissa) n.exponent

abbrev pub digits_piece : List ℕ → Number → Piece
digits_piece gap n = record { gap = gap; kind = kind.Number; text = digits n }

-- as `value` of `dbc_grammar`'s `Canon`, where the sign is `is_negative n.mantissa`
abbrev pub signed_pieces : Bool → List ℕ → Number → List Piece
signed_pieces negative gap n = if negative then mark gap (codes "-") ∷ digits_piece tight n
    ∷ [] else (digits_piece gap n ∷ [])
