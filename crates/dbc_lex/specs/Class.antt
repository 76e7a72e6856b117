-- What begins with a byte: a gap, or a token of some kind.
use Rattle.std.specs.Prelude.{◌≡◌, ◌==◌, ℕ, Option, Some, None, if◌then◌else◌, refl}
use Rattle.dbc_grammar.specs.Lexing.{kind_of}
use Rattle.dbc_grammar.specs.Spelling.{is_gap}
use Rattle.dbc_grammar.specs.declared.token.TokenKind.{TokenKind}
use Rattle.dbc_grammar.specs.declared.token.TokenKind.TheVariants as kind
use Rattle.dbc_lex.specs.declared.kinds.Class.{Class}
use Rattle.dbc_lex.specs.declared.kinds.Class.TheVariants.{Name, Number, Text, Mark, Gap, Stray, Space}

-- a token of the kind, or none
abbrev pub of_kind : Option TokenKind → Class
of_kind (Some kind.Name) = Name
of_kind (Some kind.Number) = Number
of_kind (Some kind.Text) = Text
of_kind (Some kind.Mark) = Mark
of_kind None = Stray

-- a space is a gap too, of its own class
abbrev pub class_of : ℕ → Class
class_of b = if b == 32 then Space else (if is_gap b then Gap else of_kind (kind_of b))

class_of_example : (class_of 32 ≡ Space) × (class_of 9 ≡ Gap) × (class_of 65 ≡ Name) × (class_of 46 ≡ Stray)
class_of_example = (refl, refl, refl, refl)
