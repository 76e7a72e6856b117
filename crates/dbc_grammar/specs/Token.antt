-- A token of a DBC file.
use Rattle.std.specs.Prelude.{ℕ, List}
use Rattle.dbc_grammar.specs.declared.token.TokenKind.{TokenKind}

-- its kind, the offset of its first byte and that after its last, and its bytes; those of a text include both quotes
pub record Token : Type 0 where
  pub kind : TokenKind
  pub start : ℕ
  pub end : ℕ
  pub text : List ℕ
