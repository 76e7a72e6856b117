-- What a DBC text is divided into.
use Rattle.std.specs.Prelude.{◌≡◌, ℕ, List, Some, Result, Err}
use Rattle.dbc_grammar.specs.Division.{Divides}
use Rattle.dbc_grammar.specs.Lexing.{LexFault, lexed}
use Rattle.dbc_grammar.specs.Statement.{Statement}
use Rattle.dbc_grammar.specs.Token.{Token}
use Rattle.dbc_grammar.specs.Tokens.{HasTokens}
use Rattle.dbc_lex.specs.Fault.{fault_of}
use Rattle.dbc_lex.specs.declared.fault.ReadFault.{ReadFault}

-- the text has tokens, and these are the statements, one after the other
pub record IsDivided (bytes : List ℕ) (statements : List Statement) : Type 0 where
  pub tokens : List Token
  pub has_tokens : HasTokens 0 bytes tokens
  pub divides : Divides tokens statements

-- the text isn't a sequence of statements
abbrev pub HasNoDivision : List ℕ → Type 0
HasNoDivision bytes = (statements : List Statement) → ¬ (IsDivided bytes statements)

-- if at some offset of the text no token begins, the result is the first fault of this kind
abbrev pub TokensComeFirst : {X : Type 0} → List ℕ → Result X ReadFault → Type 0
TokensComeFirst bytes answer = (cause : LexFault) → (lexed 0 bytes).fault ≡ Some cause → answer ≡ Err (fault_of cause)
