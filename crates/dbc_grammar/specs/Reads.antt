-- What a DBC text reads as.
use Rattle.std.specs.Prelude.{◌≡◌, ℕ, List}
use Rattle.dbc_words.specs.declared.keyword.Keyword.{Keyword}
use Rattle.dbc_grammar.specs.Division.{Divides}
use Rattle.dbc_grammar.specs.Saying.{Says, passed_by}
use Rattle.dbc_grammar.specs.Statement.{Statement}
use Rattle.dbc_grammar.specs.Token.{Token}
use Rattle.dbc_grammar.specs.Tokens.{HasTokens}
use Rattle.dbc_sheet.specs.declared.sheet.Sheet.{Sheet}

-- The bytes have tokens, these divide into statements, the statements say the sheet, and those that are skipped begin
-- at these offsets with these keywords.
pub record ReadsAs (bytes : List ℕ) (s : Sheet) (passed : List (ℕ × Keyword)) : Type 0 where
  pub tokens : List Token
  pub statements : List Statement
  pub has_tokens : HasTokens 0 bytes tokens
  pub divides : Divides tokens statements
  pub says : Says statements s
  pub passes : passed ≡ passed_by statements

-- the bytes read as the sheet, whatever is skipped
abbrev pub Reads : List ℕ → Sheet → Type 0
Reads bytes s = (passed : List (ℕ × Keyword)) × ReadsAs bytes s passed

-- the bytes read as the sheet, and every sheet that they read as is that one
pub record ReadsOnlyAs (bytes : List ℕ) (s : Sheet) : Type 0 where
  pub reads : Reads bytes s
  pub only : (t : Sheet) → Reads bytes t → t ≡ s

-- a text reads as one sheet at most, with one list of skipped statements
abbrev pub ReadsAsOneAtMost : Type 0
ReadsAsOneAtMost = (bytes : List ℕ) (s t : Sheet) (p q : List (ℕ × Keyword)) → ReadsAs bytes s p → ReadsAs bytes t q
    → (s ≡ t) × (p ≡ q)
