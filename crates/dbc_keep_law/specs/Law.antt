-- What holds of the text that keeps the passed statements of a source.
use Rattle.std.specs.Prelude.{◌≡◌, ◌++◌, ℕ, List, [], filter, map, IsPermutation}
use Rattle.dbc_grammar.specs.Canon.{canonical_text}
use Rattle.dbc_grammar.specs.Division.{AreParts, Part}
use Rattle.dbc_grammar.specs.Reads.{Reads, ReadsAs}
use Rattle.dbc_grammar.specs.Saying.{Says}
use Rattle.dbc_grammar.specs.Token.{Token}
use Rattle.dbc_grammar.specs.Tokens.{HasTokens}
use Rattle.dbc_sheet.specs.Form.{IsSheet}
use Rattle.dbc_sheet.specs.declared.sheet.Sheet.{Sheet}
use Rattle.dbc_words.specs.declared.keyword.Keyword.{Keyword}
use Rattle.dbc_keep_law.specs.Found.{found}
use Rattle.dbc_keep_law.specs.Kept.{completed, declarations, kept_text}
use Rattle.dbc_keep_law.specs.Passages.{Passage, passages_of, statements_of}
use Rattle.dbc_keep_law.specs.Staying.{stays}

-- the source reads as the sheet, and these are its passed statements
pub record Keeps (source : List ℕ) (s : Sheet) (ps : List Passage) : Type 0 where
  pub tokens : List Token
  pub parts : List Part
  pub has_tokens : HasTokens 0 source tokens
  pub are_parts : AreParts tokens parts
  pub says : Says (statements_of parts) s
  pub passages : ps ≡ passages_of source parts

-- the text is the kept text of the source
pub record IsKept (source text : List ℕ) : Type 0 where
  pub sheet : Sheet
  pub passages : List Passage
  pub keeps : Keeps source sheet passages
  pub text_is : text ≡ kept_text sheet passages

-- it reads as the same sheet
abbrev pub KeepsSheet : Type 0
KeepsSheet = (source text : List ℕ) (s : Sheet) → IsKept source text → Reads source s → Reads text s

-- its passed statements are those of the source, place after place, and the declarations that the canonical lines add
abbrev pub KeepsPassed : Type 0
KeepsPassed = (source text : List ℕ) (kept : IsKept source text)
    → Keeps text kept.sheet (completed kept.sheet kept.passages)

-- each of them once
abbrev pub EachOnce : Type 0
EachOnce = (s : Sheet) (ps : List Passage) → IsPermutation (ps ++ declarations s ps) (completed s ps)

-- a source has one kept text at most
abbrev pub KeptIsOne : Type 0
KeptIsOne = (source t u : List ℕ) → IsKept source t → IsKept source u → t ≡ u

-- formatting it again changes nothing
abbrev pub KeptIsKept : Type 0
KeptIsKept = (source text : List ℕ) → IsKept source text → IsKept text text

-- a source without passed statements gives the canonical text
abbrev pub NothingKept : Type 0
NothingKept = (s : Sheet) → kept_text s [] ≡ canonical_text s

-- the passed statements of a source are those that are found at their offsets
abbrev pub StatementsAreFound : Type 0
StatementsAreFound = (source : List ℕ) (s : Sheet) (passed : List (ℕ × Keyword)) → ReadsAs source s passed
    → Keeps source s (map (found source) passed)

-- The text of any sheet with the passed statements of a source that stay reads as that sheet, and its passed statements
-- are these, place after place, and the declarations that the canonical lines add.
abbrev pub StatementsStay : Type 0
StatementsStay = (source : List ℕ) (o : Sheet) (ps : List Passage) (s : Sheet) → Keeps source o ps → IsSheet s
    → Keeps (kept_text s (filter (stays s) ps)) s (completed s (filter (stays s) ps))

-- a source whose passed statements are known reads as its sheet
abbrev pub KeptIsRead : Type 0
KeptIsRead = (source : List ℕ) (s : Sheet) (ps : List Passage) → Keeps source s ps → Reads source s
