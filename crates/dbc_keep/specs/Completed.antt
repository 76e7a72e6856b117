-- The text of a sheet with statements that the sheet doesn't have.
use Rattle.std.specs.Prelude.{◌≡◌, ◌⊎◌, ℕ, Bool, true, false, List, [], map, Option, Some, None}
use Rattle.dbc_advice.specs.declared.notes.Source.{Source}
use Rattle.dbc_keep.specs.LeftOut.{left_out_lines}
use Rattle.dbc_grammar.specs.Reads.{Reads, ReadsAs, ReadsOnlyAs}
use Rattle.dbc_keep.specs.J1939.{IsUnreadable, KeepsJ1939}
use Rattle.dbc_keep.specs.Staying.{KeepsStaying, left_out}
use Rattle.dbc_read.specs.Passed.{start_and_keyword}
use Rattle.dbc_lex.specs.declared.fault.ReadFault.{ReadFault}
use Rattle.dbc_read.specs.Reading.{IsReadFault}
use Rattle.dbc_read.specs.declared.passed.Passed.{Passed}
use Rattle.dbc_sheet.specs.declared.sheet.Sheet.{Sheet}

-- a file: how lines name it, and its bytes
pub record NamedText : Type 0 where
  pub name : List ℕ
  pub bytes : List ℕ

abbrev pub named_text : Source → NamedText
named_text source = record { name = source.name.now; bytes = source.text.now }

-- The text has the skipped statements of the original that stay, and there is a line for each of the others. Without an
-- original it is the text from before.
abbrev pub IsWithOriginal : Option NamedText → List ℕ → Sheet → List ℕ → List ℕ → Type 0
IsWithOriginal None text s made lines = (made ≡ text) × (lines ≡ [])
IsWithOriginal (Some original) text s made lines =
    (own : Sheet) × (passed : List Passed) × ReadsAs original.bytes own (map start_and_keyword passed)
    × KeepsStaying original.bytes made own s
    × (lines ≡ left_out_lines original.name original.bytes (left_out s original.bytes passed))

-- it has the attributes of SAE J1939, if they are wanted
abbrev pub IsWithJ1939 : Bool → List ℕ → Sheet → List ℕ → Type 0
IsWithJ1939 false text s made = made ≡ text
IsWithJ1939 true text s made = KeepsJ1939 text made s

-- The text reads as a sheet. The one that is made reads as this sheet alone, and has what is wanted: first the
-- statements of the original, and then the attributes.
pub record IsCompleted (original : Option NamedText) (j1939 : Bool) (text made lines : List ℕ) : Type 0 where
  pub sheet : Sheet
  pub reads : Reads text sheet
  pub only : ReadsOnlyAs made sheet
  pub staying : List ℕ
  pub with_original : IsWithOriginal original text sheet staying lines
  pub with_j1939 : IsWithJ1939 j1939 staying sheet made

-- there is an original, it reads as no sheet, and the fault is that of `read`
abbrev pub IsOriginalFault : Option NamedText → ReadFault → Type 0
IsOriginalFault None fault = ⊥
IsOriginalFault (Some original) fault = IsReadFault original.bytes fault

-- The attributes are wanted, and the text reads as a sheet. With the statements of the original, if there is one, it
-- still does, but no longer with the attributes.
pub record IsAttributeFault (original : Option NamedText) (j1939 : Bool) (text : List ℕ) : Type 0 where
  pub wanted : j1939 ≡ true
  pub sheet : Sheet
  pub reads : Reads text sheet
  pub staying : List ℕ
  pub lines : List ℕ
  pub only : ReadsOnlyAs staying sheet
  pub with_original : IsWithOriginal original text sheet staying lines
  pub unreadable : IsUnreadable staying sheet

-- The text or the original reads as no sheet, and the fault is that of `read`; or the text no longer does with the
-- attributes.
abbrev pub CannotBeCompleted : Option NamedText → Bool → List ℕ → ReadFault → Type 0
CannotBeCompleted original j1939 text fault =
    IsReadFault text fault ⊎ IsOriginalFault original fault ⊎ IsAttributeFault original j1939 text
