-- The lines of a kept text, part by part.
use Rattle.std.specs.Prelude.{◌&&◌, ◌++◌, ℕ, Bool, not, List, [], ◌∷◌, if◌then◌else◌}
use Rattle.dbc_grammar.specs.Canon.{Line, each_signal, spn_default, spn_definition, spn_lines, type_lines, value_lines}
use Rattle.dbc_keep.specs.Finding.{any_says, lines_there}
use Rattle.dbc_keep_law.specs.Kept.{defaults_spn, defines_spn, has_spn}
use Rattle.dbc_read.specs.declared.passed.Passed.{Passed}
use Rattle.dbc_sheet.specs.declared.sheet.Sheet.{Sheet}
use Rattle.dbc_write.specs.Parts.{comment_part, definition_part}

module _ (s : Sheet) (source : List ℕ) (passed : List Passed) where
  abbrev pub there : ℕ → List Line
  there place = lines_there source place passed

  -- the line, if the sheet has a suspect parameter number and no statement of the place says the same
  abbrev pub declared_lines : ℕ → (Line → Bool) → Line → List Line
  declared_lines place says line = if has_spn s && not (any_says source place says passed) then line ∷ [] else []

  -- the file, its nodes, value tables and messages
  abbrev pub sheet_lines : List Line
  sheet_lines = definition_part s ++ there 0 ++ there 1 ++ there 2 ++ there 3 ++ there 4

  abbrev pub comments_part : List Line
  comments_part = comment_part s ++ there 5

  abbrev pub declaration_lines : List Line
  declaration_lines = there 6 ++ declared_lines 6 defines_spn spn_definition ++ there 7
      ++ declared_lines 7 defaults_spn spn_default

  abbrev pub attribute_lines : List Line
  attribute_lines = there 8 ++ each_signal spn_lines s

  abbrev pub text_lines : List Line
  text_lines = each_signal value_lines s ++ there 9 ++ there 10 ++ there 11 ++ there 12 ++ there 13 ++ there 14

  abbrev pub type_part : List Line
  type_part = each_signal type_lines s ++ there 15 ++ there 16

  abbrev pub all_lines : List Line
  all_lines = sheet_lines ++ comments_part ++ declaration_lines ++ attribute_lines ++ text_lines ++ type_part
