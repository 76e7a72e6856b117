-- What is written reads as itself and as nothing else.
use Rattle.dbc_grammar.specs.Canon.{canonical_text}
use Rattle.dbc_sheet.specs.Form.{IsSheet}
use Rattle.dbc_grammar.specs.Reads.{ReadsOnlyAs}
use Rattle.dbc_sheet.specs.declared.sheet.Sheet.{Sheet}

-- The canonical text of every well-formed sheet, with each part in its form, reads as that sheet, and every sheet that
-- it reads as is that one.
abbrev pub GrammarLaw : Type 0
GrammarLaw = (s : Sheet) → IsSheet s → ReadsOnlyAs (canonical_text s) s
