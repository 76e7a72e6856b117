-- Bodies: texts that have a message alone.
use Rattle.std.specs.Prelude.{ℕ, List, [], ◌∷◌, Option, Some, None}
use Rattle.dbc_grammar.specs.Reads.{Reads}
use Rattle.dbc_sheet.specs.Sheet.{empty_sheet}
use Rattle.dbc_sheet.specs.declared.message.Message.{Message}
use Rattle.dbc_sheet.specs.declared.sheet.Sheet.{Sheet}

abbrev pub sheet_alone : Message → Sheet
sheet_alone m = record empty_sheet { messages = m ∷ [] }

-- the text reads as the sheet that has the message alone
abbrev pub IsBody : List ℕ → Message → Type 0
IsBody text m = Reads text (sheet_alone m)

-- the message of a list that has just one
abbrev pub only_message : List Message → Option Message
only_message [] = None
only_message (m ∷ []) = Some m
only_message (m ∷ n ∷ rest) = None
