-- Worked examples, computed from the definitions.
use Rattle.std.proofs.Common.{◌≡◌, [], ◌∷◌, Some, None, refl}
use Rattle.dbc_sheet.specs.Sheet.{empty_sheet}
use Rattle.dbc_sheet.specs.declared.message.Message.{Message}
use Rattle.store_bodies.specs.Body.{only_message, sheet_alone}

-- the sheet of a message has no node, no value table and no text besides
alone : (m : Message) → sheet_alone m ≡ record {
  version = [];
  comment = [];
  nodes = [];
  tables = [];
  messages =
      m ∷ [];
}
alone m = refl

its_message : (m : Message) → only_message (sheet_alone m).messages ≡ Some m
its_message m = refl

no_message : only_message empty_sheet.messages ≡ None
no_message = refl

two_messages : (m n : Message) → only_message (m ∷ n ∷ []) ≡ None
two_messages m n = refl
