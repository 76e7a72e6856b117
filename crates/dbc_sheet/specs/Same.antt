-- Whether two messages are equal in all that they say: identifier, name, length, transmitter, comment, and each signal
-- with all its fields, in order; decimals by their values.
use Rattle.std.specs.Prelude.{◌≡◌, ◌↔◌, Bool, IsTrue}
use Rattle.dbc_sheet.specs.contracts.message.MessagePartialEq.TheImpl as message_eq
use Rattle.dbc_sheet.specs.declared.message.Message.{Message}

-- what `==` of two messages answers
abbrev pub same_message : Message → Message → Bool
same_message = (message_eq.ghosts).eq

-- it answers whether they are equal
abbrev pub SameIsEqual : Type 0
SameIsEqual = (a b : Message) → IsTrue (same_message a b) ↔ (a ≡ b)
