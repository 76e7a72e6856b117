-- The remarks on a message itself.
use Rattle.std.specs.Prelude.{ℕ, ◌==◌, nat_lt, Bool, false, true, not, ◌&&◌, List, [], ◌++◌, Option, Some, None}
use Rattle.std.specs.Prelude.{count_by, find, is_some, option_and_then, if◌then◌else◌}
use Rattle.std.specs.Str.{bytes_eq}
use Rattle.can_id.specs.J1939.{Fields, ident_fields}
use Rattle.can_id.specs.declared.ident.Ident.{Ident}
use Rattle.can_id.specs.declared.ident.Ident.TheVariants.{Std, Ext}
use Rattle.dbc_sheet.specs.declared.message.Message.{Message}
use Rattle.dbc_sheet.specs.declared.sheet.Sheet.{Sheet}
use Rattle.dbc_lint.specs.OfSignal.{is_long, unknown_node}
use Rattle.dbc_lint.specs.Remark.{remark, when, with_word}
use Rattle.dbc_lint.specs.declared.kind.Kind.TheVariants.{LongName, LongFrame, AddressTwice}
use Rattle.dbc_lint.specs.declared.remark.Remark.{Remark}

-- the transmitter isn't a node
abbrev pub unknown_transmitter : Sheet → Message → ℕ → Option (List ℕ) → List Remark
unknown_transmitter sheet m at None = []
unknown_transmitter sheet m at (Some name) = unknown_node sheet m.name at name

-- ---- more than 8 bytes

abbrev pub is_standard : Ident → Bool
is_standard (Std n) = true
is_standard (Ext n) = false

-- more bytes than a frame of classical CAN carries (ISO 11898-1)
abbrev pub is_over_8 : Message → Bool
is_over_8 m = nat_lt 8 m.length

-- An 11-bit identifier and more than 8 bytes, and no other message of the file has as many: where others have, the
-- network has CAN FD or a transport protocol.
abbrev pub is_long_frame : Sheet → Message → Bool
is_long_frame sheet m = is_standard m.ident && (is_over_8 m && count_by is_over_8 sheet.messages == 1)

-- ---- source addresses (SAE J1939-21, ISO 15765-2)

-- the address of a node that has none (SAE J1939-81), which database tools write for one that is claimed later
abbrev pub null_address : ℕ
null_address = 254

abbrev pub is_source : ℕ → Option Fields → Bool
is_source address None = false
is_source address (Some f) = f.source == address

-- a node sends the message from the address
abbrev pub is_sent_from : ℕ → Message → Bool
is_sent_from address m = is_some m.transmitter && is_source address (ident_fields m.ident)

-- the node that sends the first message from the address
abbrev pub first_sender : List Message → ℕ → Option (List ℕ)
first_sender messages address = option_and_then (λ (m : Message). m.transmitter) (find (is_sent_from address) messages)

-- the name of the first sender, if it is another
abbrev pub other_sender : Message → ℕ → List ℕ → Option (List ℕ) → List Remark
other_sender m at name None = []
other_sender m at name (Some first) = when (not (bytes_eq first name)) (remark AddressTwice at (with_word m.name first))

-- another node sends the first message from the source address of this one
abbrev pub address_twice : Sheet → Message → ℕ → Option (List ℕ) → Option Fields → List Remark
address_twice sheet m at (Some name) (Some f) =
    if f.source == null_address then [] else other_sender m at name (first_sender sheet.messages f.source)
address_twice sheet m at transmitter fields = []

-- ---- all

-- the remarks on a message, in ascending order of their numbers
abbrev pub of_message : Sheet → Message → ℕ → List Remark
of_message sheet m at =
    when (is_long m.name) (remark LongName at m.name)
    ++ (unknown_transmitter sheet m at m.transmitter
    ++ (when (is_long_frame sheet m) (remark LongFrame at m.name)
    ++ address_twice sheet m at m.transmitter (ident_fields m.ident)))
