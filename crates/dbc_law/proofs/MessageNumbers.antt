-- The numbers of messages are those that statements may have, and are those of the messages' identifiers.
use Rattle.dbc_law.proofs.Common.{◌≡◌, ◌<◌, ◌^◌, Some, refl, arith, IsMessage, number_of, Message}
use Rattle.can_id.specs.Ident.{IsIdentifier, dbc_number}
use Rattle.can_id.specs.declared.ident.Ident.{Ident}
use Rattle.can_id.specs.declared.ident.Ident.TheVariants.{Std, Ext}
use Rattle.dbc_grammar.specs.Fields.{ident_of}
use Rattle.dbc_grammar.proofs.Identifiers.{numbers_are_identifiers}

pub number_ident : (m : Message) → IsMessage m → ident_of (number_of m) ≡ Some m.ident
number_ident m h = (numbers_are_identifiers (number_of m) m.ident).1 (h.ident, refl)

pub number_small : (m : Message) → IsMessage m → number_of m < 2 ^ 32
number_small m h = of_ident m.ident h.ident
  where
    of_ident : (i : Ident) → IsIdentifier i → dbc_number i < 2 ^ 32
    of_ident (Std n) range = omega (arith, range)
    of_ident (Ext n) range = omega (arith, range)
