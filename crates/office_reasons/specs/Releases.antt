-- Messages of a release.
use Rattle.std.specs.Prelude.{ℕ, ◌==◌, Bool, List}
use Rattle.std.specs.Str.{bytes_eq}
use Rattle.can_id.specs.Ident.{dbc_number}
use Rattle.can_id.specs.declared.ident.Ident.{Ident}
use Rattle.dbc_sheet.specs.Messages.{number_of}
use Rattle.dbc_sheet.specs.declared.message.Message.{Message}

abbrev pub has_number_of : Ident → Message → Bool
has_number_of i m = number_of m == dbc_number i

abbrev pub is_named : List ℕ → Message → Bool
is_named name m = bytes_eq m.name name
