-- The command that named values give.
use Rattle.std.specs.Prelude.{◌==◌, not, ◌&&◌, nat_le, List, length, Option, Some}
use Rattle.std.specs.Option.{option_map}
use Rattle.office_types.specs.Parts.{part_limit}
use Rattle.office_types.specs.declared.command.Action.{Action}
use Rattle.office_types.specs.declared.command.Command.{Command}
use Rattle.office_types.specs.declared.command.Task.TheVariants as task
use Rattle.office_fields.specs.declared.requested.Requested.{Requested}
use Rattle.office_fields.specs.declared.requested.Requested.TheVariants as requested
use Rattle.office_fields.specs.declared.requested.FileImport.{FileImport}
use Rattle.office_fields.specs.declared.field.Field.TheVariants as field
use Rattle.office_fields.specs.declared.kind.ActionKind.{ActionKind}
use Rattle.office_fields.specs.declared.kind.CommandKind.{CommandKind}
use Rattle.office_fields.specs.declared.kind.CommandKind.TheVariants.{Act, Import, Bundle}
use Rattle.office_fields.specs.Given.{NamedValue, are_known, given}
use Rattle.office_fields.specs.Kind.{action_of, fields_of, part_fields}
use Rattle.office_fields.specs.Value.{◌>>=◌, where_true}

-- a command, where no value is of another field
abbrev pub command_of : ActionKind → List NamedValue → Option Command
command_of k values = where_true (are_known (fields_of (Act k)) values) do
  net ← given field.Net values
  action ← action_of k values
  Some (record { net = net; task = task.Act action })

-- a part of a bundle: a command without its network
abbrev pub part_of : ActionKind → List NamedValue → Option Action
part_of k values = where_true (are_known (part_fields k) values) (action_of k values)

-- the parts, where there are 1 to 64
abbrev pub are_parts : List Action → Option (List Action)
are_parts parts = where_true (not (length parts == 0) && nat_le (length parts) part_limit) (Some parts)

-- the import of a file that is still to be read, or the bundle of the parts in one
abbrev pub file_import_of : List NamedValue → Option FileImport
file_import_of values = where_true (are_known (fields_of Import) values) do
  net ← given field.Net values
  file ← given field.File values
  Some (record { net = net; file = file })

abbrev pub requested_of : CommandKind → List NamedValue → Option Requested
requested_of (Act k) values = option_map requested.Command (command_of k values)
requested_of Import values = option_map requested.Import (file_import_of values)
requested_of Bundle values = option_map requested.Bundle (file_import_of values)
