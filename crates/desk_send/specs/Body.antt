-- The body of a request: the JSON of its command, or the bytes of a file.
use Rattle.std.specs.Prelude.{◌≡◌, ℕ, Bool, true, List, Option, Some}
use Rattle.std.specs.List.{list_all}
use Rattle.std.specs.Option.{option_map}
use Rattle.std.specs.Str.{is_utf8}
use Rattle.serde_json.specs.Written.{compact_text}
use Rattle.office_types.specs.declared.command.Action.{Action}
use Rattle.office_types.specs.declared.command.Action.TheVariants as act
use Rattle.office_types.specs.declared.command.Command.{Command}
use Rattle.office_types.specs.declared.command.Task.{Task}
use Rattle.office_types.specs.declared.command.Task.TheVariants.{Act, Import, Bundle}
use Rattle.office_fields.specs.Kind.{kind_of}
use Rattle.desk_call.specs.Body.{command_in}
use Rattle.desk_call.specs.Bundle.{bundle_in}
use Rattle.desk_send.specs.Json.{action_data, bundle_data}

abbrev pub task_body : List ℕ → Task → Option (List ℕ)
task_body net (Act a) = option_map compact_text (action_data net a)
task_body net (Import file) = Some file
task_body net (Bundle parts) = option_map compact_text (bundle_data parts)

-- the body, where its texts are UTF-8
abbrev pub body_of : Command → Option (List ℕ)
body_of c = task_body c.net c.task

-- ---- where there is a body

-- the texts that may have any bytes are UTF-8: a unit, and those of values
abbrev pub is_text_action : Action → Bool
is_text_action (act.TakeBits c) = is_utf8 c.unit
is_text_action (act.SetValues c) = list_all (λ v. is_utf8 v.text) c.values
is_text_action a = true

-- the bytes of a file go as they are
abbrev pub is_text_task : Task → Bool
is_text_task (Act a) = is_text_action a
is_text_task (Import file) = true
is_text_task (Bundle parts) = list_all is_text_action parts

-- ---- what is read

-- the command that is read in the body, by its kind; the parts of a bundle; the bytes of a file
abbrev pub IsReadAs : List ℕ → List ℕ → Task → Type 0
IsReadAs body net (Act a) = command_in (kind_of a) body ≡ Some (record { net = net; task = Act a })
IsReadAs body net (Import file) = body ≡ file
IsReadAs body net (Bundle parts) = bundle_in body ≡ Some parts

abbrev pub IsReadBack : List ℕ → Command → Type 0
IsReadBack body c = IsReadAs body c.net c.task
