use Rattle.office_fields.specs.declared.field.FieldKind.TheVariants as kind
use Rattle.desk_send.specs.Json.{data_of}
use Rattle.desk_send.proofs.Lists.{writes_items}
use Rattle.desk_send.proofs.members.name_values.Goals as goal

pub returns : goal.returns
returns c = writes_items (data_of kind.Name) c.args.names.now c.name_list.result c.name_list.ensures
