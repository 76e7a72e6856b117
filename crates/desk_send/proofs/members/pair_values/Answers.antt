use Rattle.office_fields.specs.declared.field.FieldKind.TheVariants as kind
use Rattle.desk_send.specs.Json.{data_of}
use Rattle.desk_send.proofs.Lists.{writes_items}
use Rattle.desk_send.proofs.members.pair_values.Goals as goal

pub returns : goal.returns
returns c = writes_items (data_of kind.ValueText) c.args.pairs.now c.pair_list.result c.pair_list.ensures
