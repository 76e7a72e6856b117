use Rattle.desk_send.specs.Json.{part_data}
use Rattle.desk_send.proofs.Lists.{writes_items}
use Rattle.desk_send.proofs.objects.part_values.Goals as goal

pub returns : goal.returns
returns c = writes_items part_data c.args.parts.now c.part_list.result c.part_list.ensures
