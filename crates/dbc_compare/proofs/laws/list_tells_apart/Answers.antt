use Rattle.dbc_compare.proofs.NoDifference.{list_tells_apart}
use Rattle.dbc_compare.proofs.laws.list_tells_apart.Goals as goal

pub returns : goal.returns
returns c = list_tells_apart c.args.old.now c.args.new.now c.differences_tell_apart.ensures
