use Rattle.base.proofs.Separators.{split_once_is}
use Rattle.base.proofs.split.split_once.Goals as goal

pub returns-clause-computed : goal.returns-clause-computed
returns-clause-computed c =
    split_once_is c.args.separator c.args.bytes.now c.split_at_first.result c.split_at_first.ensures
