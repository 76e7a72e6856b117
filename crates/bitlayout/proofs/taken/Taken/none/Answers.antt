use Rattle.bitlayout.proofs.Common.{refl}
use Rattle.bitlayout.proofs.Covering.{taken_by_none}
use Rattle.bitlayout.proofs.taken.Taken.none.Goals as goal

pub returns : goal.returns
returns c = taken_by_none _ c.empty.ensures c.empty-2.ensures refl
