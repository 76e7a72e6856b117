use Rattle.store_net.proofs.Common.{take, AreShown, IsNamed}
use Rattle.store_net.proofs.nets.names_in.Given as goal

abbrev pub invariant-loop-row : goal.invariant-loop-row
invariant-loop-row l = AreShown IsNamed l.names.items (take l.row-index l.rows)
