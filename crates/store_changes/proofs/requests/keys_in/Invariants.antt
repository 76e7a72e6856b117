use Rattle.store_changes.proofs.Common.{take, AreShown, IsNamed}
use Rattle.store_changes.proofs.requests.keys_in.Given as goal

abbrev pub invariant-loop-row : goal.invariant-loop-row
invariant-loop-row l = AreShown IsNamed l.keys.items (take l.row-index l.rows)
