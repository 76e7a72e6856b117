use Rattle.office_decide.proofs.Common.{◌≡◌, ◌++◌}
use Rattle.std.proofs.Common.{take}
use Rattle.office_decide.proofs.bundling.add_copies.Given as goal

abbrev pub invariant-loop-change : goal.invariant-loop-change
invariant-loop-change l = l.changes ≡ l.fn.changes ++ take l.change-index l.more
