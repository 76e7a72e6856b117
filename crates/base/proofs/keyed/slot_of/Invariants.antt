use Rattle.std.proofs.Common.{◌≡◌, ◌≤◌, true, drop, length}
use Rattle.base.specs.Keyed.{are_above}
use Rattle.base.proofs.keyed.slot_of.Given as goal

abbrev pub invariant-loop-end : goal.invariant-loop-end
invariant-loop-end g l =
    record { within : l.end ≤ length l.items; above : are_above g.T.Keyed.order l.item (drop l.end l.items) ≡ true }

abbrev pub decreases-loop-end : goal.decreases-loop-end
decreases-loop-end g l = l.end
