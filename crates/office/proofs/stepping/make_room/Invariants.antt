use Rattle.office.proofs.Common.{◌+◌, ◌-◌, length}
use Rattle.office.specs.Indexed.{AreIndexes}
use Rattle.office.proofs.stepping.make_room.Given as goal

abbrev pub invariant-loop-indexes : goal.invariant-loop-indexes
invariant-loop-indexes l = AreIndexes l.indexes.items l.nets

abbrev pub decreases-loop-indexes : goal.decreases-loop-indexes
decreases-loop-indexes l = l.at + 1 - length l.indexes.items
