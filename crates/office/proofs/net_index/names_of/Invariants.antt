use Rattle.office.proofs.Common.{◌≤◌, length, drop}
use Rattle.office.proofs.Indexes.{AreNames}
use Rattle.office.proofs.net_index.names_of.Given as goal

abbrev pub invariant-loop-at : goal.invariant-loop-at
invariant-loop-at l = record { within : l.at ≤ length l.live; names : AreNames l.names (drop l.at l.live) }

abbrev pub decreases-loop-at : goal.decreases-loop-at
decreases-loop-at l = l.at
