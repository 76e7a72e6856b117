use Rattle.std.proofs.Common.{length}
use Rattle.office_script.proofs.Scripts.{IsReadSoFar}
use Rattle.office_script.proofs.script.arrivals_of.Given as goal

abbrev pub invariant-loop-first : goal.invariant-loop-first
invariant-loop-first g l = IsReadSoFar (g.F.FileSource.held l.files) l.dash l.text l.rest l.number l.arrivals.items

abbrev pub decreases-loop-first : goal.decreases-loop-first
decreases-loop-first g l = length l.rest
