use Rattle.bitlayout.proofs.Common.{take}
use Rattle.bitlayout.specs.Taken.{IsTakenBy}
use Rattle.bitlayout.proofs.start.taken_by.Given as goal

abbrev pub invariant-loop-place : goal.invariant-loop-place
invariant-loop-place l = IsTakenBy l.taken (take l.place-index l.places)
