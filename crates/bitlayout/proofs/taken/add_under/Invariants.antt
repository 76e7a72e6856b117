use Rattle.bitlayout.proofs.Common.{take}
use Rattle.bitlayout.specs.Taken.{CoversMore}
use Rattle.bitlayout.proofs.taken.add_under.Given as goal

-- the mask has what it had, and the positions of the places so far that are under the value
abbrev pub invariant-loop-place : goal.invariant-loop-place
invariant-loop-place l = CoversMore l.fn.mask l.mask l.value (take l.place-index l.places)
