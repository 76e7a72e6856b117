use Rattle.bitlayout.proofs.Common.{ℕ, ◌<◌}
use Rattle.bitlayout.specs.Start.{CanStartAt}
use Rattle.bitlayout.specs.Taken.{IsTakenBy}
use Rattle.bitlayout.proofs.start.least_start_where.Given as goal

-- the signal can start at no earlier position, and the masks are those of the places
abbrev pub invariant-loop-start : goal.invariant-loop-start
invariant-loop-start l = record {
  none : (k : ℕ) → k < l.start → CanStartAt l.places l.length l.size l.order l.mux k → ⊥;
  taken : IsTakenBy l.taken l.places;
}
