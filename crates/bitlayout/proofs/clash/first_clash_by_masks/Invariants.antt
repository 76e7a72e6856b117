use Rattle.bitlayout.proofs.Common.{◌≡◌, ℕ, ◌<◌, None, take}
use Rattle.bitlayout.specs.Clash.{clash_at}
use Rattle.bitlayout.specs.Taken.{IsTakenBy}
use Rattle.bitlayout.proofs.clash.first_clash_by_masks.Given as goal

-- no earlier place has a fault, and the masks are those of the earlier places
abbrev pub invariant-loop-index : goal.invariant-loop-index
invariant-loop-index l = record {
  none : (k : ℕ) → k < l.index → clash_at l.length l.multiplexed l.places k ≡ None;
  taken : IsTakenBy l.taken (take l.index l.places);
}
