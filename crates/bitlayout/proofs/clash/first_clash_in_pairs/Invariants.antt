use Rattle.bitlayout.proofs.Common.{◌≡◌, ℕ, ◌<◌, None}
use Rattle.bitlayout.specs.Clash.{clash_at}
use Rattle.bitlayout.proofs.clash.first_clash_in_pairs.Given as goal

-- no earlier place has a fault
abbrev pub invariant-loop-index : goal.invariant-loop-index
invariant-loop-index l = (k : ℕ) → k < l.index → clash_at l.length l.multiplexed l.places k ≡ None
