use Rattle.bitlayout.proofs.Common.{ℕ, ◌*◌, ◌<◌}
use Rattle.bitlayout.specs.Mask.{Has}
use Rattle.bitlayout.specs.Words.{positions_of}
use Rattle.bitlayout.proofs.mask.Mask.meets.Given as goal

-- no position in the words so far is in both
abbrev pub invariant-loop-index : goal.invariant-loop-index
invariant-loop-index l = (q : ℕ) → q < 64 * l.index → Has (positions_of l.self-inside.words) q
    → Has (positions_of l.other-inside.words) q → ⊥
