use Rattle.bitlayout.proofs.Common.{ℕ, ◌≤◌, ◌/◌}
use Rattle.bitlayout.specs.Bits.{IsBit}
use Rattle.bitlayout.proofs.bits.share_bit_across.Given as goal

-- no common bit in an earlier byte
abbrev pub invariant-loop-byte : goal.invariant-loop-byte
invariant-loop-byte l = (q : ℕ) → IsBit l.fn.a q → IsBit l.fn.b q → l.byte ≤ q / 8
