use Rattle.bitlayout.proofs.Turns.{InTurn}
use Rattle.bitlayout.proofs.clash.are_in_turn.Given as goal

-- the earlier places follow one another, and the last of them ends here
abbrev pub invariant-loop-place : goal.invariant-loop-place
invariant-loop-place l = InTurn l.places l.fn.order l.place-index l.end
