use Rattle.desk_send.proofs.Common.{◌≤◌}
use Rattle.desk_send.specs.Desks.{AreStill}
use Rattle.desk_send.proofs.Trying.{SoFar}
use Rattle.desk_send.proofs.sending.reply_to.Given as goal

-- what comes in the tries that are left comes in all of them, after the turns so far
abbrev pub invariant-loop-left : goal.invariant-loop-left
invariant-loop-left g l =
    let first = g.K.Desks.known l.fn.desks in
    let now = g.K.Desks.known l.desks in
    record {
      within : l.left ≤ l.tries;
      still : AreStill first now;
      so_far : SoFar first l.port l.request now l.left l.tries;
    }

abbrev pub decreases-loop-left : goal.decreases-loop-left
decreases-loop-left g l = l.left
