use Rattle.std.proofs.lemmas.List.Elements.{All-push}
use Rattle.dbc_advice.specs.MayBeThere.{MayBeThere}
use Rattle.dbc_advice.proofs.wanted.wanted_after.Goals as goal
use Rattle.dbc_advice.proofs.wanted.wanted_after.Goals.{then-is+in_ok-push, else-is}

pub loop-candidate-preserved : goal.loop-candidate-preserved
loop-candidate-preserved c = elim c.if-is.branch [
  | then-is+in_ok-push w ↦
      rw w.wanted-is (rw w.in_ok-push.ensures.items
      (All-push (MayBeThere c.args.before.now) _ _ c.loop-candidate.invariant
      (rw w.if-is.true at c.in_ok-is.ensures)))
  | else-is w ↦ rw w.wanted-is c.loop-candidate.invariant
]
