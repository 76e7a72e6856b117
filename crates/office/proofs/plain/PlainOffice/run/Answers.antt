use Rattle.office.proofs.Common.{Reply, List, ◌++◌, ◌∷◌, [], ap, ◌∙◌}
use Rattle.office.proofs.Runs.{HasRun-more}
use Rattle.office.proofs.plain.PlainOffice.run.Goals as goal

pub loop-team-preserved : goal.loop-team-preserved
loop-team-preserved c =
    HasRun-more c.args.self.now c.loop-team.self c.step.new.self c.args.requests.now c.loop-team.team-index
    c.loop-team-item.result
    c.args.replies.now.items c.loop-team.replies.items c.push_reserved.new.self.items c.in_ok-reply.reply
    c.loop-team-test.true c.loop-team-item.is c.loop-team.invariant c.in_ok-reply.ensures.step
    (c.push_reserved.ensures.items ∙ ap (λ (v : List Reply). v ++ c.in_ok-reply.reply ∷ []) c.reserve.ensures.items)
