use Rattle.office.proofs.Common.{List, ◌++◌, ◌∷◌, [], ap, ◌∙◌, Answer}
use Rattle.office.proofs.Ran.{run_more, run_none}
use Rattle.office.proofs.keyed_office.KeyedOffice.run.Goals as goal

pub loop-arrival-init : goal.loop-arrival-init
loop-arrival-init c = run_none c.args.self.now c.args.answers.now.items

pub loop-arrival-preserved : goal.loop-arrival-preserved
loop-arrival-preserved c =
    run_more c.args.self.now c.loop-arrival.self c.arrive.new.self c.args.arrivals.now c.loop-arrival.arrival-index
    c.arrival-item.result
    c.args.answers.now.items c.loop-arrival.answers.items c.push_reserved.new.self.items c.in_ok-answer.answer
    c.loop-arrival-test.true c.arrival-item.is c.loop-arrival.invariant c.in_ok-answer.ensures.held
    (c.push_reserved.ensures.items ∙ ap (λ (l : List Answer). l ++ c.in_ok-answer.answer ∷ []) c.reserve.ensures.items)
