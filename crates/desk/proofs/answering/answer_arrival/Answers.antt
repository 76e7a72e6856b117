use Rattle.desk.proofs.Common.{ℕ, Global, Vec, state, TryAgain, arrives, answer_response, problem_response}
use Rattle.desk_call.specs.Call.{arrival_seen}
use Rattle.desk.specs.Responding.{MayHaveTaken, Responds}
use Rattle.desk.proofs.Responses.{arrived, follows_lost, may_answered, may_lost, on_err, on_text, try_again}
use Rattle.desk.proofs.answering.answer_arrival.Goals as goal

pub returns-in-Ok-clause-ok : goal.returns-in-Ok-clause-ok
returns-in-Ok-clause-ok g c clean h holds =
    let s = state g.S.Store c.arrive.new.self.conn in
    let a = arrival_seen c.args.arrival.now in
    on_text (λ (v : Vec ℕ Global). v.items) c.answer_response.result (answer_response c.in-Ok.answer)
    (λ t. Responds h (arrives a) t s) c.answer_response.ensures
    (arrived h a c.in-Ok.answer s (c.in-Ok.ensures.answered clean h holds).0 (c.in-Ok.ensures.answered clean h holds).1)

pub returns-in-Ok-clause-open : goal.returns-in-Ok-clause-open
returns-in-Ok-clause-open g c clean h holds sound = (c.in-Ok.ensures.answered clean h holds).0.is_open

pub returns-in-Ok-clause-err : goal.returns-in-Ok-clause-err
returns-in-Ok-clause-err g c clean h holds =
    let s = state g.S.Store c.arrive.new.self.conn in
    let a = arrival_seen c.args.arrival.now in
    let reported = c.in-Ok.ensures.answered clean h holds in
    on_err c.answer_response.result (MayHaveTaken h (arrives a) s)
    (may_answered h a c.in-Ok.answer s reported.0 reported.1)

pub returns-in-Err-clause-ok : goal.returns-in-Err-clause-ok
returns-in-Err-clause-ok g c clean h holds =
    let s = state g.S.Store c.arrive.new.self.conn in
    let a = arrival_seen c.args.arrival.now in
    on_text (λ (v : Vec ℕ Global). v.items) c.problem_response.result (problem_response TryAgain)
    (λ t. Responds h (arrives a) t s) c.problem_response.ensures
    (try_again h (arrives a) s (c.in-Err.ensures.lost clean h holds)
    (follows_lost h a s (c.in-Err.ensures.left clean h holds)))

pub returns-in-Err-clause-err : goal.returns-in-Err-clause-err
returns-in-Err-clause-err g c clean h holds =
    let s = state g.S.Store c.arrive.new.self.conn in
    let a = arrival_seen c.args.arrival.now in
    on_err c.problem_response.result (MayHaveTaken h (arrives a) s)
    (may_lost h (arrives a) s (c.in-Err.ensures.lost clean h holds)
    (follows_lost h a s (c.in-Err.ensures.left clean h holds)))
