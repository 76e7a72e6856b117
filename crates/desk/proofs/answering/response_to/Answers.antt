use Rattle.desk.proofs.Common.{ℕ, Global, Vec, IfOk, OnErr, sym, subst, state, itself_keeps, itself_leaves, fails, seen}
use Rattle.desk.proofs.Common.{problem_response}
use Rattle.desk_call.specs.declared.call.Call.{Call}
use Rattle.desk.specs.Responding.{MayHaveTaken, Responds}
use Rattle.desk.proofs.Responses.{fails_so, left_now, may_same, on_err, on_text}
use Rattle.desk.proofs.answering.response_to.Goals as goal

pub returns-in-Shows-clause-ok : goal.returns-in-Shows-clause-ok
returns-in-Shows-clause-ok g c clean h holds =
    subst (λ (call : Call). IfOk c.show.result
    (λ (v : Vec ℕ Global). Responds h (seen call) v.items (state g.S.Store c.show.new.office.conn)))
    (sym c.in-Shows.is) (c.show.ensures.ok clean h holds)

pub returns-in-Shows-clause-err : goal.returns-in-Shows-clause-err
returns-in-Shows-clause-err g c clean h holds =
    subst (λ (call : Call). OnErr c.show.result (MayHaveTaken h (seen call) (state g.S.Store c.show.new.office.conn)))
    (sym c.in-Shows.is) (c.show.ensures.err clean h holds)

pub returns-in-Arrives-clause-ok : goal.returns-in-Arrives-clause-ok
returns-in-Arrives-clause-ok g c clean h holds =
    subst (λ (call : Call). IfOk c.answer_arrival.result
    (λ (v : Vec ℕ Global). Responds h (seen call) v.items (state g.S.Store c.answer_arrival.new.office.conn)))
    (sym c.in-Arrives.is) (c.answer_arrival.ensures.ok clean h holds)

pub returns-in-Arrives-clause-err : goal.returns-in-Arrives-clause-err
returns-in-Arrives-clause-err g c clean h holds =
    subst (λ (call : Call). OnErr c.answer_arrival.result
    (MayHaveTaken h (seen call) (state g.S.Store c.answer_arrival.new.office.conn))) (sym c.in-Arrives.is)
    (c.answer_arrival.ensures.err clean h holds)

pub returns-in-Fails-clause-ok : goal.returns-in-Fails-clause-ok
returns-in-Fails-clause-ok g c clean h holds =
    let s = state g.S.Store c.args.office.now.conn in
    let problem = c.in-Fails.problem in
    subst (λ (call : Call). IfOk c.problem_response.result (λ (v : Vec ℕ Global). Responds h (seen call) v.items s))
    (sym c.in-Fails.is)
    (on_text (λ (v : Vec ℕ Global). v.items) c.problem_response.result (problem_response problem)
    (λ t. Responds h (fails problem) t s) c.problem_response.ensures
    (fails_so h problem s holds (left_now h s c.leaves_now.ensures holds)))

pub returns-in-Fails-clause-err : goal.returns-in-Fails-clause-err
returns-in-Fails-clause-err g c clean h holds =
    let s = state g.S.Store c.args.office.now.conn in
    on_err c.problem_response.result (MayHaveTaken h (seen c.args.call) s)
    (may_same h (seen c.args.call) s holds (left_now h s c.leaves_now.ensures holds))

pub returns-in-Fails-clause-statistics : goal.returns-in-Fails-clause-statistics
returns-in-Fails-clause-statistics g c = itself_keeps g.S.Store c.args.office.now.conn

pub returns-in-Fails-clause-statistics_left : goal.returns-in-Fails-clause-statistics_left
returns-in-Fails-clause-statistics_left g c = itself_leaves g.S.Store c.args.office.now.conn
