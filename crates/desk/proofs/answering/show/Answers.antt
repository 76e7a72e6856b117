use Rattle.desk.proofs.Common.{ℕ, List, Some, None, Global, Vec, sym, subst, state, Office, IsLegal, IsShown, TryAgain}
use Rattle.desk.proofs.Common.{shows, problem_response}
use Rattle.desk_types.specs.declared.problem.Problem.TheVariants.{NotFound}
use Rattle.desk_reply.specs.Response.{text_response}
use Rattle.desk_reply.specs.declared.responses.BodyKind.{BodyKind}
use Rattle.desk.specs.Responding.{MayHaveTaken, Responds, body_kind_of}
use Rattle.desk.proofs.Responses.{follows_same, looked, may_lost, may_same, on_err, on_text, try_again}
use Rattle.desk.proofs.answering.show.Goals as goal

pub returns-in-Ok-Some-clause-ok : goal.returns-in-Ok-Some-clause-ok
returns-in-Ok-Some-clause-ok g c clean h holds =
    let s = state g.S.Store c.look.new.self.conn in
    let shown : (office : Office) → IsLegal h office → IsShown h office c.args.look (Some c.in-Ok-Some.text.items) =
    λ office legal. rw c.in-Ok-Some.field-0-is at (c.in-Ok-Some.ensures.shown clean h holds office legal) in
    on_text (λ (v : Vec ℕ Global). v.items) c.text_response.result
    (text_response c.body_kind_of-content.result c.deref.result.now) (λ t. Responds h (shows c.args.look) t s)
    c.text_response.ensures
    (subst (λ (k : BodyKind). Responds h (shows c.args.look) (text_response k c.deref.result.now) s)
    (sym c.body_kind_of-content.ensures)
    (subst (λ (l : List ℕ). Responds h (shows c.args.look) (text_response (body_kind_of c.args.look) l) s)
    (sym c.deref.ensures.value)
    (looked h c.args.look (Some c.in-Ok-Some.text.items) s shown (c.in-Ok-Some.ensures.held clean h holds)
    (c.in-Ok-Some.ensures.left clean h holds))))

pub returns-in-Ok-None-clause-ok : goal.returns-in-Ok-None-clause-ok
returns-in-Ok-None-clause-ok g c clean h holds =
    let s = state g.S.Store c.look.new.self.conn in
    let shown : (office : Office) → IsLegal h office → IsShown h office c.args.look None =
    λ office legal. rw c.in-Ok-None.field-0-is at (c.in-Ok-None.ensures.shown clean h holds office legal) in
    on_text (λ (v : Vec ℕ Global). v.items) c.problem_response.result (problem_response NotFound)
    (λ t. Responds h (shows c.args.look) t s) c.problem_response.ensures
    (looked h c.args.look None s shown (c.in-Ok-None.ensures.held clean h holds)
    (c.in-Ok-None.ensures.left clean h holds))

pub returns-in-Ok-Some-clause-open : goal.returns-in-Ok-Some-clause-open
returns-in-Ok-Some-clause-open g c clean h holds sound = (c.in-Ok-Some.ensures.held clean h holds).is_open

pub returns-in-Ok-None-clause-open : goal.returns-in-Ok-None-clause-open
returns-in-Ok-None-clause-open g c clean h holds sound = (c.in-Ok-None.ensures.held clean h holds).is_open

pub returns-in-Ok-Some-clause-err : goal.returns-in-Ok-Some-clause-err
returns-in-Ok-Some-clause-err g c clean h holds =
    let s = state g.S.Store c.look.new.self.conn in
    on_err c.text_response.result (MayHaveTaken h (shows c.args.look) s)
    (may_same h (shows c.args.look) s (c.in-Ok-Some.ensures.held clean h holds)
    (c.in-Ok-Some.ensures.left clean h holds))

pub returns-in-Ok-None-clause-err : goal.returns-in-Ok-None-clause-err
returns-in-Ok-None-clause-err g c clean h holds =
    let s = state g.S.Store c.look.new.self.conn in
    on_err c.problem_response.result (MayHaveTaken h (shows c.args.look) s)
    (may_same h (shows c.args.look) s (c.in-Ok-None.ensures.held clean h holds)
    (c.in-Ok-None.ensures.left clean h holds))

pub returns-clause-ok : goal.returns-clause-ok
returns-clause-ok g c clean h holds =
    let s = state g.S.Store c.look.new.self.conn in
    on_text (λ (v : Vec ℕ Global). v.items) c.problem_response-in-Err.result (problem_response TryAgain)
    (λ t. Responds h (shows c.args.look) t s) c.problem_response-in-Err.ensures
    (try_again h (shows c.args.look) s (c.in-Err.ensures.lost clean h holds)
    (follows_same h (shows c.args.look) s (c.in-Err.ensures.left clean h holds)))

pub returns-clause-err : goal.returns-clause-err
returns-clause-err g c clean h holds =
    let s = state g.S.Store c.look.new.self.conn in
    on_err c.problem_response-in-Err.result (MayHaveTaken h (shows c.args.look) s)
    (may_lost h (shows c.args.look) s (c.in-Err.ensures.lost clean h holds)
    (follows_same h (shows c.args.look) s (c.in-Err.ensures.left clean h holds)))
