use Rattle.desk.proofs.Common.{◌∙◌, ℕ, List, ap, inl, inr, refl, sym, subst, Err, Appends, state, itself_keeps}
use Rattle.desk.proofs.Common.{itself_leaves, AppendsFront, seen}
use Rattle.std.proofs.lemmas.Result.{err_from_is_err_and}
use Rattle.desk.specs.Responding.{Responds}
use Rattle.desk.proofs.Devices.{devices_unread, not_unwritten, refuses_unread, serves_unread}
use Rattle.desk.proofs.Responses.{left_now}
use Rattle.desk.proofs.responding.serve_one.Goals as goal

-- ---- the request isn't read

pub returns-in_err-call-clause-devices : goal.returns-in_err-call-clause-devices
returns-in_err-call-clause-devices g c =
    let p = err_from_is_err_and c.from_residual.result c.from_residual.ensures.1 in
    let unread = c.in_err-call.ensures in
    rw p.1 (devices_unread _ _ g.R.Source g.W.Sink _ p.0 _ _ _ p.2 unread.reads (λ is. unread.failed (ap Err is)))

pub returns-in_err-call-clause-refused : goal.returns-in_err-call-clause-refused
returns-in_err-call-clause-refused g c failed =
    let p = err_from_is_err_and c.from_residual.result c.from_residual.ensures.1 in
    rw p.1 (refuses_unread Unit _ p.0 _ _ p.2)

pub returns-in_err-call-clause-served : goal.returns-in_err-call-clause-served
returns-in_err-call-clause-served g c clean h holds =
    let p = err_from_is_err_and c.from_residual.result c.from_residual.ensures.1 in
    let left = left_now h (state g.S.Store c.args.office.now.conn) c.leaves_now.ensures holds in
    rw p.1 (serves_unread Unit h _ p.0 _ _ _ _ p.2 holds left)

pub returns-in_err-call-clause-statistics : goal.returns-in_err-call-clause-statistics
returns-in_err-call-clause-statistics g c = itself_keeps g.S.Store c.args.office.now.conn

pub returns-in_err-call-clause-statistics_left : goal.returns-in_err-call-clause-statistics_left
returns-in_err-call-clause-statistics_left g c = itself_leaves g.S.Store c.args.office.now.conn

-- ---- there is no memory for its response

pub returns-in_default-clause-devices : goal.returns-in_default-clause-devices
returns-in_default-clause-devices g c =
    let read = c.in_ok-call.ensures.reads in
    record { most = read.most; count = (read.count, refl); short = λ is. cc; unwritten = λ is. refl }

pub returns-in_default-clause-kept : goal.returns-in_default-clause-kept
returns-in_default-clause-kept g c is =
    elim is [ inl failed ↦ c.response_to.ensures.refused failed | inr unread ↦ cc ]

pub returns-in_default-clause-served : goal.returns-in_default-clause-served
returns-in_default-clause-served g c clean h holds =
    inr (seen c.in_ok-call.call, c.in_ok-call.ensures.ok, c.in_default.ensures.err clean h holds)

-- ---- all of its response was written

pub returns-in-Ok-put_all-clause-devices : goal.returns-in-Ok-put_all-clause-devices
returns-in-Ok-put_all-clause-devices g c =
    let read = c.in_ok-call.ensures.reads in
    record {
      most = read.most;
      count = (read.count, c.in-Ok-put_all.ensures.count);
      short = λ is. cc;
      unwritten = not_unwritten _ (λ is. cc) (λ is. cc);
    }

pub returns-in-Ok-put_all-clause-kept : goal.returns-in-Ok-put_all-clause-kept
returns-in-Ok-put_all-clause-kept g c is =
    elim is [ inl failed ↦ c.response_to.ensures.refused failed | inr unread ↦ cc ]

pub returns-in-Ok-put_all-clause-refused : goal.returns-in-Ok-put_all-clause-refused
returns-in-Ok-put_all-clause-refused g c failed =
    let reported = g.W.Sink.reported in
    let refusal = c.deref.ensures.value ∙ c.in-Ok.ensures.failed failed in (
      seen c.in_ok-call.call,
      c.in_ok-call.ensures.ok,
      subst (Appends (reported c.args.sink.now) (reported c.put_all.new.sink)) refusal c.in-Ok-put_all.ensures.ok,
    )

pub returns-in-Ok-put_all-clause-served : goal.returns-in-Ok-put_all-clause-served
returns-in-Ok-put_all-clause-served g c clean h holds =
    let text = c.deref.result.now in
    let s = state g.S.Store c.response_to.new.office.conn in
    let requested = seen c.in_ok-call.call in
    let responds : Responds h requested text s =
    subst (λ (l : List ℕ). Responds h requested l s) (sym c.deref.ensures.value) (c.in-Ok.ensures.ok clean h holds) in
    (requested, text, c.in_ok-call.ensures.ok, responds, c.in-Ok-put_all.ensures.ok)

-- ---- a beginning of its response was written

pub returns-in-Err-clause-devices : goal.returns-in-Err-clause-devices
returns-in-Err-clause-devices g c =
    let read = c.in_ok-call.ensures.reads in
    record {
      most = read.most;
      count = (read.count, c.in-Err.ensures.count);
      short = λ is. cc;
      unwritten = not_unwritten _ (λ is. cc) (λ is. cc);
    }

pub returns-in-Err-clause-kept : goal.returns-in-Err-clause-kept
returns-in-Err-clause-kept g c is =
    elim is [ inl failed ↦ c.response_to.ensures.refused failed | inr unread ↦ cc ]

pub returns-in-Err-clause-refused : goal.returns-in-Err-clause-refused
returns-in-Err-clause-refused g c failed =
    let reported = g.W.Sink.reported in
    let refusal = c.deref.ensures.value ∙ c.in-Ok.ensures.failed failed in (
      seen c.in_ok-call.call,
      c.in_ok-call.ensures.ok,
      subst (AppendsFront (reported c.args.sink.now) (reported c.put_all.new.sink)) refusal c.in-Err.ensures.front,
    )

pub returns-in-Err-clause-served : goal.returns-in-Err-clause-served
returns-in-Err-clause-served g c clean h holds =
    let text = c.deref.result.now in
    let s = state g.S.Store c.response_to.new.office.conn in
    let requested = seen c.in_ok-call.call in
    let responds : Responds h requested text s =
    subst (λ (l : List ℕ). Responds h requested l s) (sym c.deref.ensures.value) (c.in-Ok.ensures.ok clean h holds) in
    (requested, text, c.in_ok-call.ensures.ok, responds, c.in-Err.ensures.front)
