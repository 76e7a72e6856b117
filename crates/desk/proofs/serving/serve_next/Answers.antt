use Rattle.desk.proofs.Common.{ℕ, List, [], ◌∷◌, Option, inl, refl, sym, ap, subst, All-nil, All-push, IsTrue, state}
use Rattle.desk.proofs.Common.{itself_keeps, itself_leaves}
use Rattle.desk.specs.Serving.{AreAccepted, DeclinesBy, Ending, HasCause, HasGoneOn, IsClosed, IsDeclined, Visit}
use Rattle.desk.specs.Serving.{fault_of}
use Rattle.desk.proofs.Visits.{caused, declined, ending_reported, led, legal_of, one_came, one_ended, ranged_of}
use Rattle.desk.proofs.Visits.{written_is}
use Rattle.desk.proofs.serving.serve_next.Goals as goal

pub returns-clause-refused : goal.returns-clause-refused
returns-clause-refused g c is = c.serve_one-ended.ensures.kept (inl is)

pub returns-clause-served : goal.returns-clause-served
returns-clause-served g c =
    let reported = g.L.Response.Sink.reported in
    let coming = g.L.Listener.coming in
    let ended = g.L.Listener.ended in
    let accepted = c.in_ok-request.ensures in
    let one = c.serve_one-ended.ensures in
    let before = ended c.args.listener.now in
    let sent = g.L.Request.Source.left c.in_ok-request.request in
    let first = reported c.in_ok-request.response in
    let last = reported c.serve_one-ended.new.sink in
    let s = state g.S.Store c.serve_one-ended.new.office.conn in
    let fault = fault_of c.serve_one-ended.result in
    let failed = c.args.office.now.failed in
    let reads = g.L.Request.Source.failure_count c.serve_one-ended.new.source in
    let writes = g.L.Response.Sink.failure_count c.serve_one-ended.new.sink in
    let v : Visit = record {
      office_failed = failed;
      sent = sent;
      ending = ending_reported before last reads writes;
      fault = fault;
    } in
    let is_written = written_is before last reads writes in
    let came = one_came (coming c.args.listener.now) (coming c.accept.new.self) v accepted.comes in
    let ends = subst (λ (o : Option (List Ending)). IsClosed o (ended c.finish.new.self) last reads writes)
    accepted.kept c.finish.ensures.ends in
    let cause = caused c.serve_one-ended.result before last sent (g.L.Request.Source.left c.serve_one-ended.new.source)
    _ _ accepted.sound.0 accepted.sound.1 one.devices.count one.devices.short in
    let declines : IsDeclined v =
    λ is. subst (λ (o : Option (List ℕ)). DeclinesBy fault sent o) is_written
    (declined c.serve_one-ended.result before sent first last accepted.starts (one.refused is)) in (
      v,
      refl,
      record {
        accepted = subst (λ (o : Option (List (List ℕ))). AreAccepted (coming c.args.listener.now) o (v ∷ []))
            (sym c.finish.ensures.kept) came;
        closed = one_ended before (ended c.finish.new.self) failed last sent fault reads writes ends;
        caused = All-push HasCause [] v (All-nil HasCause) cause;
        fails_once = (
          refl,
          c.serve_one-ended.new.office.failed,
          λ is. subst IsTrue (sym (ap (λ o. o.failed) (one.kept (inl is)))) is,
          refl,
        );
        declined = All-push IsDeclined [] v (All-nil IsDeclined) declines;
      },
      λ clean h holding. subst (λ (o : Option (List ℕ)). HasGoneOn h fault sent o s) is_written
          (led c.serve_one-ended.result h before sent first last s c.leaves_now.ensures accepted.starts
          (legal_of h _ holding) (ranged_of h _ holding) (one.served clean h holding)
          (λ is. ap reported (one.devices.unwritten is))),
    )

pub returns-in_err-request-clause-statistics : goal.returns-in_err-request-clause-statistics
returns-in_err-request-clause-statistics g c = itself_keeps g.S.Store c.args.office.now.conn

pub returns-in_err-request-clause-statistics_left : goal.returns-in_err-request-clause-statistics_left
returns-in_err-request-clause-statistics_left g c = itself_leaves g.S.Store c.args.office.now.conn
