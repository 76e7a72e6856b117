use Rattle.desk.proofs.Common.{◌≡◌, List, length, state, KeepThose}
use Rattle.store.specs.Calls.{KeepsDoubt, OnHistory}
use Rattle.desk.specs.Serving.{HasServedAll, SaysFailure, Visit}
use Rattle.desk.specs.Visits.{HasVisits}
use Rattle.desk.proofs.serving.serve.Given as goal

-- the connections so far were served
abbrev pub invariant-loop-served : goal.invariant-loop-served
invariant-loop-served g l =
    let old = l.fn.office in
    let now = l.office in
    record {
      clean : KeepsDoubt g.S.Store old.conn now.conn;
      stated : SaysFailure old.failed now.failed (g.E.Write.contents l.fn.errors) (g.E.Write.contents l.errors);
      so_far : (visits : List Visit) × (length visits ≡ l._served)
          × HasVisits g.L.Listener l.fn.listener l.listener old.failed now.failed visits
          × OnHistory g.S.Store old.conn now.conn
          (λ h. HasServedAll h visits now.failed (state g.S.Store now.conn));
      statistics : OnHistory g.S.Store old.conn now.conn
          (λ h. KeepThose (state g.S.Store old.conn) (state g.S.Store now.conn));
    }
