use Rattle.desk.proofs.Common.{[], ◌∷◌, ◌++◌, length, refl, sym, ap, subst, arith, state, HasCleanDisk, KeepThose}
use Rattle.std.proofs.Common.{◌<◌, length-append}
use Rattle.store.proofs.ListOfArrivals.{keep_at_first, keep_more}
use Rattle.desk.specs.Serving.{HasServedAll, NoneWaits, SaysFailure}
use Rattle.desk.proofs.Noted.{fails_still, served_still}
use Rattle.desk.proofs.Turns.{served_none, served_then, says_nothing, says_then, visit_still, visits_none, visits_still}
use Rattle.desk.proofs.Turns.{visits_then}
use Rattle.desk.proofs.serving.serve.Goals as goal

pub loop-served-init : goal.loop-served-init
loop-served-init g c = record {
  clean = omega arith;
  stated = says_nothing c.args.office.now.failed (g.E.Write.contents c.args.errors.now);
  so_far = (
    [],
    refl,
    visits_none g.L.Listener c.args.listener.now c.args.office.now.failed,
    λ clean h holding. served_none h _ _ c.leaves_now.ensures holding,
  );
  statistics = λ clean h holding. keep_at_first (state g.S.Store c.args.office.now.conn);
}

pub loop-served-preserved : goal.loop-served-preserved
loop-served-preserved g c =
    let i = c.loop-served.invariant in
    let w = i.so_far in
    let a = c.in-Ok.ensures in
    let alone = c.report.ensures in
    let one = a.served in
    let before = c.loop-served.office in
    let next = c.serve_next.new.office in
    let now = c.report.new.office in
    let once = one.2.fails_once in
    let stays_next = fails_still before next a.refused in
    let stays_now = fails_still next now alone.refused in
    record {
      clean = let early = i.clean in let served = a.clean in let read = alone.clean in omega (arith, early, served, read);
      stated = says_then c.args.office.now.failed before.failed now.failed w.0 _ _ _ w.2.fails_once i.stated
          (rw (← c.is_failed-had_failed.ensures) (rw (← c.is_failed.ensures) c.say_failure.ensures))
          (λ is. stays_now (stays_next is));
      so_far = (
        w.0 ++ one.0 ∷ [],
        let all = length-append w.0 (one.0 ∷ []) in let n = w.1 in omega (arith, all, n),
        visits_then g.L.Listener _ _ _ _ before.failed now.failed w.0 one.0 w.2
            (visit_still g.L.Listener _ _ _ next.failed now.failed one.0 one.2 stays_now),
        λ clean h holding.
            let mid : HasCleanDisk (state g.S.Store next.conn) =
            let read = alone.clean in omega (arith, read, clean) in
            let early : HasCleanDisk (state g.S.Store before.conn) =
            let served = a.clean in omega (arith, served, mid) in
            served_still g.S.Store h (w.0 ++ one.0 ∷ []) next now alone clean
            (served_then h w.0 one.0 before.failed (state g.S.Store before.conn) next.failed (state g.S.Store next.conn)
            (record {
              before = once.0;
              refused = λ is. (ap (λ o. o.failed) (a.refused is), ap (λ o. state g.S.Store o.conn) (a.refused is));
              leads = one.3 mid;
              opened = a.open mid;
            }) (w.3 early h holding)),
      );
      statistics = λ clean h holding.
          let mid : HasCleanDisk (state g.S.Store next.conn) = let read = alone.clean in omega (arith, read, clean) in
          let early : HasCleanDisk (state g.S.Store before.conn) = let served = a.clean in omega (arith, served, mid) in
          let ran = w.3 early h holding in
          let ran_next = served_then h w.0 one.0 before.failed (state g.S.Store before.conn) next.failed
          (state g.S.Store next.conn)
          (record {
            before = once.0;
            refused = λ is. (ap (λ o. o.failed) (a.refused is), ap (λ o. state g.S.Store o.conn) (a.refused is));
            leads = one.3 mid;
            opened = a.open mid;
          }) ran in
          keep_more g.S.Store (state g.S.Store c.args.office.now.conn) next now alone.refused
          (λ working. record {
            is_open = ran_next.is_open working;
            office = (ran_next.held (ran_next.is_open working)).keeps.office;
          })
          (keep_more g.S.Store (state g.S.Store c.args.office.now.conn) before next a.refused
          (λ working. record {
            is_open = ran.is_open working;
            office = (ran.held (ran.is_open working)).keeps.office;
          }) (i.statistics early h holding) (a.statistics mid) mid a.statistics_left)
          (alone.statistics clean) clean alone.statistics_left;
    }

pub returns-in-Err-clause-stated : goal.returns-in-Err-clause-stated
returns-in-Err-clause-stated g c =
    let reported = g.E.Write.contents in
    subst (λ o. SaysFailure c.args.office.now.failed o.failed (reported c.args.errors.now)
    (reported c.loop-served.errors))
    (sym c.in-Err.ensures.kept) c.loop-served.invariant.stated

pub returns-in-Err-clause-served : goal.returns-in-Err-clause-served
returns-in-Err-clause-served g c =
    let w = c.loop-served.invariant.so_far in
    let a = c.in-Err.ensures in
    let fewer : length w.0 < c.args.count = let n = w.1 in let test = c.loop-served-test.true in
    omega (arith, n, test) in (
      w.0,
      visits_still g.L.Listener _ _ _ _ _ _ w.0 w.2 a.none (ap (λ o. o.failed) a.kept),
      (refl, fewer, subst NoneWaits (sym a.none.coming) a.none.none),
      λ clean h holding.
          let early = subst (λ o. HasCleanDisk (state g.S.Store o.conn)) a.kept clean in
          subst (λ o. HasServedAll h w.0 o.failed (state g.S.Store o.conn)) (sym a.kept) (w.3 early h holding),
    )

pub returns-in-Err-clause-statistics : goal.returns-in-Err-clause-statistics
returns-in-Err-clause-statistics g c clean h holding =
    let a = c.in-Err.ensures in
    let early = subst (λ o. HasCleanDisk (state g.S.Store o.conn)) a.kept clean in
    subst (λ o. KeepThose (state g.S.Store c.args.office.now.conn) (state g.S.Store o.conn)) (sym a.kept)
    (c.loop-served.invariant.statistics early h holding)

pub returns-clause-statistics : goal.returns-clause-statistics
returns-clause-statistics g c clean h holding = c.loop-served.invariant.statistics clean h holding

pub returns-clause-served : goal.returns-clause-served
returns-clause-served g c =
    let w = c.loop-served.invariant.so_far in
    let n = w.1 in
    let test = c.loop-served-test.false in
    let end = c.loop-served.auto._served-end in
    (w.0, w.2, omega (arith, n, test, end), w.3)
