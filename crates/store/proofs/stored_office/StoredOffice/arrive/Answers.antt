use Rattle.store.proofs.Common.{◌≡◌, sym, subst, ◌∙◌, arith, state, HasCleanDisk}
use Rattle.store.specs.Calls.{KeepsStatistics, LeavesStatistics}
use Rattle.store.specs.Holding.{Holding}
use Rattle.store.specs.Office.{OfficeView}
use Rattle.store.specs.Opening.{HasTables}
use Rattle.store.proofs.Same.{same_holds}
use Rattle.store.proofs.Statistics.{keeps_asked, leaves_asked}
use Rattle.store.proofs.stored_office.StoredOffice.arrive.Goals as goal

pub returns-in-Err-clause-lost : goal.returns-in-Err-clause-lost
returns-in-Err-clause-lost g c clean h holds is_open =
    let asked = c.loss_by-lost.ensures.frame in
    let before : HasCleanDisk (state g.S.Store c.transact.new.conn) = omega (arith, asked.survives.clean, clean) in
    let begun = subst (λ (o : OfficeView _). Holding h (state g.S.Store o.conn)) (sym c.self.view_is) holds in
    let held = c.in-Err.ensures.lost before h begun (asked.was_open clean is_open) in
    same_holds h _ (state g.S.Store c.loss_by-lost.new.conn) held is_open (asked.same clean is_open).0

pub returns-in-Err-clause-lost_same : goal.returns-in-Err-clause-lost_same
returns-in-Err-clause-lost_same g c clean tables is_open =
    let now = state g.S.Store c.loss_by-lost.new.conn in
    let asked = c.loss_by-lost.ensures.frame in
    let before : HasCleanDisk (state g.S.Store c.transact.new.conn) = omega (arith, asked.survives.clean, clean) in
    let begun = subst (λ (o : OfficeView _). HasTables (state g.S.Store o.conn)) (sym c.self.view_is) tables in
    let first = c.in-Err.ensures.lost_same before begun (asked.was_open clean is_open) in
    let second = asked.same clean is_open in
    subst (λ (o : OfficeView _). (now.now ≡ (state g.S.Store o.conn).now)
    × (now.committed ≡ (state g.S.Store o.conn).committed)) c.self.view_is
    (second.0 ∙ first.0, second.1 ∙ first.1)

pub returns-in-Err-clause-statistics : goal.returns-in-Err-clause-statistics
returns-in-Err-clause-statistics g c =
    subst (λ (o : OfficeView _). KeepsStatistics g.S.Store o.conn c.loss_by-lost.new.conn) c.self.view_is
    (keeps_asked g.S.Store c.self.inside.conn c.transact.new.conn c.loss_by-lost.new.conn c.in-Err.ensures.statistics
    c.loss_by-lost.ensures.frame)

pub returns-in-Err-clause-statistics_left : goal.returns-in-Err-clause-statistics_left
returns-in-Err-clause-statistics_left g c =
    subst (λ (o : OfficeView _). LeavesStatistics g.S.Store o.conn c.loss_by-lost.new.conn) c.self.view_is
    (leaves_asked g.S.Store c.self.inside.conn c.transact.new.conn c.loss_by-lost.new.conn c.in-Err.ensures.statistics_left
    c.loss_by-lost.ensures.frame)

pub returns-in-Ok-clause-statistics : goal.returns-in-Ok-clause-statistics
returns-in-Ok-clause-statistics g c =
    subst (λ (o : OfficeView _). KeepsStatistics g.S.Store o.conn c.transact.new.conn) c.self.view_is
    c.in-Ok.ensures.statistics

pub returns-in-Ok-clause-statistics_left : goal.returns-in-Ok-clause-statistics_left
returns-in-Ok-clause-statistics_left g c =
    subst (λ (o : OfficeView _). LeavesStatistics g.S.Store o.conn c.transact.new.conn) c.self.view_is
    c.in-Ok.ensures.statistics_left
