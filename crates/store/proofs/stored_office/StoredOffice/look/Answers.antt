use Rattle.store.proofs.Common.{◌≡◌, inl, inr, refl, sym, subst, ◌∙◌, arith, state, HasCleanDisk, Office, tables_of}
use Rattle.store.specs.Calls.{KeepsStatistics, LeavesStatistics}
use Rattle.store.specs.Holding.{Holding}
use Rattle.store.specs.Looking.{IsShown, bytes_of}
use Rattle.store.specs.Office.{OfficeView}
use Rattle.store.specs.Opening.{HasTables}
use Rattle.store.proofs.Remembered.{remembered_shown}
use Rattle.store.proofs.Same.{held_tables, same_holds}
use Rattle.store.proofs.Statistics.{keeps_asked, keeps_if_same, leaves_asked}
use Rattle.store.proofs.stored_office.StoredOffice.look.Goals as goal

pub returns-in-Ok-Some-clause-shown : goal.returns-in-Ok-Some-clause-shown
returns-in-Ok-Some-clause-shown g c clean h holds office legal =
    let begun = subst (λ (o : OfficeView _). Holding h (state g.S.Store o.conn)) (sym c.self.view_is) holds in
    let clean_inside = subst (λ (o : OfficeView _). HasCleanDisk (state g.S.Store o.conn)) (sym c.self.view_is) clean in
    let it = begun.keeps.holds.holds in
    let same : it.office ≡ office =
    c.histories_leave_offices.ensures.one h h it.office office refl it.legal legal in
    let t = tables_of (state g.S.Store c.self.inside.conn).now.trees in
    let truth = c.self.invariant.1 clean_inside (held_tables h _ begun) in
    subst (λ (o : Office). IsShown h o c.args.look.now (bytes_of c.in-Ok-Some.text)) same
    (remembered_shown h t begun.keeps.holds c.args.look.now (bytes_of c.in-Ok-Some.text)
    (rw c.in-Ok-Some.field-0-is at (c.in-Ok-Some.ensures t truth)))

pub returns-in-Ok-clause-shown : goal.returns-in-Ok-clause-shown
returns-in-Ok-clause-shown g c clean h holds office legal =
    let begun = subst (λ (o : OfficeView _). Holding h (state g.S.Store o.conn)) (sym c.self.view_is) holds in
    let it = begun.keeps.holds.holds in
    let same : it.office ≡ office =
    c.histories_leave_offices.ensures.one h h it.office office refl it.legal legal in
    subst (λ (o : Office). IsShown h o c.args.look.now (bytes_of c.in-Ok.text)) same
    (c.in-Ok.ensures.found clean h begun)

pub returns-in-Ok-clause-held : goal.returns-in-Ok-clause-held
returns-in-Ok-clause-held g c clean h holds =
    c.in-Ok.ensures.held clean h
    (subst (λ (o : OfficeView _). Holding h (state g.S.Store o.conn)) (sym c.self.view_is) holds)

pub returns-in-Ok-clause-left : goal.returns-in-Ok-clause-left
returns-in-Ok-clause-left g c clean h holds db left =
    c.in-Ok.ensures.left clean h
    (subst (λ (o : OfficeView _). Holding h (state g.S.Store o.conn)) (sym c.self.view_is) holds) db left

pub returns-in-Err-clause-lost : goal.returns-in-Err-clause-lost
returns-in-Err-clause-lost g c clean h holds is_open =
    let asked = c.loss_by-lost.ensures.frame in
    let before : HasCleanDisk (state g.S.Store c.look_alone.new.conn) = omega (arith, asked.survives.clean, clean) in
    let begun = subst (λ (o : OfficeView _). Holding h (state g.S.Store o.conn)) (sym c.self.view_is) holds in
    let same = c.in-Err.ensures.lost_same before (held_tables h _ begun) (asked.was_open clean is_open) in
    same_holds h _ (state g.S.Store c.loss_by-lost.new.conn) begun is_open
    ((asked.same clean is_open).0 ∙ same.0)

pub returns-in-Err-clause-left : goal.returns-in-Err-clause-left
returns-in-Err-clause-left g c clean h holds db left =
    let asked = c.loss_by-lost.ensures.frame in
    let before : HasCleanDisk (state g.S.Store c.look_alone.new.conn) = omega (arith, asked.survives.clean, clean) in
    let begun = subst (λ (o : OfficeView _). Holding h (state g.S.Store o.conn)) (sym c.self.view_is) holds in
    elim (asked.survives.crash clean db left) [
      | inl was ↦ c.in-Err.ensures.left before h begun db was
      | inr never ↦ absurd never
    ]

pub returns-in-Err-clause-lost_same : goal.returns-in-Err-clause-lost_same
returns-in-Err-clause-lost_same g c clean tables is_open =
    let now = state g.S.Store c.loss_by-lost.new.conn in
    let asked = c.loss_by-lost.ensures.frame in
    let before : HasCleanDisk (state g.S.Store c.look_alone.new.conn) = omega (arith, asked.survives.clean, clean) in
    let begun = subst (λ (o : OfficeView _). HasTables (state g.S.Store o.conn)) (sym c.self.view_is) tables in
    let first = c.in-Err.ensures.lost_same before begun (asked.was_open clean is_open) in
    let second = asked.same clean is_open in
    subst (λ (o : OfficeView _). (now.now ≡ (state g.S.Store o.conn).now)
    × (now.committed ≡ (state g.S.Store o.conn).committed)) c.self.view_is
    (second.0 ∙ first.0, second.1 ∙ first.1)

pub returns-in-Err-clause-statistics : goal.returns-in-Err-clause-statistics
returns-in-Err-clause-statistics g c =
    subst (λ (o : OfficeView _). KeepsStatistics g.S.Store o.conn c.loss_by-lost.new.conn) c.self.view_is
    (keeps_asked g.S.Store c.self.inside.conn c.look_alone.new.conn c.loss_by-lost.new.conn
    (keeps_if_same g.S.Store c.self.inside.conn c.look_alone.new.conn c.look_alone.result c.look_alone.ensures.same
    c.look_alone.ensures.lost_same) c.loss_by-lost.ensures.frame)

pub returns-in-Err-clause-statistics_left : goal.returns-in-Err-clause-statistics_left
returns-in-Err-clause-statistics_left g c =
    subst (λ (o : OfficeView _). LeavesStatistics g.S.Store o.conn c.loss_by-lost.new.conn) c.self.view_is
    (leaves_asked g.S.Store c.self.inside.conn c.look_alone.new.conn c.loss_by-lost.new.conn c.in-Err.ensures.statistics_left
    c.loss_by-lost.ensures.frame)

pub returns-in-Ok-clause-statistics : goal.returns-in-Ok-clause-statistics
returns-in-Ok-clause-statistics g c =
    subst (λ (o : OfficeView _). KeepsStatistics g.S.Store o.conn c.look_alone.new.conn) c.self.view_is
    (keeps_if_same g.S.Store c.self.inside.conn c.look_alone.new.conn c.look_alone.result c.look_alone.ensures.same
    c.look_alone.ensures.lost_same)

pub returns-in-Ok-clause-statistics_left : goal.returns-in-Ok-clause-statistics_left
returns-in-Ok-clause-statistics_left g c =
    subst (λ (o : OfficeView _). LeavesStatistics g.S.Store o.conn c.look_alone.new.conn) c.self.view_is
    c.in-Ok.ensures.statistics_left
