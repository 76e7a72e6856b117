use Rattle.store.proofs.Common.{◌≡◌, inl, inr, not, sym, ap, subst, ◌∙◌, arith, rules, Database, state, HasCleanDisk}
use Rattle.store.proofs.Common.{Trees, survives_begin, IsOffice}
use Rattle.store.specs.Calls.{LeavesStatistics}
use Rattle.store.specs.Holding.{Keeps, Leaves}
use Rattle.store.specs.Opening.{HasTables, StatisticsStay}
use Rattle.store.proofs.AfterCrash.{either_left}
use Rattle.store.proofs.Statistics.{left_stay, stay_same}
use Rattle.store.proofs.seeing.read_alone.Goals as goal

pub returns-in_err-done-clause-left : goal.returns-in_err-done-clause-left
returns-in_err-done-clause-left g c clean h holds =
    let old = state g.S.Store c.args.conn.now in
    let last = state g.S.Store c.read_inside.new.tx.conn.now in
    let end = c.commit-done.new.self.0 in
    let same : end ≡ c.conn-2-1.given.0 = search rules in
    let clean_end : HasCleanDisk (state g.S.Store end) =
    subst (λ v. HasCleanDisk (state g.S.Store v)) (sym same) clean in
    let clean_last : HasCleanDisk last = omega (arith, c.commit-done.ensures.survives.clean, clean_end) in
    let begun = c.transaction-tx.ensures.begun in
    let inside = survives_begin g.S.Store c.args.conn.now last (λ _. ⊥)
    (rw begun at c.read_inside.ensures.frame.survives) in
    let settled : old.now ≡ old.committed = c.is_autocommit-settled.ensures.settled
    (c.is_autocommit-settled.ensures.value ∙ ap not c.requires) holds.is_open in
    let office : IsOffice old.now = c.knows_schema.ensures holds.is_open holds.keeps.office in
    let unchanged = (rw begun at (c.in_ok-read.ensures.frame.same clean_last)) office in
    let keeps : Keeps h last.now.trees =
    subst (λ (d : Database). Keeps h d.trees) (sym unchanged.0.now_is) holds.keeps in
    let leaves = λ (db : Trees) (left : old.may_leave db). subst (Keeps h)
    (sym (c.leaves_committed.ensures holds.is_open db left ∙ ap (λ (d : Database). d.trees) (sym settled)))
    holds.keeps in
    let either = either_left old last (state g.S.Store end) (Keeps h) (Keeps h) clean_end inside
    c.commit-done.ensures.survives leaves keeps in
    subst (λ v. Leaves (Keeps h) (state g.S.Store v)) same
    (λ db left. elim (either db left) [ inl kept ↦ kept | inr kept ↦ kept ])

pub returns-clause-found : goal.returns-clause-found
returns-clause-found g c clean h holds =
    let old = state g.S.Store c.args.conn.now in
    let last = state g.S.Store c.read_inside.new.tx.conn.now in
    let end = c.commit-done.new.self.0 in
    let same : end ≡ c.conn-2-1.given.0 = search rules in
    let clean_end : HasCleanDisk (state g.S.Store end) =
    subst (λ v. HasCleanDisk (state g.S.Store v)) (sym same) clean in
    let clean_last : HasCleanDisk last = omega (arith, c.commit-done.ensures.survives.clean, clean_end) in
    let begun = c.transaction-tx.ensures.begun in
    let office : IsOffice old.now = c.knows_schema.ensures holds.is_open holds.keeps.office in
    (rw begun at (c.in_ok-read.ensures.found clean_last)) office h holds.keeps.holds

pub returns-in_err-done-clause-statistics_left : goal.returns-in_err-done-clause-statistics_left
returns-in_err-done-clause-statistics_left g c =
    let old = state g.S.Store c.args.conn.now in
    let last = state g.S.Store c.read_inside.new.tx.conn.now in
    let end = c.commit-done.new.self.0 in
    let same : end ≡ c.conn-2-1.given.0 = search rules in
    let begun = c.transaction-tx.ensures.begun in
    let inside = survives_begin g.S.Store c.args.conn.now last (λ _. ⊥)
    (rw begun at c.read_inside.ensures.frame.survives) in
    let stay = λ (clean : HasCleanDisk (state g.S.Store end)) (tables : HasTables old).
    let clean_last : HasCleanDisk last = omega (arith, c.commit-done.ensures.survives.clean, clean) in
    let office : IsOffice old.now = c.knows_schema.ensures tables.is_open tables.office in
    let unchanged = (rw begun at (c.in_ok-read.ensures.frame.same clean_last)) office in
    subst (λ (d : Database). StatisticsStay old.now d.trees) (sym unchanged.0.now_is) (stay_same old.now office) in
    subst (λ v. LeavesStatistics g.S.Store c.args.conn.now v) same
    (left_stay old last (state g.S.Store end) inside c.commit-done.ensures.survives stay)

pub returns-clause-statistics_left : goal.returns-clause-statistics_left
returns-clause-statistics_left g c =
    let old = state g.S.Store c.args.conn.now in
    let last = state g.S.Store c.read_inside.new.tx.conn.now in
    let end = c.commit-done.new.self.0 in
    let same : end ≡ c.conn-2-1.given.0 = search rules in
    let begun = c.transaction-tx.ensures.begun in
    let inside = survives_begin g.S.Store c.args.conn.now last (λ _. ⊥)
    (rw begun at c.read_inside.ensures.frame.survives) in
    let stay = λ (clean : HasCleanDisk (state g.S.Store end)) (tables : HasTables old).
    let clean_last : HasCleanDisk last = omega (arith, c.commit-done.ensures.survives.clean, clean) in
    let office : IsOffice old.now = c.knows_schema.ensures tables.is_open tables.office in
    let unchanged = (rw begun at (c.in_ok-read.ensures.frame.same clean_last)) office in
    subst (λ (d : Database). StatisticsStay old.now d.trees) (sym unchanged.0.now_is) (stay_same old.now office) in
    subst (λ v. LeavesStatistics g.S.Store c.args.conn.now v) same
    (left_stay old last (state g.S.Store end) inside c.commit-done.ensures.survives stay)
