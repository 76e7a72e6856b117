use Rattle.store.proofs.Common.{◌≡◌, ◌⊎◌, ◌++◌, ◌∷◌, [], not, sym, ap, subst, ◌∙◌, arith, rules, Database, state}
use Rattle.store.proofs.Common.{HasCleanDisk, Trees, survives_begin, statistics_of, IsOffice, Answer, answered}
use Rattle.store.specs.Calls.{LeavesStatistics}
use Rattle.store.specs.Holding.{Keeps, Leaves}
use Rattle.store.specs.Opening.{HasTables}
use Rattle.store.proofs.AfterCrash.{either_left, on_err}
use Rattle.store.proofs.Statistics.{left_stay, same_if_now, stay_after}
use Rattle.store.proofs.arriving.transact.Goals as goal

pub returns-in_err-done-clause-left : goal.returns-in_err-done-clause-left
returns-in_err-done-clause-left g c clean h holds =
    let old = state g.S.Store c.args.conn.now in
    let last = state g.S.Store c.arrive_inside.new.tx.conn.now in
    let end = c.commit-done.new.self.0 in
    let same : end ≡ c.conn-2-1.given.0 = search rules in
    let clean_end : HasCleanDisk (state g.S.Store end) =
    subst (λ v. HasCleanDisk (state g.S.Store v)) (sym same) clean in
    let clean_last : HasCleanDisk last = omega (arith, c.commit-done.ensures.survives.clean, clean_end) in
    let begun = c.transaction-tx.ensures.begun in
    let inside = survives_begin g.S.Store c.args.conn.now last (λ _. ⊥)
    (rw begun at c.arrive_inside.ensures.frame.survives) in
    let settled : old.now ≡ old.committed = c.is_autocommit-settled.ensures.settled
    (c.is_autocommit-settled.ensures.value ∙ ap not c.requires) holds.is_open in
    let office : IsOffice old.now = c.knows_schema.ensures holds.is_open holds.keeps.office in
    let office_last = (rw begun at (c.in_ok-answer.ensures.frame.office clean_last)) office in
    let held_last = (rw begun at (c.in_ok-answer.ensures.held clean_last)) office h holds.keeps.holds in
    let later = λ (answer : Answer). h ++ answered c.args.team.now c.args.key.now c.args.request.now answer ∷ [] in
    let After : Trees → Type 0 = λ db. (answer : Answer) × Keeps (later answer) db in
    let leaves = λ (db : Trees) (left : old.may_leave db). subst (Keeps h)
    (sym (c.leaves_committed.ensures holds.is_open db left ∙ ap (λ (d : Database). d.trees) (sym settled)))
    holds.keeps in
    on_err c.from_residual-in_err-done.result (subst (λ v. Leaves (λ db. Keeps h db ⊎ After db) (state g.S.Store v))
    same
    (either_left old last (state g.S.Store end) (Keeps h) After clean_end inside c.commit-done.ensures.survives leaves
    (c.in_ok-answer.answer, record { office = office_last.trees; holds = held_last })))

pub returns-in_err-done-clause-statistics_left : goal.returns-in_err-done-clause-statistics_left
returns-in_err-done-clause-statistics_left g c =
    let old = state g.S.Store c.args.conn.now in
    let last = state g.S.Store c.arrive_inside.new.tx.conn.now in
    let end = c.commit-done.new.self.0 in
    let same : end ≡ c.conn-2-1.given.0 = search rules in
    let begun = c.transaction-tx.ensures.begun in
    let inside = survives_begin g.S.Store c.args.conn.now last (λ _. ⊥)
    (rw begun at c.arrive_inside.ensures.frame.survives) in
    let stay = λ (clean : HasCleanDisk (state g.S.Store end)) (tables : HasTables old).
    let clean_last : HasCleanDisk last = omega (arith, c.commit-done.ensures.survives.clean, clean) in
    let office : IsOffice old.now = c.knows_schema.ensures tables.is_open tables.office in
    let frame = c.in_ok-answer.ensures.frame in
    stay_after old.now last.now office ((rw begun at (frame.office clean_last)) office) (record {
      same_schema = (rw begun at (frame.same_schema clean_last)) office;
      statistics = (rw begun at (frame.statistics clean_last)) office;
    }) in
    subst (λ v. LeavesStatistics g.S.Store c.args.conn.now v) same
    (left_stay old last (state g.S.Store end) inside c.commit-done.ensures.survives stay)

pub returns-clause-statistics_left : goal.returns-clause-statistics_left
returns-clause-statistics_left g c =
    let old = state g.S.Store c.args.conn.now in
    let last = state g.S.Store c.arrive_inside.new.tx.conn.now in
    let end = c.commit-done.new.self.0 in
    let same : end ≡ c.conn-2-1.given.0 = search rules in
    let begun = c.transaction-tx.ensures.begun in
    let inside = survives_begin g.S.Store c.args.conn.now last (λ _. ⊥)
    (rw begun at c.arrive_inside.ensures.frame.survives) in
    let stay = λ (clean : HasCleanDisk (state g.S.Store end)) (tables : HasTables old).
    let clean_last : HasCleanDisk last = omega (arith, c.commit-done.ensures.survives.clean, clean) in
    let office : IsOffice old.now = c.knows_schema.ensures tables.is_open tables.office in
    let frame = c.in_ok-answer.ensures.frame in
    stay_after old.now last.now office ((rw begun at (frame.office clean_last)) office) (record {
      same_schema = (rw begun at (frame.same_schema clean_last)) office;
      statistics = (rw begun at (frame.statistics clean_last)) office;
    }) in
    subst (λ v. LeavesStatistics g.S.Store c.args.conn.now v) same
    (left_stay old last (state g.S.Store end) inside c.commit-done.ensures.survives stay)

pub returns-in_err-answer-clause-statistics : goal.returns-in_err-answer-clause-statistics
returns-in_err-answer-clause-statistics g c clean tables is_open = same_if_now _ _ (search rules)

pub returns-in_err-done-clause-statistics : goal.returns-in_err-done-clause-statistics
returns-in_err-done-clause-statistics g c clean tables is_open = same_if_now _ _ (search rules)

pub returns-clause-statistics : goal.returns-clause-statistics
returns-clause-statistics g c clean tables is_open =
    let old = state g.S.Store c.args.conn.now in
    let last = state g.S.Store c.arrive_inside.new.tx.conn.now in
    let end = c.commit-done.new.self.0 in
    let new = state g.S.Store c.conn-2-1.given.0 in
    let same : end ≡ c.conn-2-1.given.0 = search rules in
    let clean_end : HasCleanDisk (state g.S.Store end) =
    subst (λ v. HasCleanDisk (state g.S.Store v)) (sym same) clean in
    let clean_last : HasCleanDisk last = omega (arith, c.commit-done.ensures.survives.clean, clean_end) in
    let begun = c.transaction-tx.ensures.begun in
    let office : IsOffice old.now = c.knows_schema.ensures tables.is_open tables.office in
    let frame = c.in_ok-answer.ensures.frame in
    let now : new.now ≡ last.now = search rules in
    record {
      same_schema = ap (λ (d : Database). d.schema) now ∙ (rw begun at (frame.same_schema clean_last)) office;
      statistics = ap statistics_of now ∙ (rw begun at (frame.statistics clean_last)) office;
    }
