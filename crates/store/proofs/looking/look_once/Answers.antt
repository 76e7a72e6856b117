use Rattle.store.proofs.Common.{◌≡◌, inl, inr, false, not, sym, ap, subst, ◌∙◌, arith, rules, IsTrue, IfOk-weaker}
use Rattle.store.proofs.Common.{Database, Held, state, HasCleanDisk, survives_begin, nothing_left, IsOffice}
use Rattle.store.specs.Calls.{OnlyLooks}
use Rattle.store.proofs.looking.look_once.Goals as goal

pub returns-clause-found : goal.returns-clause-found
returns-clause-found g c clean h holds =
    let old = state g.S.Store c.args.conn.now in
    let last = state g.S.Store c.look_inside-text.new.tx.conn.now in
    let end = c.rollback.new.self.0 in
    let same : end ≡ c.conn-1.given.0 = search rules in
    let clean_end : HasCleanDisk (state g.S.Store end) =
    subst (λ v. HasCleanDisk (state g.S.Store v)) (sym same) clean in
    let clean_last : HasCleanDisk last = omega (arith, c.rollback.ensures.survives.clean, clean_end) in
    let begun = c.transaction-tx.ensures.begun in
    let office : IsOffice old.now = c.knows_schema.ensures holds.is_open holds.keeps.office in
    IfOk-weaker c.look_inside-text.result _ _ (λ text shown. shown h holds.keeps.holds)
    ((rw begun at (c.look_inside-text.ensures.found clean_last)) office)

pub returns-clause-known : goal.returns-clause-known
returns-clause-known g c clean tables =
    let old = state g.S.Store c.args.conn.now in
    let last = state g.S.Store c.look_inside-text.new.tx.conn.now in
    let end = c.rollback.new.self.0 in
    let same : end ≡ c.conn-1.given.0 = search rules in
    let clean_end : HasCleanDisk (state g.S.Store end) =
    subst (λ v. HasCleanDisk (state g.S.Store v)) (sym same) clean in
    let clean_last : HasCleanDisk last = omega (arith, c.rollback.ensures.survives.clean, clean_end) in
    let begun = c.transaction-tx.ensures.begun in
    let office : IsOffice old.now = c.knows_schema.ensures tables.is_open tables.office in
    (rw begun at (c.look_inside-text.ensures.known clean_last)) office

pub returns-clause-frame : goal.returns-clause-frame
returns-clause-frame g c =
    let old = state g.S.Store c.args.conn.now in
    let last = state g.S.Store c.look_inside-text.new.tx.conn.now in
    let end = c.rollback.new.self.0 in
    let same : end ≡ c.conn-1.given.0 = search rules in
    let begun = c.transaction-tx.ensures.begun in
    let inside = survives_begin g.S.Store c.args.conn.now last (λ _. ⊥)
    (rw begun at c.look_inside-text.ensures.frame.survives) in
    let survives = nothing_left old last (state g.S.Store end) inside
    c.rollback.ensures.survives in
    let before = c.is_autocommit-settled_before.ensures in
    let after = c.is_autocommit-settled.ensures in
    let settled = before.settled (before.value ∙ ap not c.requires) in
    let settled_after = subst (λ (v : Held _). IsTrue (state g.S.Store v).is_open
    → (state g.S.Store v).now ≡ (state g.S.Store v).committed) (sym same)
    (after.settled (after.value ∙ ap not
    (subst (λ (v : Held _). v.in_transaction ≡ false) same c.rollback.ensures.ended))) in
    let may_leave = subst (λ (v : Held _). IsTrue (state g.S.Store v).is_open
    → (state g.S.Store v).may_leave (state g.S.Store v).committed.trees) (sym same) c.may_leave_committed.ensures in
    subst (λ v. OnlyLooks g.S.Store c.args.conn.now v) same (record {
      autocommit = c.rollback.ensures.ended;
      still = λ clean was_open still_open.
          let settled_end = settled_after still_open in
          elim (survives.crash clean _ (may_leave still_open)) [
            | inl was ↦ ap (λ (d : Database). d.trees) settled_end ∙ c.leaves_committed.ensures was_open _ was
                ∙ sym (ap (λ (d : Database). d.trees) (settled was_open))
            | inr never ↦ absurd never
          ];
      same = λ clean tables still_open.
          let clean_last : HasCleanDisk last = omega (arith, c.rollback.ensures.survives.clean, clean) in
          let office : IsOffice old.now = c.knows_schema.ensures tables.is_open tables.office in
          let undone = c.rollback.ensures.undone clean in
          let back = undone.undone still_open in
          let kept = (rw begun at (c.look_inside-text.ensures.frame.kept clean_last)) office in
          let committed = kept.committed (undone.was_open still_open) in
          (back.0 ∙ committed ∙ sym (settled tables.is_open), back.1 ∙ committed);
      survives = survives;
    })
