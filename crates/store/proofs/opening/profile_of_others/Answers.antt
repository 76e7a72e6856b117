use Rattle.store.proofs.Common.{◌≡◌, refl, not, sym, ap, subst, ◌∙◌, arith, rules, state, HasCleanDisk, survives_begin}
use Rattle.store.proofs.Common.{nothing_left}
use Rattle.store.specs.Making.{StaysWhole}
use Rattle.store.proofs.opening.profile_of_others.Goals as goal

pub returns-clause-stays : goal.returns-clause-stays
returns-clause-stays g c =
    let old = state g.S.Store c.args.conn.now in
    let last = state g.S.Store c.profile_within-rows.new.tx.conn.now in
    let end = c.rollback.new.self.0 in
    let same : end ≡ c.conn-1.given.0 = search rules in
    let begun = c.transaction-tx.ensures.begun in
    let inside = survives_begin g.S.Store c.args.conn.now last (λ _. ⊥)
    (rw begun at c.profile_within-rows.ensures.survives) in
    let survives = nothing_left old last (state g.S.Store end) inside c.rollback.ensures.survives in
    let before = c.is_autocommit-settled.ensures in
    let settled = before.settled (before.value ∙ ap not c.requires) in
    subst (λ v. StaysWhole g.S.Store c.args.conn.now v) same (record {
      same = λ clean still_open.
          let clean_last : HasCleanDisk last = omega (arith, c.rollback.ensures.survives.clean, clean) in
          let undone = c.rollback.ensures.undone clean in
          let back = undone.undone still_open in
          let was_open = undone.was_open still_open in
          let kept = (rw begun at c.profile_within-rows.ensures.kept) refl clean_last in
          let committed = kept.committed was_open in
          (back.0 ∙ committed ∙ sym (settled (kept.was_open was_open)), back.1 ∙ committed);
      survives = survives;
    })
