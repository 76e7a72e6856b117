use Rattle.store_net.proofs.Common.{◌≡◌, sym, subst, ◌∙◌, arith, rules, IfOk-weaker, on_ok_weaker, Database, state}
use Rattle.store_net.proofs.Common.{HasCleanDisk, unchanged_then, IsOffice, tables_of, IsNetAt}
use Rattle.store_net.proofs.LastRelease.{all_taken}
use Rattle.store_net.proofs.releases.release_texts_at.Goals as goal

pub returns-in-Ok-clause-found : goal.returns-in-Ok-clause-found
returns-in-Ok-clause-found g c clean office =
    let name = c.args.name.now in
    let s0 = state g.S.Store c.args.tx.now.conn.now in
    let s1 = state g.S.Store c.release_count.new.tx.conn.now in
    let clean1 : HasCleanDisk s1 = omega (arith, c.releases_to.ensures.frame.survives.clean, clean) in
    let now1 : s1.now ≡ s0.now = (c.in_ok-count.ensures.frame.same clean1 office).0.now_is in
    let office1 : IsOffice s1.now = subst IsOffice (sym now1) office in
    let last : c.in-Ok.last ≡ c.in_ok-count.count = search rules in
    IfOk-weaker c.releases_to.result _ _
    (λ sheets are net there.
    are net (subst (λ (d : Database). IsNetAt name (tables_of d.trees) net) (sym now1) there)
    ∙ all_taken net c.in-Ok.last (λ n is. last ∙ c.in_ok-count.ensures.found clean1 office n
    (subst (IsNetAt name (tables_of s0.now.trees)) is there)))
    (c.releases_to.ensures.found clean office1)

pub returns-in-Ok-clause-frame : goal.returns-in-Ok-clause-frame
returns-in-Ok-clause-frame g c = record {
  same_reference = search rules;
  same = λ clean office.
      let s0 = state g.S.Store c.args.tx.now.conn.now in
      let s1 = state g.S.Store c.release_count.new.tx.conn.now in
      let s2 = state g.S.Store c.releases_to.new.tx.conn.now in
      let clean1 : HasCleanDisk s1 = omega (arith, c.releases_to.ensures.frame.survives.clean, clean) in
      let first = c.in_ok-count.ensures.frame.same clean1 office in
      let office1 : IsOffice s1.now = subst IsOffice (sym first.0.now_is) office in
      on_ok_weaker c.releases_to.result (λ second. unchanged_then s0 s1 s2 first second)
      (c.releases_to.ensures.frame.same clean office1 first.0.is_open);
  kept = search rules;
  survives = search rules;
}
