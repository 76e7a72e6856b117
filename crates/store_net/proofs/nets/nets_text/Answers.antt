use Rattle.store_net.proofs.Common.{◌≡◌, sym, subst, ◌∙◌, arith, rules, IfOk-weaker, on_ok_weaker, Database, state}
use Rattle.store_net.proofs.Common.{HasCleanDisk, unchanged_then, IsOffice, tables_of}
use Rattle.store_net.specs.Nets.{AreNets}
use Rattle.store_net.proofs.Names.{each_at, known_nets}
use Rattle.store_net.proofs.nets.nets_text.Goals as goal

pub returns-clause-found : goal.returns-clause-found
returns-clause-found g c clean office =
    let s0 = state g.S.Store c.args.tx.now.conn.now in
    let s1 = state g.S.Store c.names_of.new.tx.conn.now in
    let clean1 : HasCleanDisk s1 = omega (arith, c.lines_at.ensures.frame.survives.clean, clean) in
    let now1 : s1.now ≡ s0.now = (c.in_ok-names.ensures.frame.same clean1 office).0.now_is in
    let office1 : IsOffice s1.now = subst IsOffice (sym now1) office in
    IfOk-weaker c.lines_at.result _ _
    (λ text one nets are. one nets
    (each_at (tables_of s1.now.trees) nets
    (subst (λ (d : Database). AreNets (tables_of d.trees) nets) (sym now1) are))
    (c.deref.ensures.value ∙ c.in_ok-names.ensures.found clean1 office nets
    (known_nets (tables_of s0.now.trees) nets are)))
    (c.lines_at.ensures.found clean office1)

pub returns-clause-frame : goal.returns-clause-frame
returns-clause-frame g c = record {
  same_reference = search rules;
  same = λ clean office.
      let s0 = state g.S.Store c.args.tx.now.conn.now in
      let s1 = state g.S.Store c.names_of.new.tx.conn.now in
      let s2 = state g.S.Store c.lines_at.new.tx.conn.now in
      let clean1 : HasCleanDisk s1 = omega (arith, c.lines_at.ensures.frame.survives.clean, clean) in
      let first = c.in_ok-names.ensures.frame.same clean1 office in
      let office1 : IsOffice s1.now = subst IsOffice (sym first.0.now_is) office in
      on_ok_weaker c.lines_at.result (λ second. unchanged_then s0 s1 s2 first second)
      (c.lines_at.ensures.frame.same clean office1 first.0.is_open);
  kept = search rules;
  survives = search rules;
}
