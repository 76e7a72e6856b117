use Rattle.store_migrate.proofs.Common.{◌∙◌, sym, subst, arith, rules, on_ok_weaker, state, HasCleanDisk, keeps_then}
use Rattle.store_tables.specs.Schema.{schema_9}
use Rattle.store_migrate.specs.Forms.{HoldsAsBodies}
use Rattle.store_migrate.proofs.Grown.{grown_office, grown_statistics, grown_tables, none_after_9}
use Rattle.store_migrate.proofs.growing.carry_bodies.Goals as goal

pub returns-clause-held : goal.returns-clause-held
returns-clause-held g c clean was =
    let s0 = state g.S.Store c.args.tx.now.conn.now in
    let s1 = state g.S.Store c.make_live_tables.new.tx.conn.now in
    let clean1 : HasCleanDisk s1 = omega (arith, c.carry_over.ensures.frame.survives.clean, clean) in
    let grown = c.in_ok-make_live_tables.ensures.grown clean1 was in
    on_ok_weaker c.carry_over.result
    (λ held h at. held h (subst (HoldsAsBodies h) (sym (grown_tables schema_9 s0 s1 grown)) at))
    (c.carry_over.ensures.held clean (grown_office schema_9 s0 s1 grown))

pub returns-clause-frame : goal.returns-clause-frame
returns-clause-frame g c = record {
  same_reference = search rules;
  office = λ clean was.
      let s0 = state g.S.Store c.args.tx.now.conn.now in
      let s1 = state g.S.Store c.make_live_tables.new.tx.conn.now in
      let clean1 : HasCleanDisk s1 = omega (arith, c.carry_over.ensures.frame.survives.clean, clean) in
      c.carry_over.ensures.frame.office clean
      (grown_office schema_9 s0 s1 (c.in_ok-make_live_tables.ensures.grown clean1 was));
  schema_is = λ clean was.
      let s0 = state g.S.Store c.args.tx.now.conn.now in
      let s1 = state g.S.Store c.make_live_tables.new.tx.conn.now in
      let clean1 : HasCleanDisk s1 = omega (arith, c.carry_over.ensures.frame.survives.clean, clean) in
      let grown = c.in_ok-make_live_tables.ensures.grown clean1 was in
      on_ok_weaker c.carry_over.result (λ same. same ∙ grown.office.schema_is)
      (c.carry_over.ensures.frame.same_schema clean (grown_office schema_9 s0 s1 grown));
  statistics = λ clean was.
      let s0 = state g.S.Store c.args.tx.now.conn.now in
      let s1 = state g.S.Store c.make_live_tables.new.tx.conn.now in
      let clean1 : HasCleanDisk s1 = omega (arith, c.carry_over.ensures.frame.survives.clean, clean) in
      let grown = c.in_ok-make_live_tables.ensures.grown clean1 was in
      on_ok_weaker c.carry_over.result (λ same. same ∙ grown_statistics schema_9 s0 s1 none_after_9 was grown)
      (c.carry_over.ensures.frame.statistics clean (grown_office schema_9 s0 s1 grown));
  inside = λ clean was.
      let s0 = state g.S.Store c.args.tx.now.conn.now in
      let s1 = state g.S.Store c.make_live_tables.new.tx.conn.now in
      let clean1 : HasCleanDisk s1 = omega (arith, c.carry_over.ensures.frame.survives.clean, clean) in
      c.carry_over.ensures.frame.inside clean
      (grown_office schema_9 s0 s1 (c.in_ok-make_live_tables.ensures.grown clean1 was));
  kept = λ clean was.
      let s0 = state g.S.Store c.args.tx.now.conn.now in
      let s1 = state g.S.Store c.make_live_tables.new.tx.conn.now in
      let s2 = state g.S.Store c.carry_over.new.tx.conn.now in
      let clean1 : HasCleanDisk s1 = omega (arith, c.carry_over.ensures.frame.survives.clean, clean) in
      keeps_then s0 s1 s2 (c.make_live_tables.ensures.frame.kept clean1)
      (c.carry_over.ensures.frame.kept clean
      (grown_office schema_9 s0 s1 (c.in_ok-make_live_tables.ensures.grown clean1 was)));
  survives = search rules;
}
