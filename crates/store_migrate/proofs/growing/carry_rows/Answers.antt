use Rattle.store_migrate.proofs.Common.{◌∙◌, sym, subst, arith, rules, on_ok_weaker, state, HasCleanDisk, keeps_then}
use Rattle.store_migrate.proofs.Common.{One}
use Rattle.store_tables.specs.Schema.{schema_13}
use Rattle.store_migrate.specs.Forms.{HoldsAsRows}
use Rattle.store_migrate.proofs.Grown.{grown_office, grown_statistics, grown_tables, none_after_13}
use Rattle.store_migrate.proofs.growing.carry_rows.Goals as goal

pub returns-clause-held : goal.returns-clause-held
returns-clause-held g c clean was =
    let s0 = state g.S.Store c.args.tx.now.conn.now in
    let s1 = state g.S.Store c.create_part.new.tx.conn.now in
    let clean1 : HasCleanDisk s1 = omega (arith, c.renew_profile.ensures.frame.survives.clean, clean) in
    let grown = c.in_ok-create_part.ensures.grown clean1 was in
    on_ok_weaker c.renew_profile.result
    (λ held h at. held h (subst (HoldsAsRows One h) (sym (grown_tables schema_13 s0 s1 grown)) at))
    (c.renew_profile.ensures.held clean (grown_office schema_13 s0 s1 grown))

pub returns-clause-frame : goal.returns-clause-frame
returns-clause-frame g c = record {
  same_reference = search rules;
  office = λ clean was.
      let s0 = state g.S.Store c.args.tx.now.conn.now in
      let s1 = state g.S.Store c.create_part.new.tx.conn.now in
      let clean1 : HasCleanDisk s1 = omega (arith, c.renew_profile.ensures.frame.survives.clean, clean) in
      on_ok_weaker c.renew_profile.result (λ made. made.office)
      (c.renew_profile.ensures.renewed clean
      (grown_office schema_13 s0 s1 (c.in_ok-create_part.ensures.grown clean1 was)));
  schema_is = λ clean was.
      let s0 = state g.S.Store c.args.tx.now.conn.now in
      let s1 = state g.S.Store c.create_part.new.tx.conn.now in
      let clean1 : HasCleanDisk s1 = omega (arith, c.renew_profile.ensures.frame.survives.clean, clean) in
      let grown = c.in_ok-create_part.ensures.grown clean1 was in
      on_ok_weaker c.renew_profile.result (λ made. made.same_schema ∙ grown.office.schema_is)
      (c.renew_profile.ensures.renewed clean (grown_office schema_13 s0 s1 grown));
  statistics = λ clean was.
      let s0 = state g.S.Store c.args.tx.now.conn.now in
      let s1 = state g.S.Store c.create_part.new.tx.conn.now in
      let clean1 : HasCleanDisk s1 = omega (arith, c.renew_profile.ensures.frame.survives.clean, clean) in
      let grown = c.in_ok-create_part.ensures.grown clean1 was in
      on_ok_weaker c.renew_profile.result
      (λ made. made.statistics ∙ grown_statistics schema_13 s0 s1 none_after_13 was grown)
      (c.renew_profile.ensures.renewed clean (grown_office schema_13 s0 s1 grown));
  inside = λ clean was.
      let s0 = state g.S.Store c.args.tx.now.conn.now in
      let s1 = state g.S.Store c.create_part.new.tx.conn.now in
      let clean1 : HasCleanDisk s1 = omega (arith, c.renew_profile.ensures.frame.survives.clean, clean) in
      on_ok_weaker c.renew_profile.result (λ made. made.inside)
      (c.renew_profile.ensures.renewed clean
      (grown_office schema_13 s0 s1 (c.in_ok-create_part.ensures.grown clean1 was)));
  kept = λ clean was.
      let s0 = state g.S.Store c.args.tx.now.conn.now in
      let s1 = state g.S.Store c.create_part.new.tx.conn.now in
      let s2 = state g.S.Store c.renew_profile.new.tx.conn.now in
      let clean1 : HasCleanDisk s1 = omega (arith, c.renew_profile.ensures.frame.survives.clean, clean) in
      keeps_then s0 s1 s2 (c.create_part.ensures.frame.kept clean1) (c.renew_profile.ensures.frame.kept clean);
  survives = search rules;
}
