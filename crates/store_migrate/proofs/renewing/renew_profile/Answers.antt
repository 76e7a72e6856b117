use Rattle.store_migrate.proofs.Common.{◌∙◌, List, ap, arith, state, Row, HasCleanDisk, put_row, Tables, tables_of}
use Rattle.store_migrate.proofs.Common.{mark_row}
use Rattle.store_migrate.proofs.AllCarried.{held_renewed, marks_put}
use Rattle.store_migrate.proofs.renewing.renew_profile.Goals as goal

pub returns-clause-renewed : goal.returns-clause-renewed
returns-clause-renewed g c clean was =
    let s1 = state g.S.Store c.clear_profile.new.tx.conn.now in
    let s2 = state g.S.Store c.insert_profile.new.tx.conn.now in
    let clean2 : HasCleanDisk s2 = omega (arith, c.insert_profile-2.ensures.frame.survives.clean, clean) in
    let clean1 : HasCleanDisk s1 = omega (arith, c.insert_profile.ensures.frame.survives.clean, clean2) in
    let m1 = c.in_ok-clear_profile.ensures.removed clean1 was in
    let m2 = c.in_ok-insert_profile.ensures.added clean2 m1.office in
    let m3 = c.in_ok-insert_profile-2.ensures.added clean m2.office in
    record {
      office = m3.office;
      same_schema = m3.same_schema ∙ m2.same_schema ∙ m1.same_schema;
      statistics = m3.statistics ∙ m2.statistics ∙ m1.statistics;
      tables_are =
          m3.tables_are ∙ ap (λ (t : Tables). record t { profile = put_row (mark_row 2 2) t.profile }) m2.tables_are
          ∙ ap (λ (t : Tables). record t { profile = put_row (mark_row 2 2) (put_row (mark_row 1 2) t.profile) })
          m1.tables_are
          ∙ ap (λ (rows : List Row). record (tables_of (state g.S.Store c.args.tx.now.conn.now).now.trees)
          { profile = rows }) marks_put;
      committed = m3.committed ∙ m2.committed ∙ m1.committed;
      inside = m3.inside;
      was_open = m1.was_open;
      is_open = m3.is_open;
    }

pub returns-clause-held : goal.returns-clause-held
returns-clause-held g c clean was h = held_renewed h _ _ (returns-clause-renewed g c clean was).tables_are
