use Rattle.store_changes.proofs.Common.{◌∙◌, not, filter, List, ap, arith, state, Row, HasCleanDisk, Tables}
use Rattle.store_changes.proofs.Common.{has_place_of}
use Rattle.store_changes.proofs.one_signal.remove_place.Goals as goal

pub returns-clause-removed : goal.returns-clause-removed
returns-clause-removed g c clean was =
    let s1 = state g.S.Store c.delete_sig_at.new.tx.conn.now in
    let s2 = state g.S.Store c.delete_receivers_at.new.tx.conn.now in
    let clean2 : HasCleanDisk s2 = omega (arith, c.delete_sigvalues_at.ensures.frame.survives.clean, clean) in
    let clean1 : HasCleanDisk s1 = omega (arith, c.delete_receivers_at.ensures.frame.survives.clean, clean2) in
    let m1 = c.in_ok-delete_sig_at.ensures.removed clean1 was in
    let m2 = c.in_ok-delete_receivers_at.ensures.removed clean2 m1.office in
    let m3 = c.in_ok-delete_sigvalues_at.ensures.removed clean m2.office in
    let left : List Row → List Row =
    λ rows. filter (λ row. not (has_place_of c.args.net.now c.args.number c.args.place row)) rows in
    record {
      office = m3.office;
      tables_are =
          m3.tables_are ∙ ap (λ (t : Tables). record t { sigvalue = left t.sigvalue }) m2.tables_are
          ∙ ap (λ (t : Tables). record t { receiver = left t.receiver; sigvalue = left t.sigvalue }) m1.tables_are;
      same_schema = m3.same_schema ∙ m2.same_schema ∙ m1.same_schema;
      statistics = m3.statistics ∙ m2.statistics ∙ m1.statistics;
      committed = m3.committed ∙ m2.committed ∙ m1.committed;
      inside = m3.inside;
      was_open = m1.was_open;
      is_open = m3.is_open;
    }
