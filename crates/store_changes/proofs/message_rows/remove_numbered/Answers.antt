use Rattle.store_changes.proofs.Common.{◌∙◌, not, filter, List, ap, arith, state, Row, HasCleanDisk, Tables}
use Rattle.store_changes.proofs.Common.{has_net_and_number}
use Rattle.store_changes.proofs.message_rows.remove_numbered.Goals as goal

pub returns-clause-removed : goal.returns-clause-removed
returns-clause-removed g c clean was =
    let s1 = state g.S.Store c.delete_msgs.new.tx.conn.now in
    let s2 = state g.S.Store c.delete_sigs.new.tx.conn.now in
    let s3 = state g.S.Store c.delete_receivers.new.tx.conn.now in
    let clean3 : HasCleanDisk s3 = omega (arith, c.delete_sigvalues.ensures.frame.survives.clean, clean) in
    let clean2 : HasCleanDisk s2 = omega (arith, c.delete_receivers.ensures.frame.survives.clean, clean3) in
    let clean1 : HasCleanDisk s1 = omega (arith, c.delete_sigs.ensures.frame.survives.clean, clean2) in
    let m1 = c.in_ok-delete_msgs.ensures.removed clean1 was in
    let m2 = c.in_ok-delete_sigs.ensures.removed clean2 m1.office in
    let m3 = c.in_ok-delete_receivers.ensures.removed clean3 m2.office in
    let m4 = c.in_ok-delete_sigvalues.ensures.removed clean m3.office in
    let left : List Row → List Row = λ rows. filter (λ row. not (has_net_and_number c.args.net.now c.args.number row))
    rows in
    record {
      office = m4.office;
      tables_are =
          m4.tables_are ∙ ap (λ (t : Tables). record t { sigvalue = left t.sigvalue }) m3.tables_are
          ∙ ap (λ (t : Tables). record t { receiver = left t.receiver; sigvalue = left t.sigvalue }) m2.tables_are
          ∙ ap (λ (t : Tables). record t { sig = left t.sig; receiver = left t.receiver; sigvalue = left t.sigvalue })
          m1.tables_are;
      same_schema = m4.same_schema ∙ m3.same_schema ∙ m2.same_schema ∙ m1.same_schema;
      statistics = m4.statistics ∙ m3.statistics ∙ m2.statistics ∙ m1.statistics;
      committed = m4.committed ∙ m3.committed ∙ m2.committed ∙ m1.committed;
      inside = m4.inside;
      was_open = m1.was_open;
      is_open = m4.is_open;
    }
