use Rattle.store_changes.proofs.Common.{◌∙◌, ◌++◌, ap, arith, on_ok_weaker, state, column, HasCleanDisk, Tables}
use Rattle.store_changes.proofs.Common.{tables_of, value_rows, one_number}
use Rattle.store_changes.proofs.SetSignals.{one_described}
use Rattle.store_changes.proofs.one_signal.set_row_values.Goals as goal

pub returns-clause-written : goal.returns-clause-written
returns-clause-written g c clean office =
    let s1 = state g.S.Store c.delete_sigvalues_at.new.tx.conn.now in
    let clean1 : HasCleanDisk s1 = omega (arith, c.write_values.ensures.frame.survives.clean, clean) in
    let gone = c.in_ok-delete_sigvalues_at.ensures.removed clean1 office in
    let t = tables_of (state g.S.Store c.args.tx.now.conn.now).now.trees in
    let net = c.args.net.now in
    let number = c.args.number in
    let place = c.in_ok-place.place in
    let values = c.args.values.now in
    on_ok_weaker c.write_values.result (λ made q shows.
    made ∙ ap (λ (u : Tables). record u { sigvalue = u.sigvalue ++ value_rows net number place 0 values })
    gone.tables_are
    ∙ one_described net number values q place t
    (one_number (column c.args.row.now 0) place q.0 c.in_ok-place.ensures shows.place))
    (c.write_values.ensures.written clean gone.office)
