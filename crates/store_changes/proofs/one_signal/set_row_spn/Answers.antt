use Rattle.store_changes.proofs.Common.{◌≡◌, ◌∙◌, [], ◌∷◌, ◌++◌, refl, ap, arith, on_ok_weaker, Signal, state, column}
use Rattle.store_changes.proofs.Common.{HasCleanDisk, Tables, tables_of, sig_values, one_number}
use Rattle.store_rows.specs.Live.{bare_signal}
use Rattle.store_rows.proofs.PartShown.{one_shown}
use Rattle.store_changes.proofs.SetSignals.{one_numbered}
use Rattle.store_changes.proofs.one_signal.set_row_spn.Goals as goal

pub returns-clause-written : goal.returns-clause-written
returns-clause-written g c clean office =
    let s1 = state g.S.Store c.delete_sig_at.new.tx.conn.now in
    let clean1 : HasCleanDisk s1 = omega (arith, c.write_sig.ensures.frame.survives.clean, clean) in
    let gone = c.in_ok-delete_sig_at.ensures.removed clean1 office in
    let t = tables_of (state g.S.Store c.args.tx.now.conn.now).now.trees in
    let net = c.args.net.now in
    let number = c.args.number in
    let n = c.args.spn in
    let place = c.in_ok-place.place in
    let signal = c.in_ok-signal.signal in
    let given = c.spn-signal.result in
    let row = sig_values net number place (record signal { spn = given }) in
    on_ok_weaker c.write_sig.result (λ made q shows.
    let same : place ≡ q.0 = one_number (column c.args.row.now 0) place q.0 c.in_ok-place.ensures shows.place in
    let signal_is : signal ≡ bare_signal q.1 =
    c.in_ok-signal.ensures (bare_signal q.1)
    (one_shown bare_signal (λ s. refl) q c.args.row.now shows).signal c.new.ensures
    c.empty.ensures in
    let row_is : row ≡ sig_values net number q.0 (record q.1 { spn = n }) =
    ap (λ (s : Signal). sig_values net number place (record s { spn = given })) signal_is
    ∙ ap (λ k. sig_values net number place (record q.1 { spn = k })) c.spn-signal.ensures
    ∙ ap (λ k. sig_values net number k (record q.1 { spn = n })) same in
    made.tables_are ∙ ap (λ (u : Tables). record u { sig = u.sig ++ row ∷ [] }) gone.tables_are
    ∙ one_numbered net number n q place row t same row_is)
    (c.write_sig.ensures.written clean gone.office)
