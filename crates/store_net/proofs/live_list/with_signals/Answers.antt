use Rattle.store_net.proofs.Common.{◌≡◌, subst, IfOk-weaker, state, dbc_number, tables_of, column, AreSignalsOf}
use Rattle.store_net.proofs.Common.{live_rows, one_number}
use Rattle.store_net.specs.SignalParts.{live_in}
use Rattle.store_net.proofs.Bare.{live_shown}
use Rattle.store_net.proofs.live_list.with_signals.Goals as goal

pub returns-clause-found : goal.returns-clause-found
returns-clause-found g c clean office =
    let net = c.args.net.now in
    let s0 = state g.S.Store c.args.tx.now.conn.now in
    let t = tables_of s0.now.trees in
    let number = c.in_ok-number.number in
    let detail = c.args.detail in
    IfOk-weaker c.live_message_of.result _ _
    (λ made one other shown own. (
    let same : dbc_number other.message.ident ≡ number =
    one_number (column c.args.row.now 0) (dbc_number other.message.ident) number shown.number
    c.in_ok-number.ensures in
    one (live_in detail other) (live_shown detail other c.args.row.now shown)
    (c.in_ok-signals.ensures.found clean office other.message.signals
    (subst (λ n. AreSignalsOf net n (live_rows net t) other.message.signals) same own))))
    c.live_message_of.ensures
