use Rattle.store_net.proofs.Common.{Some, sym, ap, ◌∙◌, option_map, state, message_chart, LiveMessage, tables_of}
use Rattle.store_net.proofs.LiveSheet.{charted}
use Rattle.store_net.proofs.live.live_chart.Goals as goal

pub returns-in-None-clause-found : goal.returns-in-None-clause-found
returns-in-None-clause-found g c clean office net there =
    ap (option_map (λ (m : LiveMessage). message_chart m.message)) (sym c.in-None.is)
    ∙ charted c.args.name.now c.args.message.now (tables_of (state g.S.Store c.args.tx.now.conn.now).now.trees) net _
    there (c.in_ok-message_at.ensures.found clean office)

pub returns-in_ok-message_chart-in-Some-clause-found : goal.returns-in_ok-message_chart-in-Some-clause-found
returns-in_ok-message_chart-in-Some-clause-found g c clean office net there =
    ap Some c.in_ok-message_chart-in-Some.ensures
    ∙ ap (option_map (λ (m : LiveMessage). message_chart m.message)) (sym c.in-Some.is)
    ∙ charted c.args.name.now c.args.message.now (tables_of (state g.S.Store c.args.tx.now.conn.now).now.trees) net _
    there (c.in_ok-message_at.ensures.found clean office)
