use Rattle.store_net.proofs.Common.{◌≡◌, ◌∙◌, filter, length, IfOk-weaker, state, tables_of, is_of_net}
use Rattle.store_net.proofs.HeadsShown.{rows_counted}
use Rattle.store_net.proofs.heads.count_at.Goals as goal

pub returns-clause-found : goal.returns-clause-found
returns-clause-found g c clean office =
    let name = c.args.name.now in
    let t = tables_of (state g.S.Store c.args.tx.now.conn.now).now.trees in
    let many = length (filter (is_of_net name) t.msg) in
    IfOk-weaker c.count_shown.result (λ n. n ≡ many) _ (λ n is live h. is ∙ rows_counted name t live h)
    (c.count_shown.ensures many
    (c.deref.ensures.value ∙ (rw c.as_bytes.ensures.bytes at (c.in_ok-rows.ensures.found clean office))))
