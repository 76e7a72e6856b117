use Rattle.store_statements.proofs.NetTexts.{net_names_found, net_names_plain}
use Rattle.store_statements.proofs.Texts.{shows}
use Rattle.store_statements.proofs.net.select_net_names.Goals as goal

pub returns : goal.returns
returns g c =
    let both = shows g.S.Store c.args.tx.now c.query_all.new.self (λ rows. rows.items) c.query_all.result _ _ _
    (net_names_found (λ rows. rows.items)) net_names_plain c.query_all.ensures.same_reference c.query_all.ensures.ok
    c.query_all.ensures.err c.query_all.ensures.survives in
    record { found = both.0; frame = both.1 }
