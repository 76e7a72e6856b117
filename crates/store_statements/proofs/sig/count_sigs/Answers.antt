use Rattle.store_statements.proofs.SigTexts.{counted_sigs, count_plain}
use Rattle.store_statements.proofs.Texts.{shows}
use Rattle.store_statements.proofs.sig.count_sigs.Goals as goal

pub returns : goal.returns
returns g c =
    let both = shows g.S.Store c.args.tx.now c.query_all.new.self (λ rows. rows.items) c.query_all.result _ _ _
    (counted_sigs (λ rows. rows.items) c.args.net.now) count_plain c.query_all.ensures.same_reference
    c.query_all.ensures.ok c.query_all.ensures.err c.query_all.ensures.survives in
    record { found = both.0; frame = both.1 }
