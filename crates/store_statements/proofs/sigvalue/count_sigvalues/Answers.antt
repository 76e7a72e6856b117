use Rattle.store_statements.proofs.SigvalueTexts.{counted_sigvalues, count_plain}
use Rattle.store_statements.proofs.Texts.{shows}
use Rattle.store_statements.proofs.sigvalue.count_sigvalues.Goals as goal

pub returns : goal.returns
returns g c =
    let both = shows g.S.Store c.args.tx.now c.query_all.new.self (λ rows. rows.items) c.query_all.result _ _ _
    (counted_sigvalues (λ rows. rows.items) c.args.net.now) count_plain c.query_all.ensures.same_reference
    c.query_all.ensures.ok c.query_all.ensures.err c.query_all.ensures.survives in
    record { found = both.0; frame = both.1 }
