use Rattle.store_statements.proofs.SigTexts.{last_place_found, last_place_plain}
use Rattle.store_statements.proofs.Texts.{shows}
use Rattle.store_statements.proofs.sig.select_last_place.Goals as goal

pub returns : goal.returns
returns g c =
    let both = shows g.S.Store c.args.tx.now c.query_all.new.self (λ rows. rows.items) c.query_all.result _ _ _
    (last_place_found (λ rows. rows.items) c.args.net.now c.args.number) last_place_plain
    c.query_all.ensures.same_reference (rw c.to_sql.ensures at c.query_all.ensures.ok)
    (rw c.to_sql.ensures at c.query_all.ensures.err) c.query_all.ensures.survives in
    record { found = both.0; frame = both.1 }
