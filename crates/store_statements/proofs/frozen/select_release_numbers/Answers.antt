use Rattle.store_statements.proofs.FrozenTexts.{release_numbers_found, release_numbers_plain}
use Rattle.store_statements.proofs.Texts.{shows}
use Rattle.store_statements.proofs.frozen.select_release_numbers.Goals as goal

pub returns : goal.returns
returns g c =
    let both = shows g.S.Store c.args.tx.now c.query_all.new.self (λ rows. rows.items) c.query_all.result _ _ _
    (release_numbers_found (λ rows. rows.items) c.args.net.now) release_numbers_plain c.query_all.ensures.same_reference
    c.query_all.ensures.ok c.query_all.ensures.err c.query_all.ensures.survives in
    record { found = both.0; frame = both.1 }
