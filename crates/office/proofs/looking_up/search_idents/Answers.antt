use Rattle.office.proofs.Common.{rules, answers_always, searched, dbc_number}
use Rattle.office.proofs.looking_up.search_idents.Goals as goal

pub returns : goal.returns
returns c =
    let facts = c.binary_search_by_key.ensures in
    let by_key = facts.position dbc_number (answers_always _ _ _ (λ f a r g called. search rules)) in
    searched dbc_number c.args.idents.now c.args.number c.requires _ facts.bound by_key
