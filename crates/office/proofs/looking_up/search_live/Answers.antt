use Rattle.office.proofs.Common.{rules, answers_always, searched}
use Rattle.office.specs.Indexed.{live_number}
use Rattle.office.proofs.looking_up.search_live.Goals as goal

pub returns : goal.returns
returns c =
    let facts = c.binary_search_by_key.ensures in
    let by_key = facts.position live_number (answers_always _ _ _ (λ f a r g called. search rules)) in
    searched live_number c.args.live.now c.args.number c.requires _ facts.bound by_key
