use Rattle.page_changes.proofs.Common.{rules, answers_always}
use Rattle.base.proofs.AscendingLists.{searched}
use Rattle.page_changes.specs.Changes.{rank_of_change}
use Rattle.page_changes.proofs.changes.search.Goals as goal

pub returns-clause-found : goal.returns-clause-found
returns-clause-found c sorted =
    let facts = c.binary_search_by_key.ensures in
    let by_key = facts.position rank_of_change (answers_always _ _ _ (λ f a r g called. search rules)) in
    (searched rank_of_change c.args.messages.now c.args.rank sorted _ facts.bound by_key).found

pub returns-clause-absent : goal.returns-clause-absent
returns-clause-absent c sorted =
    let facts = c.binary_search_by_key.ensures in
    let by_key = facts.position rank_of_change (answers_always _ _ _ (λ f a r g called. search rules)) in
    (searched rank_of_change c.args.messages.now c.args.rank sorted _ facts.bound by_key).absent
