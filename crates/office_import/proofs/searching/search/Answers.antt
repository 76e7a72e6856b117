use Rattle.office_import.proofs.Common.{rules}
use Rattle.std.proofs.lemmas.List.Sorted.{answers_always}
use Rattle.base.proofs.AscendingLists.{searched}
use Rattle.office_import.specs.Searching.{number_by}
use Rattle.office_import.proofs.searching.search.Goals as goal

pub returns : goal.returns
returns g c =
    let facts = c.binary_search_by_key.ensures in
    let by_number = facts.position (number_by g.T.Identified.ident_of)
    (answers_always _ _ _ (λ f a r g called. search rules)) in
    searched (number_by g.T.Identified.ident_of) c.args.things.now c.args.number c.requires _ facts.bound by_number
