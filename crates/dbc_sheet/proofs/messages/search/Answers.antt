use Rattle.dbc_sheet.proofs.Common.{rules}
use Rattle.std.proofs.lemmas.List.Sorted.{answers_always}
use Rattle.base.proofs.AscendingLists.{searched}
use Rattle.dbc_sheet.specs.Messages.{number_of}
use Rattle.dbc_sheet.proofs.messages.search.Goals as goal

pub returns : goal.returns
returns c =
    let facts = c.binary_search_by_key.ensures in
    let by_key = facts.position number_of (answers_always _ _ _ (λ f a r g called. search rules)) in
    searched number_of c.args.messages.now c.args.number c.requires _ facts.bound by_key
