use Rattle.std.proofs.lemmas.Map.Keys.{sorted_from_strictly_increasing}
use Rattle.base.proofs.AscendingLists.{searched}
use Rattle.office_facts.proofs.NumberSets.{itself}
use Rattle.office_facts.proofs.number_set.search.Goals as goal

pub returns : goal.returns
returns c =
    let xs = c.args.numbers.now in
    searched itself xs c.args.number (sorted_from_strictly_increasing xs c.requires) _ c.binary_search.ensures.bound
    c.binary_search.ensures.position
