use Rattle.office_import.proofs.Common.{rules, ◌∙◌}
use Rattle.std.proofs.lemmas.Fn.{always_returns_same}
use Rattle.office_import.specs.Rising.{side}
use Rattle.office_import.proofs.Sides.{searched}
use Rattle.office_import.proofs.numbers.search.Goals as goal

pub returns : goal.returns
returns c =
    let facts = c.binary_search_by.ensures in
    c.is_ok.ensures.value
    ∙ searched c.args.number c.args.blocks.now _ c.requires facts.bound
    (facts.position (side c.args.number) (always_returns_same _ _ _ (λ a r g called. (search rules, search rules))))
