use Rattle.page_numbers.proofs.Common.{take, flat_map, Becomes, adding, names_of}
use Rattle.page_numbers.specs.Counts.{known_in}
use Rattle.page_numbers.specs.Left.{form_row, forms}
use Rattle.page_numbers.proofs.left.put_team.Given as goal

abbrev pub invariant-loop-form : goal.invariant-loop-form
invariant-loop-form l =
    Becomes l.page
    (adding (flat_map (form_row (known_in l.numbers) l.subject.blocks.now (names_of l.subject) l.team)
    (take l.form-index forms)) l.initial.page)
