use Rattle.office_import.proofs.Common.{◌≡◌, ◌+◌, ◌-◌, ap, sym, take, drop, arith, ◌∙◌, list_any}
use Rattle.office_import.specs.Searching.{number_by}
use Rattle.office_facts.proofs.Searched.{gap_passes, passes_at}
use Rattle.office_import.proofs.searching.Searching.of_number.Goals as goal

pub returns-in-Ok : goal.returns-in-Ok
returns-in-Ok g c = λ test of_number.
    let xs = c.self.inside.things.now in
    let at = c.in-Ok.at in
    let one : at + 1 - at ≡ 1 = omega arith in
    ap (λ k. list_any test (take k (drop at xs))) one
    ∙ passes_at (number_by g.T.Identified.ident_of) test c.args.number of_number xs at c.in-Ok.ensures.found
    ∙ ap (list_any test) c.self.view_is

pub returns-in-Err : goal.returns-in-Err
returns-in-Err g c = λ test of_number.
    sym (gap_passes (number_by g.T.Identified.ident_of) test c.args.number of_number c.self.inside.things.now
    c.in-Err.field-0 c.in-Err.ensures.absent)
    ∙ ap (list_any test) c.self.view_is
