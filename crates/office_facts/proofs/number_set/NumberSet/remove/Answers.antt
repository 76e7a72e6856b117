use Rattle.std.proofs.Common.{◌∙◌, ap, subst}
use Rattle.std.specs.List.{remove}
use Rattle.base.specs.Ascending.{IsAt, IsGap}
use Rattle.base.proofs.AscendingLists.{any_gap}
use Rattle.office_types.specs.Free.{is_taken}
use Rattle.office_facts.proofs.NumberSets.{itself, taken-absent, taken-remove}
use Rattle.office_facts.proofs.number_set.NumberSet.remove.Goals as goal

pub returns-in-Ok : goal.returns-in-Ok
returns-in-Ok c = λ m.
    let n = c.args.number in
    let i = c.in-Ok.index in
    let at = subst (λ xs. IsAt itself xs n i) (c.deref.ensures.value ∙ c.self.view_is) c.in-Ok.ensures.found in
    ap (is_taken m) (c.remove.ensures.items ∙ ap (λ xs. remove xs i) c.self.view_is)
    ∙ taken-remove c.args.self.now n i m at

pub returns-in-Err : goal.returns-in-Err
returns-in-Err c = λ m.
    let n = c.args.number in
    let i = c.in-Err.field-0 in
    let gap = subst (λ xs. IsGap itself xs n i) (c.deref.ensures.value ∙ c.self.view_is) c.in-Err.ensures.absent in
    taken-absent c.args.self.now n m (any_gap itself c.args.self.now n i gap)
