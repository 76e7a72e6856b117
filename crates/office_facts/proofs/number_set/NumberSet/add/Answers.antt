use Rattle.std.proofs.Common.{◌∙◌, ap, subst}
use Rattle.std.specs.List.{insert}
use Rattle.base.specs.Ascending.{IsAt}
use Rattle.office_types.specs.Free.{is_taken}
use Rattle.office_facts.proofs.NumberSets.{itself, taken-again, taken-insert}
use Rattle.office_facts.proofs.number_set.NumberSet.add.Goals as goal

pub returns-in-Ok-clause-ok : goal.returns-in-Ok-clause-ok
returns-in-Ok-clause-ok c =
    let n = c.args.number in
    let i = c.in-Ok.field-0 in
    let at = subst (λ xs. IsAt itself xs n i) (c.deref.ensures.value ∙ c.self.view_is) c.in-Ok.ensures.found in
    λ m. taken-again c.args.self.now n i m at

pub returns-in_ok-insert-in-Err-clause-ok : goal.returns-in_ok-insert-in-Err-clause-ok
returns-in_ok-insert-in-Err-clause-ok c = λ m.
    let n = c.args.number in
    let i = c.in-Err.index in
    ap (is_taken m) (c.in_ok-insert-in-Err.ensures.items ∙ ap (λ xs. insert xs i n) c.self.view_is)
    ∙ taken-insert c.args.self.now n i m
