use Rattle.std.proofs.Common.{ℕ, List, ap, ◌∙◌}
use Rattle.office_types.specs.Free.{least_free}
use Rattle.office_facts.proofs.Least.{least_free-same}
use Rattle.office_facts.proofs.taken.least_beside.Goals as goal

pub returns : goal.returns
returns c =
    c.least_free.ensures.computed
    ∙ ap (λ (v : List ℕ). least_free v c.args.blocks.now c.args.form) c.deref.ensures.value
    ∙ least_free-same c.in_ok-rising.rising.items c.args.numbers.items c.in_ok-rising.ensures.same c.args.blocks.now
    c.args.form
