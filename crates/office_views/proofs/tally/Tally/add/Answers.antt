use Rattle.std.proofs.Common.{◌∙◌, ◌+◌, ap}
use Rattle.std.specs.Prelude.{Some, cond}
use Rattle.std.specs.BTreeMap.{get}
use Rattle.std.specs.Ordering.{is_eq}
use Rattle.base.specs.Keyed.{text_cmp}
use Rattle.office_views.proofs.Tallies.{name_counted}
use Rattle.office_views.proofs.tally.Tally.add.Goals as goal

pub returns : goal.returns
returns c = λ n.
    let old = c.args.self.now.counts in
    let k = c.times-count.result + 1 in
    name_counted old c.insert.new.self c.args.name.now k n (ap (λ v. v + 1) c.times-count.ensures)
    (c.in_ok-insert.ensures.updates.0 n
    ∙ ap (λ v. cond (is_eq (text_cmp v n)) (Some k) (get text_cmp old n)) c.in_ok-duplicate.ensures)
