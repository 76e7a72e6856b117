use Rattle.std.proofs.Common.{◌∙◌, ap}
use Rattle.std.specs.List.{filter}
use Rattle.std.proofs.lemmas.Fn.{filter_same}
use Rattle.base.proofs.items.Items.retain.Goals as goal

pub returns-clause-kept : goal.returns-clause-kept
returns-clause-kept g c = λ passes answers. filter_same _ passes c.args.test answers _ _ c.retain.ensures.filtered
    ∙ ap (filter passes) c.self.view_is
