use Rattle.office_looks.proofs.Common.{ap, ◌∙◌, counts_of, Sheet}
use Rattle.office_looks.proofs.state.changes.Goals as goal

pub returns : goal.returns
returns c =
    c.counts_of.ensures
    ∙ ap (λ (s : Sheet). counts_of s.messages c.args.view.now.sheet.messages) c.last_release.ensures
