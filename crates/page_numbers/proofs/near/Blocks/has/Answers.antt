use Rattle.page_numbers.proofs.Common.{◌≡◌, ◌∙◌, Some, None, ap, refl, is_some, option_copied}
use Rattle.page_numbers.proofs.near.Blocks.has.Goals as goal

pub returns : goal.returns
returns c =
    c.is_some.ensures
    ∙ elim c.team_at.result as (λ o. is_some o ≡ is_some (option_copied o)) [ None ↦ refl | Some team ↦ refl ]
    ∙ ap is_some c.team_at.ensures
