-- Rows of receivers that are seen as a list, computed.
use Rattle.dbc_sheet.proofs.Common.{◌≡◌, [], ◌∷◌, map, refl, codes}
use Rattle.dbc_sheet.specs.Receivers.{names_in}
use Rattle.dbc_sheet.specs.declared.receivers.Listed.TheVariants.{Nothing, One}

few_receivers : map names_in (Nothing ∷ One (codes "Dash") ∷ []) ≡ [] ∷ (codes "Dash" ∷ []) ∷ []
few_receivers = refl
