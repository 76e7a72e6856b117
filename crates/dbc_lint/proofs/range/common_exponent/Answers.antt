use Rattle.dbc_lint.proofs.Common.{◌∙◌, rules, FitsSigned, w16, to_z-of_z}
use Rattle.dbc_lint.proofs.LongNumbers.{lesser_passes}
use Rattle.dbc_lint.proofs.range.common_exponent.Goals as goal

pub returns : goal.returns
returns c =
    let scale : FitsSigned w16 c.lesser_exponent-scale.result = search rules in
    let range : FitsSigned w16 c.lesser_exponent-range.result = search rules in
    let least : FitsSigned w16 c.lesser.result = search rules in
    to_z-of_z w16 c.lesser.result least
    ∙ lesser_passes c.lesser_exponent-scale.result c.lesser_exponent-range.result _ _ c.lesser.result scale range
    c.lesser_exponent-scale.ensures c.lesser_exponent-range.ensures c.lesser.ensures
