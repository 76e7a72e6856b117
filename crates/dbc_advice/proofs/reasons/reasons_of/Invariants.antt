use Rattle.dbc_advice.proofs.Common.{◌≡◌, ◌++◌}
use Rattle.dbc_advice.specs.Reasons.{reasons_from}
use Rattle.dbc_advice.proofs.reasons.reasons_of.Given as goal

abbrev pub invariant-loop-index : goal.invariant-loop-index
invariant-loop-index l = l.reasons.items ++ reasons_from l.bytes l.places l.index ≡ reasons_from l.bytes l.places 0
