use Rattle.dbc_advice.proofs.Common.{◌≡◌, ◌++◌, drop, enumerate_from, flat_map}
use Rattle.dbc_advice.specs.Reasons.{overlap_reason, overlap_reasons}
use Rattle.dbc_advice.proofs.reasons.overlap_reasons.Given as goal

abbrev pub invariant-loop-partner : goal.invariant-loop-partner
invariant-loop-partner l =
    l.reasons.items ++ flat_map (overlap_reason l.bytes l.index l.place)
    (enumerate_from l.partner (drop l.partner l.earlier))
    ≡ overlap_reasons l.bytes l.earlier l.index l.place
