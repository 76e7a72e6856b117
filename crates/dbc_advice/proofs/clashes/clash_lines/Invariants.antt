use Rattle.dbc_advice.proofs.Common.{take}
use Rattle.dbc_advice.specs.Clashes.{IsClashLine}
use Rattle.dbc_advice.specs.ReportedLine.{AreLinesOf}
use Rattle.dbc_advice.specs.declared.reasons.ClashReason.{ClashReason}
use Rattle.dbc_advice.proofs.clashes.clash_lines.Given as goal

abbrev pub invariant-loop-reason : goal.invariant-loop-reason
invariant-loop-reason l = AreLinesOf (λ (r : ClashReason). IsClashLine l.source.name.now l.source.text.now (l.message, r))
    (take l.reason-index l.reasons) l.lines.items
