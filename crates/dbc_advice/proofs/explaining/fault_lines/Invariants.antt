use Rattle.dbc_advice.proofs.Common.{take}
use Rattle.dbc_advice.specs.Explained.{AreFaultLines}
use Rattle.dbc_advice.proofs.explaining.fault_lines.Given as goal

abbrev pub invariant-loop-one : goal.invariant-loop-one
invariant-loop-one l = AreFaultLines l.source.name.now l.source.text.now (take l.one-index l.reported) l.lines.items
