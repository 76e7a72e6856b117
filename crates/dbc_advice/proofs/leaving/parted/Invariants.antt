use Rattle.dbc_advice.proofs.Common.{◌≤◌, take}
use Rattle.dbc_advice.proofs.PartedMore.{Reported}
use Rattle.dbc_advice.proofs.leaving.parted.Given as goal

abbrev pub invariant-loop-passed : goal.invariant-loop-passed
invariant-loop-passed l = record {
  reported : Reported l.source.name.now l.source.text.now l.reading.sheet (take l.passed-index l.reading.passed)
      l.lines.items l.missing l.others.items;
  few : l.missing ≤ l.passed-index;
}
