use Rattle.dbc_advice.proofs.Common.{◌≡◌, ◌≤◌, length, take}
use Rattle.dbc_advice.specs.Clashes.{IsClashLine, clashes_of}
use Rattle.dbc_advice.specs.Limits.{clashes_reported}
use Rattle.dbc_advice.specs.ReportedLine.{AreLinesOf}
use Rattle.dbc_advice.proofs.clashes.unclear.Given as goal

abbrev pub invariant-loop-message : goal.invariant-loop-message
invariant-loop-message l = record {
  lines : AreLinesOf (IsClashLine l.source.name.now l.source.text.now)
      (clashes_of (take l.message-index l.sheet.messages)) l.lines.items;
  reported : length (clashes_of (take l.message-index l.sheet.messages)) ≡ l.reported;
  few : l.reported ≤ clashes_reported;
}
