use Rattle.dbc_advice.proofs.Common.{◌≡◌, length}
use Rattle.dbc_advice.specs.Findings.{AreReported}
use Rattle.dbc_advice.proofs.findings.reported_faults.Given as goal

abbrev pub invariant-loop-count : goal.invariant-loop-count
invariant-loop-count l = record {
  reported : AreReported l.source l.reported.items l.text.items;
  many : length l.reported.items ≡ l.count;
}
