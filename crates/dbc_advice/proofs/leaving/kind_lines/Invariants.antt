use Rattle.dbc_advice.proofs.Common.{◌≡◌, ◌++◌}
use Rattle.dbc_advice.specs.LeftOut.{kinds_text}
use Rattle.dbc_advice.proofs.PassedKinds.{HaveKeywords}
use Rattle.dbc_advice.proofs.leaving.kind_lines.Given as goal

abbrev pub invariant-loop-one : goal.invariant-loop-one
invariant-loop-one l = record {
  lines : l.lines.items ++ kinds_text l.source.name.now l.source.text.now l.passed l.one-index
      ≡ kinds_text l.source.name.now l.source.text.now l.passed 0;
  come : HaveKeywords l.firsts.items l.passed l.one-index;
}
