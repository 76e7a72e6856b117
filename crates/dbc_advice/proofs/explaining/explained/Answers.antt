use Rattle.dbc_advice.proofs.Common.{ℕ, List, ◌++◌, ap, subst, ◌∙◌}
use Rattle.dbc_advice.specs.Explained.{AreFaultLines}
use Rattle.dbc_advice.specs.declared.findings.Reported.{Reported}
use Rattle.dbc_advice.proofs.explaining.explained.Goals as goal

pub returns : goal.returns
returns c =
    let P : List Reported → Type 0 = λ reported. AreFaultLines c.args.source.name.now c.args.source.text.now reported
    c.in_ok-lines.lines.items in
    record {
      findings = c.in_ok-findings.findings;
      is = c.in_ok-findings.ensures;
      faults = c.in_ok-lines.lines.items;
      lines = subst P c.deref.ensures.value c.in_ok-lines.ensures;
      rest = c.in_ok-rest.rest.items;
      is_rest = c.in_ok-rest.ensures;
      whole = c.in_ok-extend_from_slice.ensures.items
          ∙ ap (λ (v : List ℕ). c.in_ok-lines.lines.items ++ v) c.deref-2.ensures.value;
    }
