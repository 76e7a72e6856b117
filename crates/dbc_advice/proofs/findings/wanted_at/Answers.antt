use Rattle.dbc_advice.proofs.Common.{◌≡◌, sym, ◌∙◌}
use Rattle.dbc_advice.specs.Pieces.{statement_before}
use Rattle.dbc_advice.proofs.findings.wanted_at.Goals as goal

pub returns-in_ok-before-in-Unexpected : goal.returns-in_ok-before-in-Unexpected
returns-in_ok-before-in-Unexpected c =
    let same : statement_before c.args.text.now c.args.lines.first c.args.fault.at ≡ c.deref.result.now =
    sym (c.deref.ensures.value ∙ c.in_ok-before-in-Unexpected.ensures) in
    rw same c.wanted_after.ensures
