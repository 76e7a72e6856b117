use Rattle.std.proofs.Common.{◌∙◌}
use Rattle.office_reasons.proofs.Texts.{shown_mark, shown_text}
use Rattle.office_reasons.proofs.pieces.shown.Goals as goal

pub returns-in-Ok : goal.returns-in-Ok
returns-in-Ok c = c.in-Ok.ensures.cases.0 ∙ shown_text c.args.bytes.now c.in-Ok.ensures.cases.1

pub returns-in-Err : goal.returns-in-Err
returns-in-Err c = shown_mark c.args.bytes.now c.in-Err.ensures.cases.0
