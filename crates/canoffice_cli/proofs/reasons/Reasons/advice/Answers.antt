use Rattle.canoffice_cli.proofs.Common.{inl}
use Rattle.canoffice_cli.proofs.reasons.Reasons.advice.Goals as goal

pub returns-in-Ok : goal.returns-in-Ok
returns-in-Ok c = inl c.in-Ok.ensures
