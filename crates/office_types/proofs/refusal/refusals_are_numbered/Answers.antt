use Rattle.office_types.proofs.Numbers.{refusal_back}
use Rattle.office_types.proofs.refusal.refusals_are_numbered.Goals as goal

pub returns : goal.returns
returns c = refusal_back
