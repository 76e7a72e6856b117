use Rattle.decimal.proofs.Computed as laws
use Rattle.decimal.proofs.law.readings_are_computed.Goals as goal

pub returns : goal.returns
returns c = laws.readings_are_computed
