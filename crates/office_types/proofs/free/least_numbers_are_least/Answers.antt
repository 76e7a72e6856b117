use Rattle.office_types.proofs.Least.{least_free_is}
use Rattle.office_types.proofs.free.least_numbers_are_least.Goals as goal

pub returns : goal.returns
returns c = least_free_is
