use Rattle.std.proofs.Common.{length}
use Rattle.office_reasons.proofs.few.+listed_from.Given as goal

abbrev pub decreases-listed_from : goal.decreases-listed_from
decreases-listed_from l = length l.rest.now
