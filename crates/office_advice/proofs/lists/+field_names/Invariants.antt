use Rattle.std.proofs.Common.{length}
use Rattle.office_advice.proofs.lists.+field_names.Given as goal

abbrev pub decreases-field_names : goal.decreases-field_names
decreases-field_names l = length l.fields.now
