use Rattle.std.proofs.Common.{length}
use Rattle.desk_head.proofs.fields.+header_named.Given as goal

abbrev pub decreases-header_named : goal.decreases-header_named
decreases-header_named l = length l.headers.now
