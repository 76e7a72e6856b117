use Rattle.dbc_words.proofs.Common.{◌≤◌, length, take}
use Rattle.std.proofs.Common.{◌-◌}
use Rattle.dbc_words.specs.Named.{AreNamedApart}
use Rattle.dbc_words.proofs.name_index.are_apart.Given as goal

abbrev pub invariant-loop-seen : goal.invariant-loop-seen
invariant-loop-seen g l =
    record { within : l.seen ≤ length l.things; apart : AreNamedApart g.T.Named.name_of (take l.seen l.things) }

abbrev pub decreases-loop-seen : goal.decreases-loop-seen
decreases-loop-seen g l = length l.things - l.seen
