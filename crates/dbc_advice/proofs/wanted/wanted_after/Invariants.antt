use Rattle.std.proofs.Common.{All}
use Rattle.dbc_advice.specs.MayBeThere.{MayBeThere}
use Rattle.dbc_advice.proofs.wanted.wanted_after.Given as goal

abbrev pub invariant-loop-candidate : goal.invariant-loop-candidate
invariant-loop-candidate l = All (MayBeThere l.before) l.wanted.items
