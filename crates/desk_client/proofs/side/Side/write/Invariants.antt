use Rattle.std.proofs.Common.{◌≡◌}
use Rattle.desk_client.proofs.side.Side.write.Given as goal

abbrev pub invariant-loop-call : goal.invariant-loop-call
invariant-loop-call g l = l.self.count ≡ l.initial.self.count
