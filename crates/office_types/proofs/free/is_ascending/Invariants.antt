use Rattle.std.proofs.Common.{ℕ, ◌<◌, ◌+◌, get_or}
use Rattle.office_types.proofs.free.is_ascending.Given as goal

abbrev pub invariant-loop-i : goal.invariant-loop-i
invariant-loop-i l = (k : ℕ) → k + 1 < l.i → get_or l.numbers k 0 < get_or l.numbers (k + 1) 0
