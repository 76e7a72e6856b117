use Rattle.store_net.proofs.Common.{◌≡◌, length}
use Rattle.store_net.proofs.reading.empty_sheets.Given as goal

-- as many as were counted
abbrev pub invariant-loop : goal.invariant-loop
invariant-loop l = length l.sheets ≡ l.counter
