use Rattle.dbc_read.proofs.Common.{◌≡◌, false, take, list_any, bytes_eq, Signal}
use Rattle.dbc_read.proofs.finding.first_named.Given as goal

abbrev pub invariant-loop-index : goal.invariant-loop-index
invariant-loop-index l = list_any (λ (s : Signal). bytes_eq s.name l.name) (take l.index l.signals) ≡ false
