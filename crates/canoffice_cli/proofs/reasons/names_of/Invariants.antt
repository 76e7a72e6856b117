use Rattle.canoffice_cli.proofs.Common.{◌≡◌, map, take}
use Rattle.canoffice_cli.proofs.reasons.names_of.Given as goal

abbrev pub invariant-loop-net : goal.invariant-loop-net
invariant-loop-net l = l.names.items ≡ map (λ net. net.name) (take l.net-index l.nets)
