use Rattle.std.proofs.Common.{◌≡◌, take}
use Rattle.std.specs.List.{flat_map}
use Rattle.office_spns.specs.SpnIndex.{signals_in}
use Rattle.office_spns.proofs.spn_index.all_places.Given as goal

abbrev pub invariant-loop-message : goal.invariant-loop-message
invariant-loop-message l = l.places.items ≡ flat_map signals_in (take l.message-index l.message-items)
