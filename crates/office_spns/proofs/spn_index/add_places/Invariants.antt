use Rattle.std.proofs.Common.{◌≡◌, ◌++◌, map, take}
use Rattle.office_spns.specs.SpnIndex.{place_of}
use Rattle.office_spns.proofs.spn_index.add_places.Given as goal

abbrev pub invariant-loop-signal : goal.invariant-loop-signal
invariant-loop-signal l =
    l.places.items ≡ l.fn.places.items ++ map (place_of l.message) (take l.signal-index l.signal-items)
