use Rattle.dbc_lint.proofs.Common.{◌++◌, List, map, take}
use Rattle.dbc_lint.specs.OfSpn.{SpnPlace, place_of}
use Rattle.dbc_lint.specs.SpnPlaces.{HasFirsts}
use Rattle.dbc_lint.proofs.spn_places.FirstPlaces.add_message.Given as goal

-- kept are the first places with those of the signals so far
abbrev pub invariant-loop-signal : goal.invariant-loop-signal
invariant-loop-signal l = (ps : List SpnPlace) → HasFirsts ps l.initial.self
    → HasFirsts (ps ++ map (place_of l.message) (take l.signal-index l.signal-items)) l.self
