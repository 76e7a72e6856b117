use Rattle.dbc_lint.proofs.Common.{◌≡◌, drop, map}
use Rattle.dbc_lint.specs.OfSpn.{first_place, place_of, places_in}
use Rattle.dbc_lint.proofs.of_spn.first_in.Given as goal

-- the one that is looked for is among those that are left
abbrev pub invariant-loop-signal : goal.invariant-loop-signal
invariant-loop-signal l = first_place (places_in l.message) l.number
    ≡ first_place (map (place_of l.message) (drop l.signal-index l.signal-items)) l.number
