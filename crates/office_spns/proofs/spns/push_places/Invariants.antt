use Rattle.std.proofs.Common.{◌≡◌, ◌++◌, Some, map, take}
use Rattle.office_spns.specs.Spns.{spn_row}
use Rattle.office_spns.proofs.spns.push_places.Given as goal

abbrev pub invariant-loop-place : goal.invariant-loop-place
invariant-loop-place l = l.rows ≡ l.initial.rows ++ map (λ p. spn_row l.view l.number (Some p)) (take l.place-index l.places)
