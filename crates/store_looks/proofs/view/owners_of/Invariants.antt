use Rattle.store_looks.proofs.Common.{◌≡◌, map, take}
use Rattle.store_looks.proofs.view.owners_of.Given as goal

abbrev pub invariant-loop-one : goal.invariant-loop-one
invariant-loop-one l = l.owners ≡ map (λ m. m.owner) (take l.one-index l.live)
