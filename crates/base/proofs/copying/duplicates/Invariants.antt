use Rattle.std.proofs.Common.{◌≡◌, take}
use Rattle.base.proofs.copying.duplicates.Given as goal

abbrev pub invariant-loop-item : goal.invariant-loop-item
invariant-loop-item g l = l.copies.items ≡ take l.item-index l.items
