use Rattle.rows.proofs.Common.{◌≡◌, map, take}
use Rattle.rows.proofs.cell.Cell.words.Given as goal

abbrev pub invariant-loop-text : goal.invariant-loop-text
invariant-loop-text g l = map (λ w. w.now) l.words.items ≡ take l.text-index l.texts
