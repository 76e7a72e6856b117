use Rattle.std.proofs.Common.{◌≡◌, ◌+◌, ◌*◌, ◌∷◌, [], take}
use Rattle.std.specs.List.{flat_map}
use Rattle.office_views.specs.Text.{cell_of}
use Rattle.office_views.proofs.text.cells.Given as goal

abbrev pub invariant-loop-bit : goal.invariant-loop-bit
invariant-loop-bit l = l.text.items ≡ flat_map (λ bit. 32 ∷ cell_of l.signals (8 * l.byte + bit) ∷ [])
    (take l.bit-index l.bit-items)
