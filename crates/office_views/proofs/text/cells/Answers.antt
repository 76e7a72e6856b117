use Rattle.std.proofs.Common.{◌+◌, ◌*◌, ◌∷◌, [], rules}
use Rattle.office_views.specs.Text.{cell_of, bits_of_byte}
use Rattle.columns.proofs.Pieces.{items_more}
use Rattle.office_views.proofs.text.cells.Goals as goal

pub loop-bit-preserved : goal.loop-bit-preserved
loop-bit-preserved c =
    items_more (λ bit. 32 ∷ cell_of c.args.signals.now (8 * c.args.byte + bit) ∷ []) bits_of_byte c.loop-bit.bit-index 0
    c.loop-bit.text.items (32 ∷ c.cell.result ∷ []) c.extend_from_slice.new.self.items
    c.loop-bit-test.true c.loop-bit.invariant (search rules) c.in_ok-extend_from_slice.ensures.items
