-- The weights of a signal's bits (Vector's DBC File Format Documentation, byte order of a signal): an Intel signal
-- starts with its least significant bit, a Motorola signal with its most significant one.
use Rattle.std.specs.Prelude.{ℕ, nat_eq, reverse, Bool, List}
use Rattle.std.specs.Cmp.Lexicographic.{pointwise}
use Rattle.bitlayout.specs.Bits.{positions}
use Rattle.bitlayout.specs.declared.layout.Layout.{Layout}
use Rattle.bitlayout.specs.declared.layout.Order.{Order}
use Rattle.bitlayout.specs.declared.layout.Order.TheVariants.{Intel, Motorola}

-- the positions of a signal's bits, the least significant first
abbrev pub in_weight : Order → List ℕ → List ℕ
in_weight Intel ps = ps
in_weight Motorola ps = reverse ps

abbrev pub by_weight : Layout → List ℕ
by_weight layout = in_weight layout.order (positions layout)

-- the same positions, from the least significant bit on
abbrev pub same_bits : Layout → Layout → Bool
same_bits a b = pointwise nat_eq (by_weight a) (by_weight b)
