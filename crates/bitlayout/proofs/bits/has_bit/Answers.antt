use Rattle.bitlayout.proofs.Common.{◌↔◌, IsTrue, arith, same_from_decides}
use Rattle.bitlayout.specs.Bits.{IsBit}
use Rattle.bitlayout.proofs.Walks.{bit_within, bit_from_within, is_bit_decides}
use Rattle.bitlayout.proofs.bits.has_bit.Goals as goal

pub returns : goal.returns
returns c =
    let layout = c.args.layout in
    let q = c.args.position in
    let bit : IsTrue c.has.result ↔ IsBit layout q = (
      λ t. let (low, high) = c.has.ensures.0 t in bit_from_within layout q (omega arith) (omega arith),
      λ is. let within = bit_within layout q is in c.has.ensures.1 (omega arith, omega arith),
    ) in
    record { bit = bit; computed = same_from_decides _ _ bit (is_bit_decides layout q) }
