use Rattle.bitlayout.specs.Taken.{IsStripOf}
use Rattle.bitlayout.proofs.Masks.{shared_puts}
use Rattle.bitlayout.proofs.mask.Mask.add_shared.Goals as goal

pub returns : goal.returns
unfolding IsStripOf
returns c q =
    shared_puts c.args.other.now c.strip_of-strip.result c.args.layout c.word.result c.word-2.result c.low.result
    c.high.result q c.word.ensures.bits c.word-2.ensures.bits (c.word.ensures.end q) c.high.type_inv c.low.ensures
    c.high.ensures (c.strip_of-strip.ensures.positions q)
    (c.put.ensures q) (c.put-2.ensures q)
