use Rattle.bitlayout.proofs.Common.{arith}
use Rattle.bitlayout.proofs.Masks.{put_positions, more_are}
use Rattle.bitlayout.proofs.mask.Mask.put.Goals as goal

pub returns-then-index-lt-MASK_WORDS : goal.returns-then-index-lt-MASK_WORDS
returns-then-index-lt-MASK_WORDS c q =
    rw (← c.self.view_is) (put_positions c.self.inside.words c.args.index c.args.bits q (omega arith))

pub invariant_of-self : goal.invariant_of-self
invariant_of-self c = more_are c.self.inside.words c.args.index c.args.bits c.ranges.bits.fits (omega arith)
    c.self.invariant
