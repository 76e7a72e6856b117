use Rattle.bitlayout.proofs.Masks.{low_bit}
use Rattle.bitlayout.proofs.mask.Strip.low.Goals as goal

pub returns : goal.returns
returns c = low_bit c.args.self.bits
