use Rattle.bitlayout.proofs.Masks.{high_bit}
use Rattle.bitlayout.proofs.mask.Strip.high.Goals as goal

pub returns : goal.returns
returns c = high_bit c.args.self.bits
