use Rattle.bitlayout.proofs.Masks.{common_bit}
use Rattle.bitlayout.proofs.mask.have_common.Goals as goal

pub returns : goal.returns
returns c = common_bit c.args.a c.args.b c.ranges.a.fits
