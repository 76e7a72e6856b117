use Rattle.bitlayout.proofs.Masks.{position_tested}
use Rattle.bitlayout.proofs.mask.Mask.has.Goals as goal

pub returns : goal.returns
returns c = position_tested c.args.self.now c.word.result c.args.position c.from-position.result c.from-position.ensures
    c.word.ensures.bits
