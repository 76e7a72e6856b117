use Rattle.bitlayout.proofs.Masks.{strip_words, two_puts}
use Rattle.bitlayout.proofs.mask.Mask.add.Goals as goal

pub returns : goal.returns
returns c q = two_puts (c.put.ensures q) (c.put-2.ensures q)
    (strip_words c.args.strip c.low.result c.high.result q c.high.type_inv c.low.ensures c.high.ensures)
