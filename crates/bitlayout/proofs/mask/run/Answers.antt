use Rattle.bitlayout.proofs.Masks.{run_bits}
use Rattle.bitlayout.proofs.mask.run.Goals as goal

pub returns : goal.returns
returns c = run_bits c.args.first c.args.end c.requires.order c.requires.few c.requires.end
