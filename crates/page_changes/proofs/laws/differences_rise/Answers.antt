use Rattle.page_changes.proofs.RisingDifferences.{rising}
use Rattle.page_changes.proofs.laws.differences_rise.Goals as goal

pub returns : goal.returns
returns c = rising c.args.old.now c.args.new.now c.messages.ensures.together c.messages-2.ensures.together
