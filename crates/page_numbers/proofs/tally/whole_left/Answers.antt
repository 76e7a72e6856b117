use Rattle.page_numbers.proofs.Common.{◌∙◌}
use Rattle.page_numbers.proofs.InBlocks.{whole_count, whole_runs}
use Rattle.page_numbers.proofs.tally.whole_left.Goals as goal

pub returns-clause-count : goal.returns-clause-count
returns-clause-count c =
    c.in_ok-left.ensures.count ∙ whole_count c.args.taken.now c.args.block c.args.form c.requires.one

pub returns-clause-runs : goal.returns-clause-runs
returns-clause-runs c =
    c.in_ok-left.ensures.runs ∙ whole_runs c.args.taken.now c.args.block c.args.form c.requires.one c.requires.whole
