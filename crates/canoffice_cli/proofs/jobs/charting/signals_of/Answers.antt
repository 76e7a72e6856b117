use Rattle.canoffice_cli.proofs.Common.{rules}
use Rattle.canoffice_cli.proofs.WrongWords.{wrong_at}
use Rattle.canoffice_cli.proofs.jobs.charting.signals_of.Goals as goal

pub returns-in-None-clause-fault : goal.returns-in-None-clause-fault
returns-in-None-clause-fault c =
    wrong_at c.args.words.now c.loop-word.word-index _ c.loop-word.signals.items c.loop-word-test.true (search rules)
    c.loop-word.invariant
