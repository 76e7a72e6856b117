use Rattle.canoffice_cli.proofs.Common.{map, take}
use Rattle.canoffice_cli.specs.Jobs.Charted.{AreSignals}
use Rattle.canoffice_cli.proofs.jobs.charting.signals_of.Given as goal

-- the words so far are the signals so far
abbrev pub invariant-loop-word : goal.invariant-loop-word
invariant-loop-word l = AreSignals (map (λ s. s.now) (take l.word-index l.words)) l.signals.items
