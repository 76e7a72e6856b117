use Rattle.canoffice_jobs.proofs.Common.{◌≡◌, ◌++◌, drop, map, true}
use Rattle.canoffice_jobs.specs.CommandLine.{lint_entered}
use Rattle.canoffice_jobs.proofs.remarks.lint_entered.Given as goal

abbrev pub invariant-loop-word : goal.invariant-loop-word
invariant-loop-word l =
    map (λ s. s.now) l.entered.items ++ lint_entered l.options (map (λ s. s.now) (drop l.word-index l.words))
    ≡ lint_entered true (map (λ s. s.now) l.words)
