use Rattle.canoffice_jobs.proofs.Common.{take}
use Rattle.canoffice_jobs.specs.Subcommands.{app_with, program_with, rule_by}
use Rattle.canoffice_jobs.proofs.Building.{Is}
use Rattle.canoffice_jobs.proofs.command_line.command_with.Given as goal

abbrev pub invariant-loop-subcommand : goal.invariant-loop-subcommand
invariant-loop-subcommand l =
    Is l.command (program_with (λ s. app_with (λ a. rule_by a.1 a.0.now) s.now.0.now s.now.3.now)
    (take l.subcommand-index l.subcommands))
