use Rattle.canoffice_jobs.proofs.Common.{take}
use Rattle.canoffice_jobs.specs.Subcommands.{app_with, rule_by}
use Rattle.canoffice_jobs.proofs.Building.{Is}
use Rattle.canoffice_jobs.proofs.subcommands.clap_command.Given as goal

abbrev pub invariant-loop-argument : goal.invariant-loop-argument
invariant-loop-argument l =
    Is l.command (app_with (λ a. rule_by a.1 a.0.now) l.subcommand.0.now (take l.argument-index l.arguments))
