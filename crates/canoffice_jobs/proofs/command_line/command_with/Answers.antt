use Rattle.canoffice_jobs.specs.Subcommands.{app_with, rule_by}
use Rattle.canoffice_jobs.proofs.Building.{subcommand_more}
use Rattle.canoffice_jobs.proofs.command_line.command_with.Goals as goal

pub loop-subcommand-preserved : goal.loop-subcommand-preserved
loop-subcommand-preserved c =
    subcommand_more (λ s. app_with (λ a. rule_by a.1 a.0.now) s.now.0.now s.now.3.now) _ c.args.subcommands.now
    c.loop-subcommand.subcommand-index _ c.loop-subcommand.command c.in_ok-clap_command.field-0 c.in_ok-command.command
    c.loop-subcommand-test.true c.in_ok-command.ensures c.in_ok-clap_command.ensures
    c.loop-subcommand.invariant
