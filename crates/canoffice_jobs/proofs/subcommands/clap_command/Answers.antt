use Rattle.canoffice_jobs.specs.Subcommands.{rule_by}
use Rattle.canoffice_jobs.proofs.Building.{argument_more}
use Rattle.canoffice_jobs.proofs.subcommands.clap_command.Goals as goal

pub loop-argument-preserved : goal.loop-argument-preserved
loop-argument-preserved c =
    argument_more (λ a. rule_by a.1 a.0.now) c.args.subcommand.now.0.now c.args.subcommand.now.3.now
    c.loop-argument.argument-index _ c.loop-argument.command c.in_ok-command.command c.clap_argument.result
    c.loop-argument-test.true c.in_ok-command.ensures c.clap_argument.ensures.rule c.clap_argument.ensures.local
    c.loop-argument.invariant
