-- The subcommands, as clap reads them.
use Rattle.std.specs.Prelude.{List, codes, fold, Some, true}
use Rattle.clap.specs.Lexer.{usize_max}
use Rattle.clap.specs.Words.{App, Rule, Text, new_app, new_rule, with_rule, with_subcommand}
use Rattle.clap.specs.Simple.{on_top}
use Rattle.clap.specs.declared.builder.action.ArgAction.TheVariants.{SetTrue}
use Rattle.canoffice_jobs.specs.declared.subcommands.Form.{Form}
use Rattle.canoffice_jobs.specs.declared.subcommands.Form.TheVariants.{Flag, MaybeWord, Required, Value, Word, Words}
use Rattle.canoffice_jobs.specs.declared.subcommands.TheConstants.{SUBCOMMANDS}

-- how clap reads an argument of this name, by its form
abbrev pub rule_by : Form → Text → Rule
rule_by MaybeWord id = new_rule id
rule_by Word id = record (new_rule id) { required = true }
rule_by Words id = record (new_rule id)
    { required = true; range = Some (record { start_inclusive = 1; end_inclusive = usize_max }) }
rule_by Value id = record (new_rule id) { long = Some id; value_names = 1 }
rule_by Required id = record (new_rule id) { long = Some id; value_names = 1; required = true }
rule_by Flag id = record (new_rule id) { long = Some id; action = Some SetTrue }

-- a subcommand of this name, with these arguments
abbrev pub app_with : {X : Type 0} (rule : X → Rule) (name : Text) (arguments : List X) → App
app_with rule name arguments = fold (λ app a. with_rule app (rule a)) (new_app name) arguments

-- `--version` and `-V` request the version
abbrev pub with_version : App → App
with_version = on_top (λ s. record s { has_version = true })

-- a subcommand is required, and without any argument the help is printed
abbrev pub wants_subcommand : App → App
wants_subcommand = on_top (λ s. record s { subcommand_required = true; arg_required_else_help = true })

-- the program's command line with these subcommands
abbrev pub program_with : {X : Type 0} (sub : X → App) (subcommands : List X) → App
program_with sub subcommands = fold (λ app s. with_subcommand app (sub s).top)
    (wants_subcommand (with_version (new_app (codes "canoffice")))) subcommands

-- with all of them
abbrev pub canoffice_app : App
canoffice_app = program_with (λ s. app_with (λ a. rule_by a.1 a.0.now) s.now.0.now s.now.3.now) SUBCOMMANDS.now
