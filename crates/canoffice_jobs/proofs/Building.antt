-- A command that is built argument by argument, and subcommand by subcommand.
use Rattle.canoffice_jobs.proofs.Common.{◌≡◌, ◌∙◌, ◌+◌, ◌<◌, ◌||◌, ℕ, false, List, length, take, sym, ap, fold, App}
use Rattle.canoffice_jobs.proofs.Common.{app_of}
use Rattle.std.proofs.Common.{get_or}
use Rattle.std.proofs.lemmas.List.Sums.{fold_more}
use Rattle.clap.specs.Words.{AddsArg, AddsSubcommand, Rule, Text, new_app, rule_of, shape_of, with_rule}
use Rattle.clap.specs.Words.{with_subcommand}
use Rattle.clap.specs.declared.builder.arg.Arg.{Arg}
use Rattle.clap.specs.declared.builder.command.Command.{Command}
use Rattle.clap.specs.declared.builder.command.Command.TheViews.{out-Command}
use Rattle.canoffice_jobs.specs.Subcommands.{app_with}

-- the command is this one, without an argument that its subcommands have too
abbrev pub Is : Command → App → Type 0
Is command app = (app_of command ≡ app) × ((out-Command command).has_globals ≡ false)

pub argument_more : {X : Type 0} (rule : X → Rule) (name : Text) (xs : List X) (i : ℕ) (x : X) (old new : Command)
    (arg : Arg) → i < length xs → AddsArg old arg new → rule_of arg ≡ rule (get_or xs i x) → arg.global ≡ false
    → Is old (app_with rule name (take i xs)) → Is new (app_with rule name (take (i + 1) xs))
argument_more rule name xs i x old new arg low added is local so = (
  added.shape local ∙ ap (λ a. with_rule a (rule_of arg)) so.0
      ∙ ap (with_rule (app_with rule name (take i xs))) is
      ∙ sym (fold_more (λ app a. with_rule app (rule a)) (new_app name) xs i x low),
  added.globals ∙ ap (λ b. b || arg.global) so.1 ∙ local,
)

pub subcommand_more : {X : Type 0} (sub : X → App) (start : App) (xs : List X) (i : ℕ) (x : X) (old other new : Command)
    → i < length xs → AddsSubcommand old other new → Is other (sub (get_or xs i x))
    → Is old (fold (λ app s. with_subcommand app (sub s).top) start (take i xs))
    → Is new (fold (λ app s. with_subcommand app (sub s).top) start (take (i + 1) xs))
subcommand_more sub start xs i x old other new low added is so = (
  added.shape is.1 ∙ ap (λ a. with_subcommand a (shape_of other)) so.0
      ∙ ap (λ a. with_subcommand (fold (λ app s. with_subcommand app (sub s).top) start (take i xs)) a.top) is.0
      ∙ sym (fold_more (λ app s. with_subcommand app (sub s).top) start xs i x low),
  added.globals ∙ ap (λ b. b || (out-Command other).has_globals) so.1 ∙ is.1,
)
