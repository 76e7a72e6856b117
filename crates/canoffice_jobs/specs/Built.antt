-- A command line that clap is to take, as far as memory sufficed to build it.
use Rattle.std.specs.Prelude.{◌≡◌, IfOk, Result, false}
use Rattle.std.specs.declared.alloc.AllocError.{AllocError}
use Rattle.clap.specs.Words.{App, app_of}
use Rattle.clap.specs.declared.builder.command.Command.{Command}
use Rattle.clap.specs.declared.builder.command.Command.TheViews.{out-Command as fields_of}

-- if there is a command, it is this one, without an argument that its subcommands have too
abbrev pub IsBuilt : Result Command AllocError → App → Type 0
IsBuilt built app = IfOk built (λ c. (app_of c ≡ app) × ((fields_of c).has_globals ≡ false))
