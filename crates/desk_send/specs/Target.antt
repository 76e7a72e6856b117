-- The target at which a command is posted: the other way round than the routes and their parameters.
use Rattle.std.specs.Prelude.{◌≡◌, ℕ, List, ◌++◌, Some, codes}
use Rattle.office_types.specs.PlainName.{IsPlainName}
use Rattle.office_types.specs.declared.command.Command.{Command}
use Rattle.office_types.specs.declared.command.Task.{Task}
use Rattle.office_types.specs.declared.command.Task.TheVariants.{Act, Import, Bundle}
use Rattle.office_fields.specs.Kind.{action_word, kind_of}
use Rattle.desk_head.specs.Target.{endpoint_of}
use Rattle.desk_head.specs.declared.endpoint.Endpoint.TheVariants.{Does}
use Rattle.desk_head.specs.declared.endpoint.Posting.{Posting}
use Rattle.desk_head.specs.declared.endpoint.Posting.TheVariants as posting

-- the name of the network, unless the body has it
abbrev pub task_target : List ℕ → Task → List ℕ
task_target net (Act a) = codes "/do/" ++ action_word (kind_of a)
task_target net (Import file) = codes "/import/" ++ net
task_target net (Bundle parts) = codes "/bundle/" ++ net

abbrev pub target_of : Command → List ℕ
target_of c = task_target c.net c.task

-- what a target does that names this task
abbrev pub posting_of : Task → Posting
posting_of (Act a) = posting.Act (kind_of a)
posting_of (Import file) = posting.Import
posting_of (Bundle parts) = posting.Bundle

-- a law: what is at the target of a command does it
abbrev pub PostsLeadThere : Type 0
PostsLeadThere = (c : Command) → IsPlainName c.net → endpoint_of (target_of c) ≡ Some (Does (posting_of c.task))
