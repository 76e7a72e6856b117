-- What an action reads of its network: the one place that has this.
use Rattle.std.specs.Prelude.{ℕ, Bool, true, false, List}
use Rattle.office_types.specs.Block.{is_spn}
use Rattle.office_types.specs.declared.command.Action.{Action}
use Rattle.office_types.specs.declared.command.Action.TheVariants as act
use Rattle.office_types.specs.declared.command.TakeIdent.{TakeIdent}
use Rattle.office_types.specs.declared.command.TakePgn.{TakePgn}
use Rattle.office_types.specs.declared.command.Task.{Task}
use Rattle.office_types.specs.declared.command.Task.TheVariants.{Act, Import, Bundle}
use Rattle.office_facts.specs.declared.scope.Scope.{Scope as ScopeModel}
use Rattle.office_facts.specs.declared.scope.Scope.TheVariants as code

-- the head; the head and the blocks; a message; a message that retires, and whether it was released; the numbers that a
-- command gives out, and those that are taken; all of the network
pub data Scope : Type 0 where
  Head : Scope
  Parts : Scope
  Message : List ℕ → Scope
  Retiring : List ℕ → Scope
  Idents : TakeIdent → Scope
  Groups : TakePgn → Scope
  Whole : Scope

abbrev pub scope_of : Action → Scope
scope_of (act.OpenNet c) = Whole
scope_of (act.Grant c) = Parts
scope_of (act.AddNode node) = Head
scope_of (act.TakeIdent c) = Idents c
scope_of (act.TakePgn c) = Groups c
scope_of (act.TakeSpn c) = Message c.path.message
scope_of (act.TakeBits c) = Message c.path.message
scope_of (act.SetValues c) = Message c.path.message
scope_of (act.RemoveSignal path) = Message path.message
scope_of (act.Retire message) = Retiring message
scope_of act.Submit = Head
scope_of act.Approve = Head
scope_of act.Reject = Head
scope_of act.Release = Whole

-- the scope that the code has, as the definitions speak of it
abbrev pub scope_as : ScopeModel → Scope
scope_as code.Head = Head
scope_as code.Parts = Parts
scope_as (code.Message name) = Message name.now
scope_as (code.Retiring name) = Retiring name.now
scope_as (code.Idents c) = Idents c.now
scope_as (code.Groups c) = Groups c.now
scope_as code.Whole = Whole

-- an excerpt is enough for what doesn't read the whole network
abbrev pub is_part : Scope → Bool
is_part Whole = false
is_part scope = true

abbrev pub reads_part : Task → Bool
reads_part (Act a) = is_part (scope_of a)
reads_part (Import file) = false
reads_part (Bundle parts) = false

-- `take_spn`, and a grant of a block of suspect parameter numbers, read the book of these
abbrev pub reads_book : Task → Bool
reads_book (Act (act.Grant c)) = is_spn c.block.form
reads_book (Act (act.TakeSpn c)) = true
reads_book task = false
