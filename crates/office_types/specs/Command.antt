-- The ranges of a command's fields, which its types keep, and what the fields request.
use Rattle.std.specs.Prelude.{ℕ, ◌≤◌, ◌<◌, ◌^◌, ◌==◌, ⊤, All, List, Option, Some, None, IfSome, if◌then◌else◌, codes}
use Rattle.dbc_words.specs.Limits.{length_limit, size_limit}
use Rattle.dbc_words.specs.Name.{IsName}
use Rattle.dbc_words.specs.Text.{IsText}
use Rattle.dbc_sheet.specs.Form.{IsMux, IsValueText}
use Rattle.decimal.specs.Number.{IsDecimal}
use Rattle.office_types.specs.PlainName.{IsPlainName}
use Rattle.office_types.specs.Block.{IsRange}
use Rattle.office_types.specs.Parts.{AreParts}
use Rattle.office_types.specs.declared.free.NumberForm.{NumberForm}
use Rattle.office_types.specs.declared.free.NumberForm.TheVariants.{Pdu1, Pdu2}
use Rattle.office_types.specs.declared.command.Action.{Action}
use Rattle.office_types.specs.declared.command.Action.TheVariants as act
use Rattle.office_types.specs.declared.command.Command.{Command}
use Rattle.office_types.specs.declared.command.NetKind.{NetKind}
use Rattle.office_types.specs.declared.command.NetKind.TheVariants.{Can, J1939}
use Rattle.office_types.specs.declared.command.NewMessage.{NewMessage}
use Rattle.office_types.specs.declared.command.Pdu.{Pdu}
use Rattle.office_types.specs.declared.command.Pdu.TheVariants.{Addressed, Broadcast}
use Rattle.office_types.specs.declared.command.SignalPath.{SignalPath}
use Rattle.office_types.specs.declared.command.TakeBits.{TakeBits}
use Rattle.office_types.specs.declared.command.Task.{Task}
use Rattle.office_types.specs.declared.command.Task.TheVariants.{Act, Import, Bundle}

-- the number of a kind of network
abbrev pub kind_number : NetKind → ℕ
kind_number Can = 0
kind_number J1939 = 1

-- the kind of a number
abbrev pub kind_at : ℕ → Option NetKind
kind_at n = if n == 0 then Some Can else (if n == 1 then Some J1939 else None)

abbrev pub kind_word : NetKind → List ℕ
kind_word Can = codes "can"
kind_word J1939 = codes "j1939"

-- the form of the requested parameter groups, as numbers
abbrev pub group_form : Pdu → NumberForm
group_form (Addressed destination) = Pdu1
group_form Broadcast = Pdu2

-- whether a message goes to one address or to all
abbrev pub pdu_word : Pdu → List ℕ
pdu_word (Addressed destination) = codes "addressed"
pdu_word Broadcast = codes "broadcast"

pub record IsNewMessage (m : NewMessage) : Type 0 where
  pub named : IsName m.name
  pub length : m.length ≤ length_limit
  pub node : IfSome m.node IsName

-- an address is a byte
abbrev pub IsPdu : Pdu → Type 0
IsPdu (Addressed destination) = IfSome destination (λ d. d < 256)
IsPdu Broadcast = ⊤

pub record IsPath (p : SignalPath) : Type 0 where
  pub message : IsName p.message
  pub signal : IsName p.signal

pub record IsTakeBits (c : TakeBits) : Type 0 where
  pub path : IsPath c.path
  pub least : 1 ≤ c.size
  pub most : c.size ≤ size_limit
  pub mux : IsMux c.mux
  pub factor : IsDecimal c.factor
  pub offset : IsDecimal c.offset
  pub minimum : IsDecimal c.minimum
  pub maximum : IsDecimal c.maximum
  pub unit : IsText c.unit
  pub receivers : All IsName c.receivers
  pub start : IfSome c.start (λ n. n < 2 ^ 16)

abbrev pub IsAction : Action → Type 0
IsAction (act.OpenNet c) = c.reviews ≤ 9
IsAction (act.Grant c) = IsPlainName c.team × IsRange c.block
IsAction (act.AddNode name) = IsName name
IsAction (act.TakeIdent c) = IsNewMessage c.message × IfSome c.want (λ n. n < 2 ^ 32)
IsAction (act.TakePgn c) = IsNewMessage c.message × IsPdu c.pdu × (c.priority ≤ 7) × (c.source < 256)
IsAction (act.TakeSpn c) = IsPath c.path × IfSome c.same (λ n. n < 2 ^ 32)
IsAction (act.TakeBits c) = IsTakeBits c
IsAction (act.SetValues c) = IsPath c.path × All IsValueText c.values
IsAction (act.RemoveSignal path) = IsPath path
IsAction (act.Retire name) = IsName name
IsAction act.Submit = ⊤
IsAction act.Approve = ⊤
IsAction act.Reject = ⊤
IsAction act.Release = ⊤

-- a file's bytes; the parts of a bundle
abbrev pub IsTask : Task → Type 0
IsTask (Act a) = IsAction a
IsTask (Import file) = All (λ b. b < 256) file
IsTask (Bundle parts) = AreParts parts × All IsAction parts

-- every value of the type `Command` is so
pub record IsCommand (c : Command) : Type 0 where
  pub net : IsPlainName c.net
  pub task : IsTask c.task
