-- The commands: their words, their fields, and the action that values of the fields give: each field as the table has it,
-- and no block, size or destination that can't be.
use Rattle.std.specs.Option.{option_and_then, option_map}
use Rattle.std.specs.Prelude.{ℕ, List, [], ◌∷◌, Option, Some, None, codes, find, nat_le, ◌&&◌, unwrap_or}
use Rattle.std.specs.Str.{bytes_eq}
use Rattle.bitlayout.specs.declared.place.Mux.TheVariants.{Always}
use Rattle.office_types.specs.Block.{Range, greatest_of, least_of}
use Rattle.office_types.specs.declared.block.BlockForm.{BlockForm}
use Rattle.office_types.specs.declared.command.Action.TheVariants as act
use Rattle.office_types.specs.declared.command.Action.{Action}
use Rattle.office_types.specs.declared.command.Grant.{Grant}
use Rattle.office_types.specs.declared.command.NewMessage.{NewMessage}
use Rattle.office_types.specs.declared.command.OpenNet.{OpenNet}
use Rattle.office_types.specs.declared.command.Pdu.TheVariants as pdu
use Rattle.office_types.specs.declared.command.Pdu.{Pdu}
use Rattle.office_types.specs.declared.command.SetValues.{SetValues}
use Rattle.office_types.specs.declared.command.SignalPath.{SignalPath}
use Rattle.office_types.specs.declared.command.TakeBits.{TakeBits}
use Rattle.office_types.specs.declared.command.TakeIdent.{TakeIdent}
use Rattle.office_types.specs.declared.command.TakePgn.{TakePgn}
use Rattle.office_types.specs.declared.command.TakeSpn.{TakeSpn}
use Rattle.office_fields.specs.declared.addressing.Addressing.TheVariants.{Addressed, Broadcast}
use Rattle.office_fields.specs.declared.addressing.Addressing.{Addressing}
use Rattle.office_fields.specs.declared.field.Field.TheVariants as field
use Rattle.office_fields.specs.declared.field.Field.{Field}
use Rattle.office_fields.specs.declared.kind.ActionKind.TheVariants as kind
use Rattle.office_fields.specs.declared.kind.ActionKind.{ActionKind}
use Rattle.office_fields.specs.declared.kind.CommandKind.TheVariants.{Act, Import, Bundle}
use Rattle.office_fields.specs.declared.kind.CommandKind.{CommandKind}
use Rattle.office_fields.specs.declared.signals.Coding.{Coding}
use Rattle.office_fields.specs.declared.signals.Scaling.{Scaling}
use Rattle.office_fields.specs.Given.{NamedValue, given}
use Rattle.office_fields.specs.Value.{◌>>=◌, where_true}

-- ---- words

abbrev pub action_word : ActionKind → List ℕ
action_word kind.OpenNet = codes "open_net"
action_word kind.Grant = codes "grant"
action_word kind.AddNode = codes "add_node"
action_word kind.TakeIdent = codes "take_ident"
action_word kind.TakePgn = codes "take_pgn"
action_word kind.TakeSpn = codes "take_spn"
action_word kind.TakeBits = codes "take_bits"
action_word kind.SetValues = codes "set_values"
action_word kind.RemoveSignal = codes "remove_signal"
action_word kind.Retire = codes "retire"
action_word kind.Submit = codes "submit"
action_word kind.Approve = codes "approve"
action_word kind.Reject = codes "reject"
action_word kind.Release = codes "release"

abbrev pub word_of : CommandKind → List ℕ
word_of (Act kind) = action_word kind
word_of Import = codes "import"
word_of Bundle = codes "bundle"

-- all commands
abbrev pub all_kinds : List CommandKind
all_kinds =
    Act kind.OpenNet ∷ Act kind.Grant ∷ Act kind.AddNode ∷ Act kind.TakeIdent ∷ Act kind.TakePgn ∷ Act kind.TakeSpn
    ∷ Act kind.TakeBits ∷
    Act kind.SetValues ∷ Act kind.RemoveSignal ∷ Act kind.Retire ∷ Import ∷ Act kind.Submit ∷ Act kind.Approve
    ∷ Act kind.Reject ∷
    Act kind.Release ∷ Bundle ∷ []

-- the command that requests an action
abbrev pub kind_of : Action → ActionKind
kind_of (act.OpenNet opening) = kind.OpenNet
kind_of (act.Grant grant) = kind.Grant
kind_of (act.AddNode name) = kind.AddNode
kind_of (act.TakeIdent take) = kind.TakeIdent
kind_of (act.TakePgn take) = kind.TakePgn
kind_of (act.TakeSpn take) = kind.TakeSpn
kind_of (act.TakeBits take) = kind.TakeBits
kind_of (act.SetValues set) = kind.SetValues
kind_of (act.RemoveSignal path) = kind.RemoveSignal
kind_of (act.Retire name) = kind.Retire
kind_of act.Submit = kind.Submit
kind_of act.Approve = kind.Approve
kind_of act.Reject = kind.Reject
kind_of act.Release = kind.Release

-- the command that a word names
abbrev pub kind_of_word : List ℕ → Option CommandKind
kind_of_word word = find (λ kind. bytes_eq (word_of kind) word) all_kinds

abbrev pub action_in : CommandKind → Option ActionKind
action_in (Act kind) = Some kind
action_in kind = None

-- the command without a file that a word names
abbrev pub action_of_word : List ℕ → Option ActionKind
action_of_word word = option_and_then action_in (kind_of_word word)

-- ---- fields

-- beside the network
abbrev pub action_fields : ActionKind → List Field
action_fields kind.OpenNet = field.Kind ∷ field.Reviews ∷ []
action_fields kind.Grant = field.Team ∷ field.BlockForm ∷ field.First ∷ field.Last ∷ []
action_fields kind.AddNode = field.Name ∷ []
action_fields kind.TakeIdent = field.IdentForm ∷ field.Name ∷ field.Length ∷ field.Node ∷ field.Want ∷ []
action_fields kind.TakePgn =
    field.Name ∷ field.Length ∷ field.Node ∷ field.Pdu ∷ field.Priority ∷ field.Source ∷ field.Destination ∷ []
action_fields kind.TakeSpn = field.Message ∷ field.Signal ∷ field.Same ∷ []
action_fields kind.TakeBits =
    field.Message ∷ field.Signal ∷ field.Size ∷ field.Order ∷ field.Signed ∷ field.Mux ∷ field.Factor ∷ field.Offset ∷
    field.Minimum ∷ field.Maximum ∷ field.Unit ∷ field.Receiver ∷ field.Start ∷ []
action_fields kind.SetValues = field.Message ∷ field.Signal ∷ field.Value ∷ []
action_fields kind.RemoveSignal = field.Message ∷ field.Signal ∷ []
action_fields kind.Retire = field.Message ∷ []
action_fields kind.Submit = []
action_fields kind.Approve = []
action_fields kind.Reject = []
action_fields kind.Release = []

-- the fields of a command
abbrev pub fields_of : CommandKind → List Field
fields_of (Act k) = field.Net ∷ action_fields k
fields_of Import = field.Net ∷ field.File ∷ []
fields_of Bundle = field.Net ∷ field.File ∷ []

-- those of a part of a bundle, which doesn't name its network
abbrev pub part_fields : ActionKind → List Field
part_fields k = action_fields k

-- ---- networks and blocks

abbrev pub open_net_of : List NamedValue → Option OpenNet
open_net_of values = do
  kind ← given field.Kind values
  reviews ← given field.Reviews values
  Some (record { kind = kind; reviews = reviews })

-- at least one number, and none below the form's least or above its greatest
abbrev pub range_of : BlockForm → ℕ → ℕ → Option Range
range_of form first last =
    where_true (nat_le (least_of form) first && nat_le first last && nat_le last (greatest_of form))
    (Some (record { form = form; first = first; last = last }))

abbrev pub grant_of : List NamedValue → Option Grant
grant_of values = do
  form ← given field.BlockForm values
  first ← given field.First values
  last ← given field.Last values
  block ← range_of form first last
  team ← given field.Team values
  Some (record { team = team; block = block })

-- ---- new messages

abbrev pub new_message_of : List NamedValue → Option NewMessage
new_message_of values = do
  length ← given field.Length values
  name ← given field.Name values
  node ← given field.Node values
  Some (record { name = name; length = length; node = node })

abbrev pub take_ident_of : List NamedValue → Option TakeIdent
take_ident_of values = do
  form ← given field.IdentForm values
  want ← given field.Want values
  message ← new_message_of values
  Some (record { form = form; message = message; want = want })

-- a destination is given only for one address
abbrev pub addressed_to : Addressing → Option ℕ → Option Pdu
addressed_to Addressed destination = Some (pdu.Addressed destination)
addressed_to Broadcast None = Some pdu.Broadcast
addressed_to Broadcast (Some address) = None

abbrev pub pdu_of : List NamedValue → Option Pdu
pdu_of values = do
  addressing ← given field.Pdu values
  destination ← given field.Destination values
  addressed_to addressing destination

abbrev pub take_pgn_of : List NamedValue → Option TakePgn
take_pgn_of values = do
  pdu ← pdu_of values
  priority ← given field.Priority values
  source ← given field.Source values
  message ← new_message_of values
  Some (record { message = message; pdu = pdu; priority = priority; source = source })

-- ---- signals

abbrev pub path_of : List NamedValue → Option SignalPath
path_of values = do
  message ← given field.Message values
  signal ← given field.Signal values
  Some (record { message = message; signal = signal })

abbrev pub take_spn_of : List NamedValue → Option TakeSpn
take_spn_of values = do
  same ← given field.Same values
  path ← path_of values
  Some (record { path = path; same = same })

-- how the raw value is written; with no mark the signal is always present
abbrev pub coding_of : List NamedValue → Option Coding
coding_of values = do
  size ← given field.Size values
  order ← given field.Order values
  signed ← given field.Signed values
  mux ← given field.Mux values
  start ← given field.Start values
  Some (record { size = size; order = order; signed = signed; mux = unwrap_or mux Always; start = start })

abbrev pub scaling_of : List NamedValue → Option Scaling
scaling_of values = do
  factor ← given field.Factor values
  offset ← given field.Offset values
  minimum ← given field.Minimum values
  maximum ← given field.Maximum values
  Some (record { factor = factor; offset = offset; minimum = minimum; maximum = maximum })

abbrev pub take_bits_of : List NamedValue → Option TakeBits
take_bits_of values = do
  coding ← coding_of values
  scaling ← scaling_of values
  path ← path_of values
  unit ← given field.Unit values
  receivers ← given field.Receiver values
  Some (record {
    path = path;
    size = coding.size;
    order = coding.order;
    signed = coding.signed;
    mux = coding.mux;
    factor = scaling.factor;
    offset = scaling.offset;
    minimum = scaling.minimum;
    maximum = scaling.maximum;
    unit = unit;
    receivers = receivers;
    start = coding.start;
  })

abbrev pub set_values_of : List NamedValue → Option SetValues
set_values_of values = do
  path ← path_of values
  texts ← given field.Value values
  Some (record { path = path; values = texts })

-- ---- all of them

abbrev pub action_of : ActionKind → List NamedValue → Option Action
action_of kind.OpenNet values = option_map act.OpenNet (open_net_of values)
action_of kind.Grant values = option_map act.Grant (grant_of values)
action_of kind.AddNode values = option_map act.AddNode (given field.Name values)
action_of kind.TakeIdent values = option_map act.TakeIdent (take_ident_of values)
action_of kind.TakePgn values = option_map act.TakePgn (take_pgn_of values)
action_of kind.TakeSpn values = option_map act.TakeSpn (take_spn_of values)
action_of kind.TakeBits values = option_map act.TakeBits (take_bits_of values)
action_of kind.SetValues values = option_map act.SetValues (set_values_of values)
action_of kind.RemoveSignal values = option_map act.RemoveSignal (path_of values)
action_of kind.Retire values = option_map act.Retire (given field.Message values)
action_of kind.Submit values = Some act.Submit
action_of kind.Approve values = Some act.Approve
action_of kind.Reject values = Some act.Reject
action_of kind.Release values = Some act.Release
