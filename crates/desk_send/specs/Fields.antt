-- The fields of a command with what is given for them, the other way round than `office_fields` reads them.
use Rattle.std.specs.Prelude.{ℕ, ◌≡◌, List, [], ◌∷◌, map, Option, Some, None}
use Rattle.std.specs.List.{flat_map}
use Rattle.bitlayout.specs.declared.place.Mux.{Mux}
use Rattle.bitlayout.specs.declared.place.Mux.TheVariants.{Always, Multiplexor, Under}
use Rattle.office_types.specs.Command.{IsAction}
use Rattle.office_types.specs.declared.command.Action.{Action}
use Rattle.office_types.specs.declared.command.Action.TheVariants as act
use Rattle.office_types.specs.declared.command.Pdu.{Pdu}
use Rattle.office_types.specs.declared.command.Pdu.TheVariants as pdu
use Rattle.office_fields.specs.Field.{row_of}
use Rattle.office_fields.specs.Given.{NamedValue, Readings}
use Rattle.office_fields.specs.Kind.{action_of, kind_of}
use Rattle.office_fields.specs.Value.{Value}
use Rattle.office_fields.specs.declared.field.Field.{Field}
use Rattle.office_fields.specs.declared.field.Field.TheVariants as field
use Rattle.office_fields.specs.declared.field.Occurrence.{Occurrence}
use Rattle.office_fields.specs.declared.field.Occurrence.TheVariants.{Required, Optional, Repeated}
use Rattle.desk_call.specs.Body.{named}
use Rattle.desk_send.specs.Texts.{addressing_of, text_of}

-- ---- fields with their values

-- a field, with its value, or its values if it may be given any number of times
pub record Entry : Type 0 where
  pub of : Field
  pub value : Readings (row_of of).occurrence (Value (row_of of).kind)

abbrev pub filled : (f : Field) → Readings (row_of f).occurrence (Value (row_of f).kind) → Entry
filled f v = record { of = f; value = v }

abbrev pub destination_of : Pdu → Option ℕ
destination_of (pdu.Addressed destination) = destination
destination_of pdu.Broadcast = None

-- a signal that is always present has no mark
abbrev pub mark_of : Mux → Option Mux
mark_of Always = None
mark_of Multiplexor = Some Multiplexor
mark_of (Under n) = Some (Under n)

-- the fields of an action, in the order of the table
abbrev pub entries_of : Action → List Entry
entries_of (act.OpenNet c) = filled field.Kind c.kind ∷ filled field.Reviews c.reviews ∷ []
entries_of (act.Grant c) =
    filled field.Team c.team ∷ filled field.BlockForm c.block.form ∷ filled field.First c.block.first
    ∷ filled field.Last c.block.last ∷ []
entries_of (act.AddNode name) = filled field.Name name ∷ []
entries_of (act.TakeIdent c) =
    filled field.IdentForm c.form ∷ filled field.Name c.message.name ∷ filled field.Length c.message.length
    ∷ filled field.Node c.message.node ∷ filled field.Want c.want ∷ []
entries_of (act.TakePgn c) =
    filled field.Name c.message.name ∷ filled field.Length c.message.length ∷ filled field.Node c.message.node
    ∷ filled field.Pdu (addressing_of c.pdu) ∷ filled field.Priority c.priority ∷ filled field.Source c.source
    ∷ filled field.Destination (destination_of c.pdu) ∷ []
entries_of (act.TakeSpn c) =
    filled field.Message c.path.message ∷ filled field.Signal c.path.signal ∷ filled field.Same c.same ∷ []
entries_of (act.TakeBits c) =
    filled field.Message c.path.message ∷ filled field.Signal c.path.signal ∷ filled field.Size c.size
    ∷ filled field.Order c.order ∷ filled field.Signed c.signed ∷ filled field.Mux (mark_of c.mux)
    ∷ filled field.Factor c.factor ∷ filled field.Offset c.offset ∷ filled field.Minimum c.minimum
    ∷ filled field.Maximum c.maximum ∷ filled field.Unit c.unit ∷ filled field.Receiver c.receivers
    ∷ filled field.Start c.start ∷ []
entries_of (act.SetValues c) =
    filled field.Message c.path.message ∷ filled field.Signal c.path.signal ∷ filled field.Value c.values ∷ []
entries_of (act.RemoveSignal path) = filled field.Message path.message ∷ filled field.Signal path.signal ∷ []
entries_of (act.Retire name) = filled field.Message name ∷ []
entries_of act.Submit = []
entries_of act.Approve = []
entries_of act.Reject = []
entries_of act.Release = []

-- ---- as named values

-- the bytes of what is given for a field that may be given so often
abbrev pub texts_as : {A : Type 0} → (o : Occurrence) → (A → List ℕ) → Readings o A → List (List ℕ)
texts_as Required text v = text v ∷ []
texts_as Optional text None = []
texts_as Optional text (Some v) = text v ∷ []
texts_as Repeated text vs = map text vs

abbrev pub named_of : Entry → List NamedValue
named_of e = map (named e.of) (texts_as (row_of e.of).occurrence (text_of (row_of e.of).kind) e.value)

abbrev pub all_named : List Entry → List NamedValue
all_named es = flat_map named_of es

-- a law: the values of an action's fields give that action
abbrev pub ActionsComeBack : Type 0
ActionsComeBack = (a : Action) → IsAction a → action_of (kind_of a) (all_named (entries_of a)) ≡ Some a
