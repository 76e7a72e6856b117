-- Requests, one after the other, and what they are answered: for worked examples.
use Rattle.office_rules.proofs.Common.{ℕ, false, List, [], ◌∷◌, map, Option, None, codes, Standard, Ident, empty_sheet}
use Rattle.office_rules.proofs.Common.{Sheet, Signal, ValueText, Can, Reply, Office}
use Rattle.std.specs.Prelude.{pos}
use Rattle.bitlayout.specs.declared.layout.Order.{Order}
use Rattle.bitlayout.specs.declared.place.Mux.{Mux}
use Rattle.can_id.specs.declared.form.IdentForm.TheVariants.{Extended}
use Rattle.dbc_sheet.specs.declared.message.Message.{Message}
use Rattle.decimal.specs.Number.{Number}
use Rattle.office_types.specs.declared.block.BlockForm.{BlockForm}
use Rattle.office_types.specs.declared.block.BlockForm.TheVariants as block
use Rattle.office_types.specs.declared.command.Action.{Action}
use Rattle.office_types.specs.declared.command.Action.TheVariants as act
use Rattle.office_types.specs.declared.command.Command.{Command}
use Rattle.office_types.specs.declared.command.NetKind.{NetKind}
use Rattle.office_types.specs.declared.command.NewMessage.{NewMessage}
use Rattle.office_types.specs.declared.command.Pdu.{Pdu}
use Rattle.office_types.specs.declared.command.SignalPath.{SignalPath}
use Rattle.office_types.specs.declared.command.TakeBits.{TakeBits}
use Rattle.office_types.specs.declared.command.Task.{Task}
use Rattle.office_types.specs.declared.command.Task.TheVariants.{Act, Import, Bundle}
use Rattle.office_rules.specs.Importing.{FileReading, Reading}
use Rattle.office_rules.specs.Outcome.{reply_of}
use Rattle.office_rules.specs.Step.{step_outcome, office_after}

-- a team's command, and what its file reads as
pub record Requested : Type 0 where
  pub team : List ℕ
  pub reading : FileReading
  pub command : Command

abbrev pub replies_to : Office → List Requested → List Reply
replies_to o [] = []
replies_to o (q ∷ qs) =
    reply_of (step_outcome o q.team q.reading q.command)
    ∷ replies_to (office_after o (step_outcome o q.team q.reading q.command)) qs

abbrev pub left_by : Office → List Requested → Office
left_by o [] = o
left_by o (q ∷ qs) = left_by (office_after o (step_outcome o q.team q.reading q.command)) qs

abbrev pub office : List ℕ
office = codes "office"

abbrev pub engine : List ℕ
engine = codes "engine"

abbrev pub brake : List ℕ
brake = codes "brake"

abbrev pub truck : List ℕ
truck = codes "truck"

abbrev pub bus : List ℕ
bus = codes "bus"

abbrev pub requests : List ℕ → Action → Requested
requests team action = record {
  team = team;
  reading = Reading empty_sheet;
  command =
      record { net = truck; task = Act action };
}

abbrev pub imports : List ℕ → Sheet → Requested
imports team s = record { team = team; reading = Reading s; command = record { net = truck; task = Import [] } }

-- the same request on the other network
abbrev pub on_bus : Requested → Requested
on_bus q = record q { command = record q.command { net = bus } }

abbrev pub opens : NetKind → ℕ → Requested
opens kind reviews = requests office (act.OpenNet (record { kind = kind; reviews = reviews }))

abbrev pub grants : List ℕ → BlockForm → ℕ → ℕ → Requested
grants team form first last =
    requests office (act.Grant (record { team = team; block = record { form = form; first = first; last = last } }))

-- a network with a block of three identifiers
abbrev pub setup : List Requested → List Requested
setup qs = opens Can 0 ∷ grants engine block.Std 256 258 ∷ qs

abbrev pub adds : List ℕ → Requested
adds node = requests office (act.AddNode node)

abbrev pub named : List ℕ → NewMessage
named name = record { name = name; length = 8; node = None }

abbrev pub takes : List ℕ → List ℕ → Option ℕ → Requested
takes team name want = requests team (act.TakeIdent (record { form = Standard; message = named name; want = want }))

abbrev pub takes_ext : List ℕ → Option ℕ → Requested
takes_ext name want = requests engine (act.TakeIdent (record { form = Extended; message = named name; want = want }))

abbrev pub takes_group : List ℕ → Pdu → Requested
takes_group name pdu = requests engine
    (act.TakePgn (record { message = named name; pdu = pdu; priority = 6; source = 0 }))

abbrev pub path : List ℕ → List ℕ → SignalPath
path message signal = record { message = message; signal = signal }

abbrev pub number : ℕ → Number
number n = record { mantissa = pos n; exponent = pos 0 }

abbrev pub bits : List ℕ → ℕ → Order → Mux → Option ℕ → TakeBits
bits signal size order mux start = record {
  path = path (codes "E1") signal;
  size = size;
  order = order;
  signed = false;
  mux = mux;
  factor = number 1;
  offset = number 0;
  minimum = number 0;
  maximum = number 0;
  unit = [];
  receivers = [];
  start = start;
}

abbrev pub takes_bits : List ℕ → ℕ → Order → Mux → Option ℕ → Requested
takes_bits signal size order mux start = requests engine (act.TakeBits (bits signal size order mux start))

abbrev pub takes_spn : List ℕ → Option ℕ → Requested
takes_spn signal same = requests engine (act.TakeSpn (record { path = path (codes "E1") signal; same = same }))

abbrev pub message : Ident → List ℕ → List Signal → Message
message i name signals =
    record { ident = i; name = name; length = 8; transmitter = None; comment = []; signals = signals }

abbrev pub sets_values : List ℕ → List ValueText → Requested
sets_values signal values =
    requests engine (act.SetValues (record { path = path (codes "E1") signal; values = values }))

abbrev pub removes : List ℕ → Requested
removes signal = requests engine (act.RemoveSignal (path (codes "E1") signal))

abbrev requested_action : Task → Action
requested_action (Act a) = a
requested_action task = act.Submit

-- the requests as one bundle
abbrev pub bundles : List ℕ → List Requested → Requested
bundles team qs = record {
  team = team;
  reading = Reading empty_sheet;
  command =
      record { net = truck; task = Bundle (map (λ q. requested_action q.command.task) qs) };
}
