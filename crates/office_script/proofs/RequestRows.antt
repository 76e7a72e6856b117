-- Worked lines of each command, computed from the definitions.
use Rattle.std.proofs.Common.{◌≡◌, ℕ, List, [], ◌∷◌, map, Option, Some, None, true, false, codes, pos, negsuc, refl}
use Rattle.std.specs.Fmt.{digits}
use Rattle.std.specs.List.{repeat}
use Rattle.std.specs.Option.{option_map}
use Rattle.std.specs.Str.{chars, is_utf8}
use Rattle.bitlayout.specs.declared.layout.Order.TheVariants.{Intel, Motorola}
use Rattle.bitlayout.specs.declared.place.Mux.TheVariants.{Always, Under}
use Rattle.can_id.specs.declared.form.IdentForm.TheVariants.{Extended}
use Rattle.decimal.specs.Cutting.{cut}
use Rattle.decimal.specs.Number.{Number}
use Rattle.decimal.specs.Reading.{reading}
use Rattle.dbc_words.specs.Name.{is_name}
use Rattle.office_types.specs.declared.block.BlockForm.TheVariants as block
use Rattle.office_types.specs.declared.command.Action.{Action}
use Rattle.office_types.specs.declared.command.Action.TheVariants as act
use Rattle.office_types.specs.declared.command.NetKind.TheVariants.{J1939}
use Rattle.office_types.specs.declared.command.Pdu.TheVariants.{Addressed, Broadcast}
use Rattle.office_types.specs.declared.command.SignalPath.{SignalPath}
use Rattle.office_types.specs.declared.command.Task.TheVariants.{Act}
use Rattle.office_fields.specs.declared.requested.Requested.{Requested}
use Rattle.office_fields.specs.declared.requested.Requested.TheVariants.{Command, Import}
use Rattle.office_script.specs.declared.keys.Dash.TheVariants.{LineNumber, Wrong}
use Rattle.office_script.specs.Keys.{key_of}
use Rattle.office_script.specs.Lines.{lines_of}
use Rattle.office_script.specs.Requests.{requested_by, request_of}
use Rattle.office_script.specs.Script.{requests_of_lines}

-- the team of a line, and what it requests
abbrev requested_in : List ℕ → Option (List ℕ × Requested)
requested_in line = option_map (λ r. (r.team, r.requested)) (request_of LineNumber 1 line)

-- a request of a team for an action on the network `truck`
abbrev requests : List ℕ → Action → Option (List ℕ × Requested)
requests team action = Some (team, Command (record { net = codes "truck"; task = Act action }))

abbrev office : List ℕ
office = codes "office"

abbrev engine : List ℕ
engine = codes "engine"

open_net : requested_in (codes "- office open_net net=truck kind=j1939 reviews=9")
    ≡ requests office (act.OpenNet (record { kind = J1939; reviews = 9 }))
unfolding requested_by digits
open_net = refl

-- fields in any order, leading zeros
grant : requested_in (codes "- office grant net=truck form=std team=engine first=0256 last=258")
    ≡ requests office (act.Grant
    (record { team = engine; block = record { form = block.Std; first = 256; last = 258 } }))
unfolding requested_by digits
grant = refl

spn_grant : requested_in (codes "- office grant net=truck team=engine form=spn first=1 last=524287")
    ≡ requests office (act.Grant
    (record { team = engine; block = record { form = block.Spn; first = 1; last = 524287 } }))
unfolding requested_by digits
spn_grant = refl

add_node : requested_in (codes "- engine add_node net=truck name=ECU") ≡ requests engine (act.AddNode (codes "ECU"))
unfolding requested_by is_name digits
add_node = refl

take_ident : requested_in (codes "- engine take_ident net=tr%75ck form=ext name=E1 length=64 want=4294967295")
    ≡ requests engine (act.TakeIdent
    (record {
      form = Extended;
      message = record { name = codes "E1"; length = 64; node = None };
      want =
          Some 4294967295;
    }))
unfolding requested_by is_name digits
take_ident = refl

take_pgn : requested_in (codes
    "- engine take_pgn net=truck name=P1 length=8 node=ECU pdu=addressed priority=7 source=255 destination=0")
    ≡ requests engine (act.TakePgn
    (record {
      message = record { name = codes "P1"; length = 8; node = Some (codes "ECU") };
      pdu =
          Addressed (Some 0);
      priority = 7;
      source = 255;
    }))
unfolding requested_by is_name digits
take_pgn = refl

take_broadcast_pgn : requested_in
    (codes "- engine take_pgn net=truck name=P1 length=8 pdu=broadcast priority=6 source=0")
    ≡ requests engine (act.TakePgn
    (record {
      message = record { name = codes "P1"; length = 8; node = None };
      pdu = Broadcast;
      priority = 6;
      source = 0;
    }))
unfolding requested_by is_name digits
take_broadcast_pgn = refl

abbrev speed : SignalPath
speed = record { message = codes "E1"; signal = codes "Speed" }

take_spn : map requested_in
    (codes "- engine take_spn net=truck message=E1 signal=Speed"
    ∷ codes "- engine take_spn net=truck message=E1 signal=Speed same=0" ∷ [])
    ≡ requests engine (act.TakeSpn (record { path = speed; same = None }))
    ∷ requests engine (act.TakeSpn (record { path = speed; same = Some 0 })) ∷ []
unfolding requested_by is_name digits
take_spn = refl

abbrev whole : ℕ → Number
whole n = record { mantissa = pos n; exponent = pos 0 }

take_bits : requested_in
    (codes "- engine take_bits net=truck message=E1 signal=Speed size=12 order=motorola signed=true mux=m3 factor=0.5 offset=-40 minimum=-40 maximum=3 unit=%C2%B0C receiver=Dash receiver=ECU start=16")
    ≡ requests engine (act.TakeBits (record {
      path = speed;
      size = 12;
      order = Motorola;
      signed = true;
      mux = Under 3;
      factor = record { mantissa = pos 5; exponent = negsuc 0 };
      offset = record { mantissa = negsuc 3; exponent = pos 1 };
      minimum = record { mantissa = negsuc 3; exponent = pos 1 };
      maximum = whole 3;
      unit = 194 ∷ 176 ∷ codes "C";
      receivers = codes "Dash" ∷ codes "ECU" ∷ [];
      start = Some 16;
    }))
unfolding requested_by is_name reading cut digits
take_bits = refl

-- no mark, no receiver, no start, an empty unit
take_few_bits : requested_in
    (codes "- engine take_bits net=truck message=E1 signal=Speed size=1 order=intel signed=false factor=1 offset=0 minimum=0 maximum=0 unit=")
    ≡ requests engine (act.TakeBits (record {
      path = speed;
      size = 1;
      order = Intel;
      signed = false;
      mux = Always;
      factor = whole 1;
      offset = whole 0;
      minimum = whole 0;
      maximum = whole 0;
      unit = [];
      receivers = [];
      start = None;
    }))
unfolding requested_by is_name reading cut digits
take_few_bits = refl

set_values : map requested_in
    (codes "- engine set_values net=truck message=E1 signal=Speed value=0:Off value=1%3AOn"
    ∷ codes "- engine set_values net=truck message=E1 signal=Speed" ∷ [])
    ≡ requests engine (act.SetValues
    (record {
      path = speed;
      values =
          record { value = whole 0; text = codes "Off" } ∷ record { value = whole 1; text = codes "On" } ∷ [];
    }))
    ∷ requests engine (act.SetValues (record { path = speed; values = [] }))
    ∷ []
unfolding requested_by is_name reading cut digits
set_values = refl

remove_signal : requested_in (codes "- engine remove_signal net=truck message=E1 signal=Speed")
    ≡ requests engine (act.RemoveSignal speed)
unfolding requested_by is_name digits
remove_signal = refl

retire : requested_in (codes "- engine retire net=truck message=E1") ≡ requests engine (act.Retire (codes "E1"))
unfolding requested_by is_name digits
retire = refl

reviews : map requested_in
    (codes "- engine submit net=truck" ∷ codes "- brake approve net=truck" ∷ codes "- brake reject net=truck"
    ∷ codes "- office release net=truck" ∷ [])
    ≡ requests engine act.Submit ∷ requests (codes "brake") act.Approve ∷ requests (codes "brake") act.Reject
    ∷ requests office act.Release ∷ []
unfolding requested_by digits
reviews = refl

-- the file isn't read
import : requested_in (codes "- engine import net=truck file=a%20b.dbc")
    ≡ Some (engine, Import (record { net = codes "truck"; file = codes "a b.dbc" }))
unfolding requested_by is_utf8 chars lib.Utf8.encode digits
import = refl

-- a field that is missing, out of range, doubled, of another command, not of its kind; another command; an empty key
wrong_lines : map requested_in (
    codes "- office open_net net=truck kind=can"
    ∷ codes "- office open_net net=truck kind=can reviews=10"
    ∷ codes "- office open_net net=truck kind=can kind=can reviews=0"
    ∷ codes "- office open_net net=truck kind=can reviews=0 team=engine"
    ∷ codes "- office open_net net=Truck kind=can reviews=0"
    ∷ codes "- office grant net=truck team=engine form=std first=258 last=256"
    ∷ codes "- engine submit"
    ∷ codes "- engine submit net=truck net=truck"
    ∷ codes "- engine import net=truck"
    ∷ codes "- engine fly net=truck"
    ∷ codes "- engine"
    ∷ codes " office open_net net=truck kind=can reviews=0"
    ∷ [])
    ≡ None ∷ None ∷ None ∷ None ∷ None ∷ None ∷ None ∷ None ∷ None ∷ None ∷ None ∷ None ∷ []
unfolding requested_by digits
wrong_lines = refl

-- a key of one byte, one of 64, one of 65, one with a byte below 33 or above 126, and `-`, which may be wrong
keys : map (key_of Wrong 7)
    (codes "a" ∷ repeat 64 (126 ∷ []) ∷ repeat 65 (126 ∷ []) ∷ codes "a\tb" ∷ (127 ∷ []) ∷ [] ∷ codes "-" ∷ codes "--"
    ∷ [])
    ≡ Some (codes "a") ∷ Some (repeat 64 (126 ∷ [])) ∷ None ∷ None ∷ None ∷ None ∷ None ∷ Some (codes "--") ∷ []
keys = refl

-- or stands for the number of its line, as that key does in its own spelling
numbered_keys : map (key_of LineNumber 12) (codes "-" ∷ codes "line-12" ∷ codes "--" ∷ []) ≡ Some (codes "line-12")
    ∷ Some (codes "line-12") ∷ Some (codes "--") ∷ []
unfolding digits
numbered_keys = refl

-- the text is what follows the team, and its escapes stay
a_text : option_map (λ r. r.text) (request_of Wrong 1 (codes "a1 engine submit net=tr%75ck"))
    ≡ Some (codes "submit net=tr%75ck")
unfolding requested_by digits
a_text = refl

-- a remark and an empty line request nothing, and count
a_script : requests_of_lines LineNumber 1
    (lines_of (codes "# one\n- engine submit net=truck\n\n- office release net=truck"))
    ≡ Some (
    record {
      team = engine;
      key = codes "line-2";
      text = codes "submit net=truck";
      requested =
          Command (record { net = codes "truck"; task = Act act.Submit });
    }
    ∷ record {
      team = office;
      key = codes "line-4";
      text = codes "release net=truck";
      requested =
          Command (record { net = codes "truck"; task = Act act.Release });
    }
    ∷ [])
unfolding requested_by digits
a_script = refl
