-- Worked examples, computed from the definitions.
use Rattle.desk_send.proofs.Common.{◌≡◌, ℕ, List, [], ◌∷◌, ◌++◌, map, Some, None, true, codes, refl, Intel, Under}
use Rattle.desk_send.proofs.Common.{Number, Action, Command, Act, Import, Bundle, Reply, KeyReused}
use Rattle.std.proofs.Common.{pos, negsuc}
use Rattle.std.specs.Fmt.{digits}
use Rattle.std.specs.Str.{chars, is_utf8}
use Rattle.serde_json.proofs.OnLiterals.{serde_json_on_literals}
use Rattle.can_id.specs.declared.form.IdentForm.TheVariants.{Standard}
use Rattle.decimal.specs.Printing.{unsigned_text}
use Rattle.office_types.specs.declared.command.Action.TheVariants as act
use Rattle.office_types.specs.declared.refusal.Refusal.TheVariants as no
use Rattle.office_types.specs.declared.reply.PartReply.TheVariants as part
use Rattle.office_types.specs.declared.reply.Reply.TheVariants as reply
use Rattle.desk_call.specs.Body.{json_in}
use Rattle.desk_send.specs.Answer.{answer_at}
use Rattle.desk_send.specs.Body.{body_of}
use Rattle.desk_send.specs.Request.{request_bytes}
use Rattle.desk_send.specs.Target.{target_of}

abbrev whole : ℕ → Number
whole n = record { mantissa = pos n; exponent = pos 0 }

abbrev of_truck : Action → Command
of_truck a = record { net = codes "truck"; task = Act a }

-- ---- identifiers

abbrev engine_speed : Action
engine_speed = act.TakeIdent (record {
  form = Standard;
  message = record { name = codes "EngineSpeed"; length = 8; node = None };
  want = None;
})

abbrev wanted : Action
wanted = act.TakeIdent (record {
  form = Standard;
  message = record { name = codes "EngineLoad"; length = 2; node = Some (codes "Engine") };
  want = Some 257;
})

identifiers : map (λ a. body_of (of_truck a)) (engine_speed ∷ wanted ∷ act.Submit ∷ [])
    ≡ Some (codes "{\"form\":\"std\",\"length\":8,\"name\":\"EngineSpeed\",\"net\":\"truck\"}")
    ∷ Some (codes "{\"form\":\"std\",\"length\":2,\"name\":\"EngineLoad\",\"net\":\"truck\","
    ++ codes "\"node\":\"Engine\",\"want\":257}")
    ∷ Some (codes "{\"net\":\"truck\"}")
    ∷ []
unfolding is_utf8 chars lib.Utf8.encode serde_json_on_literals digits
identifiers = refl

-- ---- signals

-- a speed in eighths, of a unit
abbrev speed : List ℕ → Action
speed unit = act.TakeBits (record {
  path = record { message = codes "EngineSpeed"; signal = codes "Speed" };
  size = 16;
  order = Intel;
  signed = true;
  mux = Under 3;
  factor = record { mantissa = pos 125; exponent = negsuc 2 };
  offset = record { mantissa = negsuc 3; exponent = pos 1 };
  minimum = whole 0;
  maximum = whole 8031;
  unit = unit;
  receivers = codes "Dash" ∷ codes "Dash" ∷ [];
  start = Some 0;
})

bits : body_of (of_truck (speed (codes "km/h")))
    ≡ Some (codes "{\"factor\":\"0.125\",\"maximum\":\"8031\",\"message\":\"EngineSpeed\",\"minimum\":\"0\","
    ++ codes "\"mux\":\"m3\",\"net\":\"truck\",\"offset\":\"-40\",\"order\":\"intel\","
    ++ codes "\"receivers\":[\"Dash\",\"Dash\"],"
    ++ codes "\"signal\":\"Speed\",\"signed\":true,\"size\":16,\"start\":0,\"unit\":\"km/h\"}")
unfolding is_utf8 chars lib.Utf8.encode serde_json_on_literals digits unsigned_text
bits = refl

-- a byte that begins no character: JSON can't hold it
no_bits : body_of (of_truck (speed (176 ∷ []))) ≡ None
unfolding is_utf8 chars lib.Utf8.encode serde_json_on_literals digits unsigned_text
no_bits = refl

-- the quote of a text is escaped with a backslash, and both are escaped in JSON
abbrev gears : Action
gears = act.SetValues (record {
  path = record { message = codes "EngineSpeed"; signal = codes "Gear" };
  values = record { value = whole 0; text = codes "Off: N" }
      ∷ record { value = record { mantissa = negsuc 0; exponent = pos 0 }; text = codes "\\\"R\\\"" } ∷ [];
})

values : body_of (of_truck gears)
    ≡ Some (codes "{\"message\":\"EngineSpeed\",\"net\":\"truck\",\"signal\":\"Gear\","
    ++ codes "\"values\":[[\"0\",\"Off: N\"],[\"-1\",\"\\\\\\\"R\\\\\\\"\"]]}")
unfolding is_utf8 chars lib.Utf8.encode serde_json_on_literals digits unsigned_text
values = refl

-- ---- files and bundles

abbrev imported : Command
imported = record { net = codes "truck"; task = Import (codes "BU_:\n") }

file : body_of imported ≡ Some (codes "BU_:\n")
file = refl

abbrev bundle : Command
bundle = record {
  net = codes "truck";
  task = Bundle (wanted ∷ act.AddNode (codes "Engine") ∷ []);
}

parts : body_of bundle
    ≡ Some (codes "{\"commands\":[{\"command\":\"take_ident\",\"form\":\"std\",\"length\":2,\"name\":\"EngineLoad\","
    ++ codes "\"node\":\"Engine\",\"want\":257},{\"command\":\"add_node\",\"name\":\"Engine\"}]}")
unfolding is_utf8 chars lib.Utf8.encode serde_json_on_literals digits
parts = refl

-- ---- requests

targets : map target_of (of_truck engine_speed ∷ imported ∷ bundle ∷ [])
    ≡ codes "/do/take_ident" ∷ codes "/import/truck" ∷ codes "/bundle/truck" ∷ []
targets = refl

request : request_bytes (codes "/import/truck") (codes "engine") (codes "i1") (codes "BU_:\n")
    ≡ codes "POST /import/truck HTTP/1.1\r\nHost: 127.0.0.1\r\nTeam: engine\r\nRequest-Key: i1\r\n"
    ++ codes "Content-Length: 5\r\nConnection: close\r\n\r\nBU_:\n"
unfolding request_bytes digits
request = refl

-- ---- answers

answers : map answer_at (codes "{\"number\":256}" ∷ codes "{\"done\":true}"
    ∷ codes "{\"name\":\"NoNet\",\"refused\":40}"
    ∷ codes "{\"at\":9,\"fault\":38,\"name\":\"FileFault\",\"refused\":58}"
    ∷ codes "{\"bundle\":[{\"number\":257},{\"done\":true}]}" ∷ codes "{\"name\":\"KeyReused\",\"refused\":70}"
    ∷ codes "{\"error\":\"not found\"}" ∷ codes "{\"number\":\"256\"}" ∷ codes "256" ∷ [] ∷ [])
    ≡ Some (Reply (reply.Number 256)) ∷ Some (Reply reply.Done) ∷ Some (Reply (reply.Refused no.NoNet))
    ∷ Some (Reply (reply.Refused (no.FileFault (record { fault = 38; at = 9 }))))
    ∷ Some (Reply (reply.Bundle (part.Number 257 ∷ part.Done ∷ []))) ∷ Some KeyReused ∷ None ∷ None ∷ None
    ∷ None ∷ []
unfolding json_in is_utf8 chars lib.Utf8.encode serde_json_on_literals digits
answers = refl
