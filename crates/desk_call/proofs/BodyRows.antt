-- Worked examples, computed from the definitions.
use Rattle.desk_call.proofs.Common.{◌≡◌, ℕ, List, [], ◌∷◌, map, Option, Some, None, true, false, codes, refl}
use Rattle.std.specs.Fmt.{digits}
use Rattle.std.specs.Str.{chars, is_utf8}
use Rattle.serde_json.proofs.OnLiterals.{serde_json_on_literals}
use Rattle.serde_json.specs.Data.{boolean, number, object, member, no_members, null, string, unsigned}
use Rattle.can_id.specs.declared.form.IdentForm.TheVariants.{Standard}
use Rattle.dbc_words.specs.Name.{is_name}
use Rattle.office_types.specs.declared.command.Action.TheVariants as action
use Rattle.office_types.specs.declared.command.Task.TheVariants as task
use Rattle.office_fields.specs.Given.{NamedValue}
use Rattle.office_fields.specs.Value.{◌>>=◌}
use Rattle.office_fields.specs.declared.field.Field.TheVariants as field
use Rattle.office_fields.specs.declared.field.FieldKind.{FieldKind}
use Rattle.office_fields.specs.declared.field.FieldKind.TheVariants as kind
use Rattle.office_fields.specs.declared.kind.ActionKind.TheVariants as act
use Rattle.desk_call.specs.Body.{bytes_of, command_in, json_in, values_in}

taking : command_in act.TakeIdent (codes "{\"net\":\"truck\",\"form\":\"std\",\"name\":\"E1\",\"length\":8}")
    ≡ Some (record {
      net = codes "truck";
      task = task.Act (action.TakeIdent (record {
        form = Standard;
        message = record { name = codes "E1"; length = 8; node = None };
        want = None;
      }));
    })
unfolding command_in json_in is_utf8 chars lib.Utf8.encode serde_json_on_literals is_name digits
taking = refl

-- ---- values by kind

abbrev written : FieldKind → List ℕ → Option (List ℕ)
written k text = json_in text >>= bytes_of k

-- the range of a whole number is tested with the bytes
whole_numbers : map (written kind.Number) (codes "0" ∷ codes "258" ∷ codes "4294967296" ∷ [])
    ≡ Some (codes "0") ∷ Some (codes "258") ∷ Some (codes "4294967296") ∷ []
unfolding json_in is_utf8 chars lib.Utf8.encode serde_json_on_literals digits
whole_numbers = refl

no_whole_numbers : map (written kind.Number) (codes "-1" ∷ codes "01" ∷ codes "\"8\"" ∷ codes "null" ∷ codes "[8]"
    ∷ [])
    ≡ None ∷ None ∷ None ∷ None ∷ None ∷ []
unfolding json_in is_utf8 chars lib.Utf8.encode serde_json_on_literals
no_whole_numbers = refl

with_point : written kind.Length (codes "1.0") ≡ None
unfolding json_in is_utf8 chars lib.Utf8.encode serde_json_on_literals
with_point = refl

with_exponent : written kind.Length (codes "1e3") ≡ None
unfolding json_in is_utf8 chars lib.Utf8.encode serde_json_on_literals
with_exponent = refl

minus_zero : written kind.Length (codes "-0") ≡ None
unfolding json_in is_utf8 chars lib.Utf8.encode serde_json_on_literals
minus_zero = refl

truths : map (bytes_of kind.Truth) (boolean true ∷ boolean false ∷ string (codes "true") ∷ null ∷ [])
    ≡ Some (codes "true") ∷ Some (codes "false") ∷ None ∷ None ∷ []
truths = refl

texts : map (written kind.Text) (codes "\"km/h\"" ∷ codes "\"\\u0041\\n\"" ∷ codes "\"\\ud83d\\ude00\""
    ∷ codes "\"\\ud83d\"" ∷ codes "\"a" ∷ codes "8" ∷ (34 ∷ 176 ∷ 34 ∷ []) ∷ [])
    ≡ Some (codes "km/h") ∷ Some (65 ∷ 10 ∷ []) ∷ Some (240 ∷ 159 ∷ 152 ∷ 128 ∷ []) ∷ None ∷ None ∷ None ∷ None ∷ []
unfolding json_in is_utf8 chars lib.Utf8.encode serde_json_on_literals
texts = refl

pairs : map (written kind.ValueText) (codes "[\"0\",\"Off\"]" ∷ codes "[\"-1\",\"a:b\"]" ∷ codes "[\"0:1\",\"Off\"]"
    ∷ codes "[\"0\"]" ∷ codes "[\"0\",\"Off\",\"\"]" ∷ codes "[0,\"Off\"]" ∷ [])
    ≡ Some (codes "0:Off") ∷ Some (codes "-1:a:b") ∷ None ∷ None ∷ None ∷ None ∷ []
unfolding json_in is_utf8 chars lib.Utf8.encode serde_json_on_literals
pairs = refl

-- ---- members

abbrev named : List ℕ → List ℕ → NamedValue
named name value = record { name = name; value = value }

abbrev given : List ℕ → Option (List NamedValue)
given text = json_in text >>= values_in (field.Net ∷ field.Want ∷ field.Receiver ∷ [])

members : given (codes "{\"receivers\":[\"Dash\",\"ECU\"],\"net\":\"truck\"}")
    ≡ Some (named (codes "net") (codes "truck") ∷ named (codes "receiver") (codes "Dash")
    ∷ named (codes "receiver") (codes "ECU") ∷ [])
unfolding json_in is_utf8 chars lib.Utf8.encode serde_json_on_literals
members = refl

-- a list that must be there, though nothing need be in it
no_receivers : map given (codes "{\"net\":\"truck\",\"receivers\":[],\"want\":5}" ∷ codes "{\"net\":\"truck\"}"
    ∷ codes "{\"net\":\"truck\",\"receivers\":\"Dash\"}" ∷ [])
    ≡ Some (named (codes "net") (codes "truck") ∷ named (codes "want") (codes "5") ∷ []) ∷ None ∷ None ∷ []
unfolding json_in is_utf8 chars lib.Utf8.encode serde_json_on_literals digits
no_receivers = refl

-- a field of another command, the name that a script has, and a field that is `null`
other_members : map given (codes "{\"net\":\"truck\",\"receivers\":[],\"unit\":\"\"}"
    ∷ codes "{\"net\":\"truck\",\"receivers\":[],\"receiver\":\"Dash\"}"
    ∷ codes "{\"net\":\"truck\",\"receivers\":[],\"want\":null}" ∷ codes "[]" ∷ [])
    ≡ None ∷ None ∷ None ∷ None ∷ []
unfolding json_in is_utf8 chars lib.Utf8.encode serde_json_on_literals
other_members = refl

-- of a name that is there twice, the last one counts
twice : json_in (codes "{\"want\":1,\"want\":2}")
    ≡ Some (object (member (codes "want") (number (unsigned 2)) no_members))
unfolding json_in is_utf8 chars lib.Utf8.encode serde_json_on_literals
twice = refl
