-- The text of an object, and which objects have one.
use Rattle.desk_send.proofs.Common.{Result, Ok, Err, ◌≡◌, ◌≤◌, List, ◌∷◌, ℕ, Some, false, codes, sym, arith, Global}
use Rattle.desk_send.proofs.Common.{Data, Members, depth, no_members, object, max_depth, read, has_float, Action}
use Rattle.desk_send.proofs.Common.{json_in, is_json}
use Rattle.std.proofs.Common.{IfOk, String, string_bytes}
use Rattle.std.proofs.lemmas.Str.{IsUtf8-string_bytes}
use Rattle.office_fields.specs.declared.field.Field.TheVariants as field
use Rattle.desk_send.specs.Fields.{entries_of, filled}
use Rattle.desk_send.specs.Json.{items_by, part_data, with_entries, with_list}
use Rattle.desk_send.proofs.Flat.{bundle_flat, entries_flat, object_shallow, object_whole}

pub text_json : (s : String Global) (d : Data) → read (string_bytes s) ≡ Some d → json_in (string_bytes s) ≡ Some d
text_json s d e = sym (is_json (string_bytes s) d (IsUtf8-string_bytes s) e)

pub if_read : {E : Type 0} (r : Result (String Global) E) (d : Data) → depth d ≤ max_depth
    → IfOk r (λ s. depth d ≤ max_depth → read (string_bytes s) ≡ Some d)
    → IfOk r (λ s. json_in (string_bytes s) ≡ Some d)
if_read (Ok s) d shallow h = text_json s d (h shallow)
if_read (Err e) d shallow h = tt

-- no number has a fraction, and the text may be read
abbrev pub IsShallow : Members → Type 0
IsShallow ms = (has_float (object ms) ≡ false) × (depth (object ms) ≤ max_depth)

pub action_flat : (net : List ℕ) (a : Action) (new : Members)
    → with_entries (filled field.Net net ∷ entries_of a) no_members ≡ Some new → IsShallow new
action_flat net a new h =
    let flat = entries_flat (filled field.Net net ∷ entries_of a) no_members new h tt in
    (object_whole 2 new flat, object_shallow 2 new flat (omega arith))

pub bundle_flats : (parts : List Action) (new : Members)
    → with_list (codes "commands") (items_by part_data parts) no_members ≡ Some new → IsShallow new
bundle_flats parts new h =
    let flat = bundle_flat parts new h in
    (object_whole 4 new flat, object_shallow 4 new flat (omega arith))
