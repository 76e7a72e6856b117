-- Which bytes are a text of JSON.
use Rattle.desk_call.proofs.Common.{◌≡◌, ℕ, Bool, true, false, List, Option, Some, None, refl, read}
use Rattle.std.specs.Str.{IsUtf8, is_utf8}
use Rattle.std.proofs.lemmas.Str.{IsUtf8-from_is_utf8, is_utf8-from_IsUtf8}
use Rattle.office_fields.specs.Value.{where_true}
use Rattle.serde_json.specs.Data.{Data}
use Rattle.desk_call.specs.Body.{json_in}

-- UTF-8 that reads as a value
pub is_json : (bytes : List ℕ) (d : Data) → IsUtf8 bytes → read bytes ≡ Some d → Some d ≡ json_in bytes
unfolding json_in
is_json bytes d h e = rw (is_utf8-from_IsUtf8 bytes h, e) refl

where_false : {A : Type 0} (test : Bool) (found : Option A) → (test ≡ true → ⊥) → None ≡ where_true test found
where_false true found h = absurd (h refl)
where_false false found h = refl

-- other bytes
pub no_json : (bytes : List ℕ) → ¬ (IsUtf8 bytes) → None ≡ json_in bytes
unfolding json_in
no_json bytes h = where_false (is_utf8 bytes) (read bytes) (λ e. h (IsUtf8-from_is_utf8 bytes e))
