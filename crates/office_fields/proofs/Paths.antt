-- Which bytes are the path of a file.
use Rattle.std.proofs.Common.{◌≡◌, ℕ, Bool, true, false, List, Some, None, refl}
use Rattle.std.specs.Str.{IsUtf8, is_utf8}
use Rattle.std.proofs.lemmas.Str.{IsUtf8-from_is_utf8, is_utf8-from_IsUtf8}
use Rattle.office_fields.specs.Value.{path_of, where_true}

-- UTF-8
pub is_path : (bytes : List ℕ) → IsUtf8 bytes → Some bytes ≡ path_of bytes
is_path bytes h = rw (is_utf8-from_IsUtf8 bytes h) refl

not_true : (test : Bool) (bytes : List ℕ) → (test ≡ true → ⊥) → None ≡ where_true test (Some bytes)
not_true true bytes h = absurd (h refl)
not_true false bytes h = refl

-- other bytes
pub no_path : (bytes : List ℕ) → ¬ (IsUtf8 bytes) → None ≡ path_of bytes
no_path bytes h = not_true (is_utf8 bytes) bytes (λ e. h (IsUtf8-from_is_utf8 bytes e))
