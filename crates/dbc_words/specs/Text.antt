-- What is between the quotes of one text (Vector's DBC File Format Documentation, character strings), in this
-- project's dialect: any bytes, where a backslash escapes the next byte and only an escaped byte may be a quote.
use Rattle.std.specs.Prelude.{◌≡◌, ◌≢◌, ◌==◌, ℕ, Bool, true, false, not, List, [], ◌∷◌, if◌then◌else◌}
use Rattle.std.specs.List.{AllByRecursion, flat_map}

-- `"` and `\`
abbrev pub quote_mark : ℕ
quote_mark = 34

abbrev pub backslash : ℕ
backslash = 92

-- a byte that means itself, or a backslash and the byte that it escapes
abbrev pub IsPiece : List ℕ → Type 0
IsPiece [] = ⊥
IsPiece (b ∷ []) = (b ≢ quote_mark) × (b ≢ backslash)
IsPiece (b ∷ c ∷ []) = b ≡ backslash
IsPiece (b ∷ c ∷ d ∷ bytes) = ⊥

-- pieces, one after the other
pub record IsText (bytes : List ℕ) : Type 0 where
  pub pieces : List (List ℕ)
  pub each : AllByRecursion IsPiece pieces
  pub whole : flat_map (λ piece. piece) pieces ≡ bytes

-- The same computed; `escaped` means that a backslash comes before.
abbrev pub is_text_after : Bool → List ℕ → Bool
is_text_after escaped [] = not escaped
is_text_after true (b ∷ bytes) = is_text_after false bytes
is_text_after false (b ∷ bytes) = if b == quote_mark then false else is_text_after (b == backslash) bytes

abbrev pub is_text : List ℕ → Bool
is_text bytes = is_text_after false bytes
