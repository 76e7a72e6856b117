-- Header fields by their names (RFC 9110, section 5.1), and the length of a body (section 8.6).
use Rattle.std.specs.Prelude.{◌≡◌, ◌<◌, ℕ, ◌==◌, nat_le, Bool, ◌&&◌, not, List, [], ◌∷◌, map, length, codes, cond}
use Rattle.std.specs.Prelude.{Option, Some, None, Result, Ok, Err, if◌then◌else◌}
use Rattle.std.specs.Char.{is_ascii_digit, to_ascii_lowercase}
use Rattle.std.specs.List.{list_all}
use Rattle.std.specs.Str.{bytes_eq}
use Rattle.base.specs.WholeNumber.{whole_of}
use Rattle.desk_types.specs.declared.problem.Problem.{Problem}
use Rattle.desk_types.specs.declared.problem.Problem.TheVariants.{BadRequest, NoLength, TooLarge}
use Rattle.desk_head.specs.Limits.{body_limit}
use Rattle.desk_head.specs.declared.fields.Header.{Header}
use Rattle.desk_head.specs.declared.fields.Header.TheVariants.{Absent, Once, Double}

-- a header: its name, and its value without the spaces and tabs round it
abbrev pub Headers : Type 0
Headers = List (List ℕ × List ℕ)

-- two names are one: the case of ASCII letters doesn't count
abbrev pub same_name : List ℕ → List ℕ → Bool
same_name a b = bytes_eq (map to_ascii_lowercase a) (map to_ascii_lowercase b)

-- the values under a name, in order
unfoldable pub named : List ℕ → Headers → List (List ℕ)
named name [] = []
named name (f ∷ fields) = cond (same_name name f.0) (f.1 ∷ named name fields) (named name fields)

abbrev pub IsHeader : Header → List (List ℕ) → Type 0
IsHeader Absent values = values ≡ []
IsHeader (Once v) values = values ≡ v.now ∷ []
IsHeader Double values = 1 < length values

-- ---- the length of the body

-- the number is a length of a body that is taken; a number that isn't even one of 32 bits isn't
abbrev pub taken_length : Option ℕ → Result ℕ Problem
taken_length None = Err TooLarge
taken_length (Some n) = if nat_le n body_limit then Ok n else Err TooLarge

-- 1 to 19 digits
abbrev pub length_in : List ℕ → Result ℕ Problem
length_in text = if not (length text == 0) && nat_le (length text) 19 && list_all is_ascii_digit text
    then taken_length (whole_of text) else Err BadRequest

abbrev pub length_by : List (List ℕ) → Result ℕ Problem
length_by [] = Err NoLength
length_by (v ∷ []) = length_in v
length_by (v ∷ w ∷ values) = Err BadRequest

-- how long the body is, of a request that must have one. No transfer coding is known, so none is allowed.
abbrev pub unless_coded : List (List ℕ) → Result ℕ Problem → Result ℕ Problem
unless_coded [] found = found
unless_coded (v ∷ values) found = Err BadRequest

unfoldable pub body_length : Headers → Result ℕ Problem
body_length fields =
    unless_coded (named (codes "transfer-encoding") fields) (length_by (named (codes "content-length") fields))
