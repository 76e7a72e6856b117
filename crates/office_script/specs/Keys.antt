-- The keys of lines.
use Rattle.std.specs.Prelude.{ℕ, List, ◌++◌, Option, Some, if◌then◌else◌, codes, decimal}
use Rattle.std.specs.Str.{bytes_eq}
use Rattle.office_fields.specs.Value.{where_true}
use Rattle.office_history.specs.Key.{is_key}
use Rattle.office_script.specs.declared.keys.Dash.{Dash}
use Rattle.office_script.specs.declared.keys.Dash.TheVariants.{LineNumber, Wrong}

-- the bytes that a line's first word stands for, by the number of the line, from 1: itself, but for `-`, which may
-- stand for `line-N`
abbrev pub key_bytes : Dash → ℕ → List ℕ → List ℕ
key_bytes LineNumber number word = if bytes_eq word (codes "-") then codes "line-" ++ decimal number else word
key_bytes Wrong number word = word

abbrev pub key_from : List ℕ → Option (List ℕ)
key_from bytes = where_true (is_key bytes) (Some bytes)

-- the key of a line, if it has one; `-` itself is no key
abbrev pub key_of : Dash → ℕ → List ℕ → Option (List ℕ)
key_of dash number word = key_from (key_bytes dash number word)
