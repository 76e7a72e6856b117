-- The statements that a reading skipped, as they are found in its source.
use Rattle.std.specs.Prelude.{◌==◌, ◌&&◌, ◌++◌, ℕ, Bool, List, [], ◌∷◌, map, if◌then◌else◌}
use Rattle.std.specs.List.{flat_map, list_any}
use Rattle.std.specs.Str.{bytes_eq}
use Rattle.dbc_grammar.specs.Canon.{Line, Piece}
use Rattle.dbc_grammar.specs.Token.{Token}
use Rattle.dbc_keep_law.specs.Found.{found}
use Rattle.dbc_keep_law.specs.Kept.{place_of}
use Rattle.dbc_keep_law.specs.Passages.{Passage}
use Rattle.dbc_read.specs.Passed.{start_and_keyword}
use Rattle.dbc_read.specs.declared.passed.Passed.{Passed}

-- the bytes of a line, without its LF
abbrev pub bytes_of : Line → List ℕ
bytes_of line = flat_map (λ (p : Piece). p.gap ++ p.text) line

-- where the last of the tokens ends, or the offset if there is none
abbrev pub last_end : ℕ → List Token → ℕ
last_end offset [] = offset
last_end offset (t ∷ ts) = last_end t.end ts

-- whether the token has these bytes
abbrev pub has_text : List ℕ → Token → Bool
has_text text t = bytes_eq t.text text

abbrev pub found_in : List ℕ → Passed → Passage
found_in source one = found source (start_and_keyword one)

abbrev pub all_found : List ℕ → List Passed → List Passage
all_found source passed = map (found_in source) passed

-- the statement's line, if it has the place
abbrev pub line_there : List ℕ → ℕ → Passed → List Line
line_there source place one = if place_of one.keyword == place then (found_in source one).line ∷ [] else []

abbrev pub lines_there : List ℕ → ℕ → List Passed → List Line
lines_there source place passed = flat_map (line_there source place) passed

-- whether one of that place says so
abbrev pub says_there : List ℕ → ℕ → (Line → Bool) → Passed → Bool
says_there source place says one = (place_of one.keyword == place) && says (found_in source one).line

abbrev pub any_says : List ℕ → ℕ → (Line → Bool) → List Passed → Bool
any_says source place says passed = list_any (says_there source place says) passed
