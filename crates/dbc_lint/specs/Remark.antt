-- A remark, and the words of what it is about.
use Rattle.std.specs.Prelude.{ℕ, Bool, List, [], ◌∷◌, ◌++◌, codes, if◌then◌else◌}
use Rattle.dbc_lint.specs.declared.kind.Kind.{Kind}
use Rattle.dbc_lint.specs.declared.remark.Remark.{Remark}

-- a kind, the offset in the file, and the words
abbrev pub remark : Kind → ℕ → List ℕ → Remark
remark kind at words = record { kind = kind; at = at; words = words }

-- the remark, if the test holds
abbrev pub when : Bool → Remark → List Remark
when holds r = if holds then r ∷ [] else []

-- one more word, after a space
abbrev pub with_word : List ℕ → List ℕ → List ℕ
with_word words word = words ++ (codes " " ++ word)
