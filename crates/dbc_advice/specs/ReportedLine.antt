-- The line of a fault: `FILE:LINE:COLUMN: CODE NAME: sentence`.
use Rattle.std.specs.Prelude.{◌≡◌, ℕ, nat_lt, List, [], ◌∷◌, ◌++◌, if◌then◌else◌, codes, decimal}
use Rattle.dbc_advice.specs.declared.position.Position.{Position}

-- `CODE NAME`
abbrev pub code_label : ℕ → List ℕ → List ℕ
code_label number name = decimal number ++ (codes " " ++ name)

-- `:LINE:COLUMN: `
abbrev pub position_text : Position → List ℕ
position_text position = codes ":" ++ (decimal position.line ++ (codes ":" ++ (decimal position.column ++ codes ": ")))

abbrev pub reported_line : List ℕ → Position → List ℕ → List ℕ → List ℕ
reported_line file position label sentence =
    file ++ (position_text position ++ (label ++ (codes ": " ++ (sentence ++ codes "\n"))))

-- one line after the other, each of one of these, in order
abbrev pub AreLinesOf : {A : Type 0} → (A → List ℕ → Type 0) → List A → List ℕ → Type 0
AreLinesOf Is [] lines = [] ≡ lines
AreLinesOf Is (x ∷ xs) lines = (line : List ℕ) × (rest : List ℕ) × Is x line × AreLinesOf Is xs rest
    × (line ++ rest ≡ lines)

-- a last line: only so many are reported, and there are more
abbrev pub more_line : List ℕ → ℕ → List ℕ → List ℕ
more_line file limit what =
    file ++ (codes ": " ++ (decimal limit ++ (codes " " ++ (what ++ codes " shown; there are more\n"))))

-- that line, if there are more than the limit
abbrev pub more_text : List ℕ → ℕ → ℕ → List ℕ → List ℕ
more_text file limit count what = if nat_lt limit count then more_line file limit what else []
