-- Lines on requests.
use Rattle.std.specs.Prelude.{◌≡◌, ℕ, List, [], ◌∷◌, ◌++◌, IsTrue, nat_le, ◌&&◌, Bool, codes, map}
use Rattle.std.specs.List.{list_all}
use Rattle.dbc_advice.specs.Sentence.{visible}
use Rattle.desk_advice.specs.Front.{IsFront, status_of}

-- printable ASCII
abbrev pub is_printable : ℕ → Bool
is_printable b = nat_le 32 b && nat_le b 126

-- One line with its end, which a terminal prints and doesn't carry out.
abbrev pub IsLine : List ℕ → Type 0
IsLine line = (text : List ℕ) × (line ≡ text ++ 10 ∷ []) × IsTrue (list_all is_printable text)

-- the text as one line: what isn't printable ASCII is a question mark
abbrev pub line_text : List ℕ → List ℕ
line_text text = map visible text ++ 10 ∷ []

-- the line says of the request with this head, which was answered so, by which method and at which target it came, the
-- status, the team and the key; and then why
abbrev pub IsLineOn : List ℕ → List ℕ → List ℕ → Type 0
IsLineOn head response line =
    (front : List ℕ) × (reason : List ℕ) × IsFront head (status_of response) front
    × (line ≡ line_text (front ++ codes ": " ++ reason))
