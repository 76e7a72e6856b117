-- The lines of a text.
use Rattle.std.specs.Prelude.{◌≡◌, ◌≢◌, ◌==◌, if◌then◌else◌, ℕ, Bool, true, List, [], ◌∷◌, ◌++◌, All}
use Rattle.std.specs.List.{slice_split}

-- what is left after the last line feed is a line, unless it is empty
abbrev pub last_line : List ℕ → List (List ℕ)
last_line [] = []
last_line (b ∷ bs) = (b ∷ bs) ∷ []

-- the parts into which line feeds divide a text, the last of them only if it isn't empty
abbrev pub lines_of_parts : List (List ℕ) → List (List ℕ)
lines_of_parts [] = []
lines_of_parts (part ∷ []) = last_line part
lines_of_parts (part ∷ next ∷ parts) = part ∷ lines_of_parts (next ∷ parts)

-- what is between the line feeds of a text, and nothing after one that ends it
abbrev pub lines_of : List ℕ → List (List ℕ)
lines_of text = lines_of_parts (slice_split (λ b. b == 10) text)

-- the lines, each with a line feed after it
abbrev pub with_feeds : List (List ℕ) → List ℕ
with_feeds [] = []
with_feeds (line ∷ lines) = line ++ (10 ∷ with_feeds lines)

-- the text, with a line feed added to a last line that has none
abbrev pub with_last_feed : List ℕ → List ℕ
with_last_feed [] = []
with_last_feed (b ∷ []) = if b == 10 then 10 ∷ [] else b ∷ 10 ∷ []
with_last_feed (b ∷ c ∷ text) = b ∷ with_last_feed (c ∷ text)

-- lines without line feeds, which with one after each are the completed text
pub record AreLinesOf (text : List ℕ) (lines : List (List ℕ)) : Type 0 where
  pub apart : All (All (λ b. b ≢ 10)) lines
  pub joined : with_feeds lines ≡ with_last_feed text

-- a line that requests nothing: an empty one, or one that begins with `#` (35)
abbrev pub says_nothing : List ℕ → Bool
says_nothing [] = true
says_nothing (b ∷ line) = b == 35
