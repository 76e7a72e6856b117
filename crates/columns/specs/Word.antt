-- Bytes as a word of a line: never nothing, no space and no comma.
use Rattle.std.specs.Prelude.{ℕ, ◌==◌, ◌&&◌, not, nat_le, false, Bool, List, [], ◌∷◌, ◌++◌, codes, if◌then◌else◌}
use Rattle.std.specs.Fmt.{digits}
use Rattle.std.specs.List.{flat_map}
use Rattle.std.specs.Str.{bytes_eq}
use Rattle.columns.specs.Padding.{filled}
use Rattle.columns.specs.declared.escaping.Column.{Column}
use Rattle.columns.specs.declared.escaping.Column.TheVariants.{Rest, Word}

-- `%`
abbrev percent : ℕ
percent = 37

-- `,`
abbrev comma : ℕ
comma = 44

-- a percent sign and two lower case hexadecimal digits
abbrev pub escape : ℕ → List ℕ
escape b = codes "%" ++ filled 48 2 (digits 16 false b)

-- what is shown as it is: visible ASCII, but no percent sign; in a word no comma, and in the last column spaces too
abbrev pub is_plain : Column → ℕ → Bool
is_plain Word b = (nat_le 33 b && nat_le b 126) && (not (b == percent) && not (b == comma))
is_plain Rest b = (nat_le 32 b && nat_le b 126) && not (b == percent)

abbrev pub shown_byte : Column → ℕ → List ℕ
shown_byte column b = if is_plain column b then b ∷ [] else escape b

abbrev pub escaped : Column → List ℕ → List ℕ
escaped column bytes = flat_map (shown_byte column) bytes

-- nothing is `-`, and a lone `-` is `%2d`
abbrev pub shown : Column → List ℕ → List ℕ
shown column [] = codes "-"
shown column (b ∷ bytes) = if bytes_eq (b ∷ bytes) (codes "-") then codes "%2d" else escaped column (b ∷ bytes)

-- a column, or an item of a list with commas
abbrev pub word : List ℕ → List ℕ
word bytes = shown Word bytes

-- the last column, up to the end of the line
abbrev pub rest : List ℕ → List ℕ
rest bytes = shown Rest bytes

-- a comma and the word for each
abbrev pub later_words : List (List ℕ) → List ℕ
later_words texts = flat_map (λ t. codes "," ++ word t) texts

-- words with commas between; none as `-`
abbrev pub words : List (List ℕ) → List ℕ
words [] = codes "-"
words (t ∷ texts) = word t ++ later_words texts
