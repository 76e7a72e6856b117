-- All that is stated of a script: its first wrong line, or that of a bundle's file.
use Rattle.std.specs.Prelude.{◌≡◌, ◌⊎◌, ℕ, ◌+◌, List, [], ◌∷◌, codes, Option, Some, None, IsSome}
use Rattle.std.specs.Option.{option_map_or}
use Rattle.dbc_advice.specs.ReportedLine.{reported_line}
use Rattle.dbc_advice.specs.ShownPath.{shown_path}
use Rattle.dbc_advice.specs.declared.position.Position.{Position}
use Rattle.office_script.specs.Bundles.{parts_in}
use Rattle.office_script.specs.Files.{FailsWith, Files, Gives}
use Rattle.office_script.specs.Lines.{lines_of}
use Rattle.office_script.specs.Requests.{bundle_file}
use Rattle.office_script.specs.Words.{words_of}
use Rattle.office_script.specs.declared.files.PathFault.TheVariants.{Unreadable}
use Rattle.office_script.specs.declared.keys.Dash.{Dash}
use Rattle.office_advice.specs.Cause.{part_wrong, wrong_at, wrong_of}
use Rattle.office_advice.specs.Words.{offset_of, word_of}
use Rattle.office_advice.specs.Sentence.{sentence_of}
use Rattle.office_advice.specs.declared.cause.Cause.TheVariants.{Count}
use Rattle.office_advice.specs.declared.cause.Wrong.{Wrong}

-- the line of this number, from 1, and the column, from 1 and in bytes, at which a word of it begins
abbrev pub position_of_word : ℕ → List ℕ → ℕ → Position
position_of_word number line index = record { line = number; column = offset_of (words_of line) index + 1 }

-- what is stated of the line of this number
abbrev pub wrong_line : List ℕ → ℕ → List ℕ → Wrong → List ℕ
wrong_line file number line w =
    reported_line file (position_of_word number line w.word) (codes "bad line")
    (sentence_of w.cause (word_of (words_of line) w.word))

-- ---- the file of a bundle

-- of its lines, the first of which has this number: what is stated of the first wrong one
abbrev pub first_wrong_part : List ℕ → ℕ → List (List ℕ) → List ℕ
first_wrong_part path number [] = []
first_wrong_part path number (line ∷ lines) =
    option_map_or (wrong_line path number line) (part_wrong line) (first_wrong_part path (number + 1) lines)

abbrev pub or_else : List ℕ → List ℕ → List ℕ
or_else [] other = other
or_else (b ∷ bytes) other = b ∷ bytes

-- what is stated of a bundle whose file has no parts: its first wrong line, or that it has no command or too many; that
-- is stated of the word `bundle` of the script's line
abbrev pub wrong_parts : List ℕ → ℕ → List ℕ → List ℕ → List ℕ → List ℕ
wrong_parts name number line path bytes =
    or_else (first_wrong_part path 1 (lines_of bytes)) (wrong_line name number line (wrong_at 2 Count))

-- nothing is stated of what is requested: it is no bundle, or its file has parts, or it can't be read; and this is
-- stated, under the path of its file
abbrev pub SaysNothing : Files → Option (List ℕ) → Type 0
SaysNothing files None = Unit {0}
SaysNothing files (Some path) = ((bytes : List ℕ) × Gives (files path) bytes × IsSome (parts_in bytes))
    ⊎ FailsWith (files path) Unreadable

abbrev pub Says : Files → (List ℕ → List ℕ → List ℕ) → Option (List ℕ) → List ℕ → Type 0
Says files wrong None stated = ⊥
Says files wrong (Some path) stated = (bytes : List ℕ) × Gives (files path) bytes × (parts_in bytes ≡ None)
    × (stated ≡ wrong (shown_path path) bytes)

-- ---- lines

-- of a line, which may be wrong; the later lines are looked at if nothing is stated of it
abbrev pub IsStatedOfLine : Files → List ℕ → Dash → ℕ → List ℕ → (List ℕ → Type 0) → Option Wrong → List ℕ → Type 0
IsStatedOfLine files name dash number line Later (Some w) stated = stated ≡ wrong_line name number line w
IsStatedOfLine files name dash number line Later None stated =
    Says files (wrong_parts name number line) (bundle_file dash number line) stated
    ⊎ (SaysNothing files (bundle_file dash number line) × Later stated)

-- of lines, the first of which has this number: what is stated of the first wrong one, or of the first whose bundle's
-- file is
abbrev pub IsStatedOf : Files → List ℕ → Dash → ℕ → List (List ℕ) → List ℕ → Type 0
IsStatedOf files name dash number [] stated = stated ≡ []
IsStatedOf files name dash number (line ∷ lines) stated =
    IsStatedOfLine files name dash number line (IsStatedOf files name dash (number + 1) lines)
    (wrong_of dash number line) stated
