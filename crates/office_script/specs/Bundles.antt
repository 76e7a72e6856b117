-- The parts of a bundle, as a file has them: a line for each, of a command without a file and its fields.
use Rattle.std.specs.Prelude.{ℕ, List, [], ◌∷◌, Option, Some, None, if◌then◌else◌}
use Rattle.std.specs.Option.{option_map}
use Rattle.office_types.specs.declared.command.Action.{Action}
use Rattle.office_fields.specs.Requested.{are_parts, part_of}
use Rattle.office_fields.specs.Kind.{action_of_word}
use Rattle.office_fields.specs.Value.{◌>>=◌}
use Rattle.office_script.specs.Fields.{fields_of}
use Rattle.office_script.specs.Lines.{lines_of, says_nothing}
use Rattle.office_script.specs.Words.{words_of}

-- the part that the command of this word and the fields of these words are
unfoldable pub part_by : List ℕ → List (List ℕ) → Option Action
part_by word rest = do
  kind ← action_of_word word
  fields ← fields_of rest
  part_of kind fields

abbrev pub part_of_words : List (List ℕ) → Option Action
part_of_words [] = None
part_of_words (word ∷ rest) = part_by word rest

-- the parts of the lines, in order; a line may say nothing
abbrev pub parts_of_lines : List (List ℕ) → Option (List Action)
parts_of_lines [] = Some []
parts_of_lines (line ∷ lines) =
    if says_nothing line then parts_of_lines lines
    else part_of_words (words_of line) >>= λ part. option_map (λ parts. part ∷ parts) (parts_of_lines lines)

-- the parts that a file has, 1 to 64
abbrev pub parts_in : List ℕ → Option (List Action)
parts_in bytes = parts_of_lines (lines_of bytes) >>= are_parts
