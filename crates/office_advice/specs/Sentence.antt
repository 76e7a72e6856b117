-- What is stated of a wrong line: one sentence.
use Rattle.std.specs.Prelude.{ℕ, ◌==◌, Bool, List, [], ◌∷◌, ◌++◌, length, map, if◌then◌else◌, codes, decimal}
use Rattle.std.specs.List.{list_any}
use Rattle.dbc_advice.specs.Sentence.{quoted}
use Rattle.office_fields.specs.Field.{row_of}
use Rattle.office_fields.specs.Kind.{all_kinds, word_of}
use Rattle.office_fields.specs.declared.field.Field.{Field}
use Rattle.office_fields.specs.declared.field.Field.TheVariants as field
use Rattle.office_script.specs.declared.keys.Dash.{Dash}
use Rattle.office_script.specs.declared.keys.Dash.TheVariants as dash
use Rattle.office_types.specs.Block.{greatest_of, least_of}
use Rattle.office_types.specs.declared.block.BlockForm.{BlockForm}
use Rattle.office_types.specs.declared.block.BlockForm.TheVariants as block
use Rattle.office_advice.specs.Cause.{command_fields, command_word}
use Rattle.office_advice.specs.Phrase.{phrase_of}
use Rattle.office_advice.specs.declared.cause.Cause.{Cause}
use Rattle.office_advice.specs.declared.cause.Cause.TheVariants.{Short, Key, Team, Command, PartCommand, Count, NoField}
use Rattle.office_advice.specs.declared.cause.Cause.TheVariants.{Escape, Unknown, Doubled, WrongValue, Missing, Apart}

-- `a, b, c`
abbrev pub listed : List (List ℕ) → List ℕ
listed [] = []
listed (a ∷ []) = a
listed (a ∷ (b ∷ rest)) = a ++ (codes ", " ++ listed (b ∷ rest))

abbrev pub field_name : Field → List ℕ
field_name f = (row_of f).name

abbrev pub field_names : List Field → List ℕ
field_names fields = listed (map field_name fields)

-- ---- what the cause means, after what was found

abbrev pub key_meaning : Dash → List ℕ
key_meaning dash.LineNumber = codes ", but a key is 1 to 64 bytes from ! to ~, or - for the number of the line"
key_meaning dash.Wrong = codes ", but a key is 1 to 64 bytes from ! to ~, and not - in a database"

-- `is PHRASE`, of a field
abbrev pub is_text : Field → List ℕ
is_text f = field_name f ++ (codes " is " ++ phrase_of (row_of f).kind)

-- `NAME LEAST to GREATEST`, of the numbers of a block
abbrev pub block_range : List ℕ → BlockForm → List ℕ
block_range name form = name ++ (codes " " ++ (decimal (least_of form) ++ (codes " to " ++ decimal (greatest_of form))))

abbrev pub block_text : List ℕ
block_text =
    codes ", but a block's last number is not below its first, and both are in the range of its form: "
    ++ (block_range (codes "std") block.Std
    ++ (block_range (codes ", ext") block.Ext
    ++ (block_range (codes ", pgn") block.Pgn ++ block_range (codes ", spn") block.Spn)))

abbrev pub apart_text : Field → List ℕ
apart_text field.Last = block_text
apart_text field.Destination = codes ", but only pdu=addressed has a destination"
apart_text f = codes ", but the fields do not go together"

abbrev pub meaning_of : Cause → List ℕ
meaning_of Short = codes ", but a line is a key, a team, a command and its fields, with one space between two"
meaning_of (Key dash) = key_meaning dash
meaning_of Team = codes ", but a team is 1 to 32 bytes of a to z, 0 to 9 and -"
meaning_of Command = codes ", but the commands are " ++ listed (map word_of all_kinds)
meaning_of PartCommand =
    codes ", but a line of a bundle's file is a command other than import and bundle, and its fields but net"
meaning_of Count = codes ", but the file of a bundle has 1 to 64 commands"
meaning_of NoField = codes ", but a field is name=value"
meaning_of Escape = codes ", but in a value % and two hexadecimal digits stand for a byte: write %25 for %"
meaning_of (Unknown c) =
    codes ", but the fields of " ++ (command_word c ++ (codes " are " ++ field_names (command_fields c)))
meaning_of (Doubled f) = codes ", but " ++ (field_name f ++ codes " is given before, and may be given once only")
meaning_of (WrongValue f) = codes ", but " ++ is_text f
meaning_of (Missing f) = codes ", but " ++ (field_name f ++ (codes " is missing: " ++ is_text f))
meaning_of (Apart f) = apart_text f

-- ---- what to do

abbrev pub has_carriage_return : List ℕ → Bool
has_carriage_return word = list_any (λ b. b == 13) word

-- of an empty word, or one with a carriage return
abbrev pub hint_of : List ℕ → List ℕ
hint_of word =
    if length word == 0 then codes "; there is exactly one space between words, and none at the ends of a line"
    else if has_carriage_return word then codes "; end lines with a line feed alone, without a carriage return"
    else []

-- what was found, what that means, and what to do
abbrev pub sentence_of : Cause → List ℕ → List ℕ
sentence_of cause word = codes "found " ++ (quoted word ++ (meaning_of cause ++ hint_of word))
