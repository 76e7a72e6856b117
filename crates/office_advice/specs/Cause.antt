-- Why a line of a script is wrong, and which of its words is to blame.
--
-- The words are looked at from left to right: the key, the team, the command, then each field by its form. If all
-- fields have the form of one, and still they make no command, the first bad field is reported: one that the command
-- doesn't have, that is given before, or whose value isn't of its kind. If no field is bad, it is the first one that is
-- missing, or else the one that doesn't go with the others.
use Rattle.std.specs.Prelude.{ℕ, ◌==◌, ◌+◌, Bool, true, false, not, ◌&&◌, is_some, if◌then◌else◌, List, [], ◌∷◌, Option}
use Rattle.std.specs.Prelude.{Some, None, find, take}
use Rattle.std.specs.Option.{option_map_or}
use Rattle.std.specs.List.{after_first, list_any}
use Rattle.std.specs.Str.{bytes_eq}
use Rattle.office_fields.specs.Requested.{requested_of, part_of}
use Rattle.office_fields.specs.Field.{row_of}
use Rattle.office_fields.specs.Given.{NamedValue}
use Rattle.office_fields.specs.Kind.{action_of_word, action_word, fields_of, kind_of_word, part_fields, word_of}
use Rattle.office_fields.specs.Value.{plain_name_of, value_from}
use Rattle.office_fields.specs.declared.field.Field.{Field}
use Rattle.office_fields.specs.declared.field.Field.TheVariants as field
use Rattle.office_fields.specs.declared.field.Occurrence.{Occurrence}
use Rattle.office_fields.specs.declared.field.Occurrence.TheVariants.{Required, Optional, Repeated}
use Rattle.office_fields.specs.declared.kind.ActionKind.{ActionKind}
use Rattle.office_fields.specs.declared.kind.ActionKind.TheVariants as act
use Rattle.office_fields.specs.declared.kind.CommandKind.{CommandKind}
use Rattle.office_fields.specs.declared.kind.CommandKind.TheVariants.{Act}
use Rattle.office_script.specs.Escapes.{unescaped}
use Rattle.office_script.specs.Fields as script
use Rattle.office_script.specs.Keys.{key_of}
use Rattle.office_script.specs.Lines.{says_nothing}
use Rattle.office_script.specs.Words.{words_of}
use Rattle.office_script.specs.declared.keys.Dash.{Dash}
use Rattle.office_advice.specs.declared.cause.Cause.{Cause}
use Rattle.office_advice.specs.declared.cause.Cause.TheVariants.{Short, Key, Team, Command, PartCommand, NoField}
use Rattle.office_advice.specs.declared.cause.Cause.TheVariants.{Escape, Unknown, Doubled, WrongValue, Missing, Apart}
use Rattle.office_advice.specs.declared.cause.LineCommand.{LineCommand}
use Rattle.office_advice.specs.declared.cause.LineCommand.TheVariants.{Whole, Part}
use Rattle.office_advice.specs.declared.cause.Wrong.{Wrong}

abbrev pub wrong_at : ℕ → Cause → Wrong
wrong_at index cause = record { word = index; cause = cause }

-- ---- the command of a line of a script, or of a bundle's file: its word, its fields, and whether values give it

abbrev pub command_word : LineCommand → List ℕ
command_word (Whole kind) = word_of kind
command_word (Part kind) = action_word kind

abbrev pub command_fields : LineCommand → List Field
command_fields (Whole kind) = fields_of kind
command_fields (Part kind) = part_fields kind

abbrev pub can_be_had : LineCommand → List NamedValue → Bool
can_be_had (Whole kind) values = is_some (requested_of kind values)
can_be_had (Part kind) values = is_some (part_of kind values)

-- the index of its word in the line, after key and team or as the first one, and that of its first field
abbrev pub command_index : LineCommand → ℕ
command_index (Whole kind) = 2
command_index (Part kind) = 0

abbrev pub first_field : LineCommand → ℕ
first_field c = command_index c + 1

-- ---- words that are no fields

-- why a word is no field: it has no `=` (61), or what comes after its first one stands for no bytes
abbrev pub form_cause : List ℕ → Option Cause
form_cause word =
    if list_any (λ b. b == 61) word
    then (if is_some (unescaped (after_first (λ b. b == 61) word)) then None else Some Escape)
    else Some NoField

-- the first of the words that is no field; the index is that of the first word
abbrev pub form_wrong : ℕ → List (List ℕ) → Option Wrong
form_wrong index [] = None
form_wrong index (word ∷ words) =
    option_map_or (λ cause. Some (wrong_at index cause)) (form_cause word) (form_wrong (index + 1) words)

-- ---- fields that are wrong by themselves, or after others

-- whether a value is given under the name
abbrev pub is_given : List NamedValue → List ℕ → Bool
is_given values name = list_any (λ v. bytes_eq v.name name) values

abbrev pub may_repeat : Occurrence → Bool
may_repeat Required = false
may_repeat Optional = false
may_repeat Repeated = true

abbrev pub must_be_given : Occurrence → Bool
must_be_given Required = true
must_be_given Optional = false
must_be_given Repeated = false

-- the field of the command that has the name
abbrev pub field_named : LineCommand → List ℕ → Option Field
field_named c name = find (λ f. bytes_eq (row_of f).name name) (command_fields c)

-- what is wrong with the value of a field, after these values: the field is given before, and may be given once only,
-- or the value isn't one of its kind
abbrev pub field_cause : Field → List NamedValue → List ℕ → Option Cause
field_cause f earlier value =
    if not (may_repeat (row_of f).occurrence) && is_given earlier (row_of f).name then Some (Doubled f)
    else if is_some (value_from (row_of f).kind value) then None
    else Some (WrongValue f)

-- the same of the field that a name means, if it means one
abbrev pub named_cause : LineCommand → Option Field → List NamedValue → List ℕ → Option Cause
named_cause c None earlier value = Some (Unknown c)
named_cause c (Some f) earlier value = field_cause f earlier value

abbrev pub value_cause : LineCommand → List NamedValue → NamedValue → Option Cause
value_cause c earlier v = named_cause c (field_named c v.name) earlier v.value

-- the first that is wrong of the values from an index on
abbrev pub value_wrong : LineCommand → List NamedValue → ℕ → List NamedValue → Option Wrong
value_wrong c all index [] = None
value_wrong c all index (v ∷ later) =
    option_map_or (λ cause. Some (wrong_at (index + first_field c) cause)) (value_cause c (take index all) v)
    (value_wrong c all (index + 1) later)

-- ---- fields that are missing, or do not go with others

abbrev pub is_missing : List NamedValue → Field → Bool
is_missing values f = must_be_given (row_of f).occurrence && not (is_given values (row_of f).name)

-- the first field of the command that must be given and isn't
abbrev pub missing_field : LineCommand → List NamedValue → Option Field
missing_field c values = find (is_missing values) (command_fields c)

-- The field whose value may not go with those of others, where each is right by itself: the last number of a block with
-- its first one and its form, and a destination with a broadcast. Other commands have none; it is the network then.
abbrev pub tied_of : ActionKind → Field
tied_of act.Grant = field.Last
tied_of act.TakePgn = field.Destination
tied_of kind = field.Net

abbrev pub tied_field : LineCommand → Field
tied_field (Whole (Act kind)) = tied_of kind
tied_field (Whole kind) = field.Net
tied_field (Part kind) = tied_of kind

-- the index of the word that gives the first value under the name, if the first of these values is in that word; the
-- command's if none is given
abbrev pub index_of : LineCommand → List ℕ → ℕ → List NamedValue → ℕ
index_of c name index [] = command_index c
index_of c name index (v ∷ values) = if bytes_eq v.name name then index else index_of c name (index + 1) values

abbrev pub apart_wrong : LineCommand → List NamedValue → Wrong
apart_wrong c values = wrong_at (index_of c (row_of (tied_field c)).name (first_field c) values) (Apart (tied_field c))

-- ---- lines

-- what is wrong with values of which the command can't be had
abbrev pub values_wrong : LineCommand → List NamedValue → Wrong
values_wrong c values =
    option_map_or (λ w. w) (value_wrong c values 0 values)
    (option_map_or (λ f. wrong_at (command_index c) (Missing f)) (missing_field c values) (apart_wrong c values))

abbrev pub fields_wrong : LineCommand → List (List ℕ) → Option (List NamedValue) → Option Wrong
fields_wrong c words None = form_wrong (first_field c) words
fields_wrong c words (Some values) = if can_be_had c values then None else Some (values_wrong c values)

-- of a command, by what its word names, with the words after it
abbrev pub command_wrong : Option CommandKind → List (List ℕ) → Option Wrong
command_wrong None words = Some (wrong_at 2 Command)
command_wrong (Some kind) words = fields_wrong (Whole kind) words (script.fields_of words)

abbrev pub part_command_wrong : Option ActionKind → List (List ℕ) → Option Wrong
part_command_wrong None words = Some (wrong_at 0 PartCommand)
part_command_wrong (Some kind) words = fields_wrong (Part kind) words (script.fields_of words)

abbrev pub words_wrong : Dash → ℕ → List (List ℕ) → Option Wrong
words_wrong dash number (first ∷ second ∷ word ∷ rest) =
    if is_some (key_of dash number first)
    then (if is_some (plain_name_of second) then command_wrong (kind_of_word word) rest else Some (wrong_at 1 Team))
    else Some (wrong_at 0 (Key dash))
words_wrong dash number words = Some (wrong_at 0 Short)

-- why the line of this number, from 1, is wrong, if it is
abbrev pub wrong_of : Dash → ℕ → List ℕ → Option Wrong
wrong_of dash number line = if says_nothing line then None else words_wrong dash number (words_of line)

-- why a line of a bundle's file is wrong, if it is
abbrev pub part_words_wrong : List (List ℕ) → Option Wrong
part_words_wrong [] = Some (wrong_at 0 PartCommand)
part_words_wrong (word ∷ rest) = part_command_wrong (action_of_word word) rest

abbrev pub part_wrong : List ℕ → Option Wrong
part_wrong line = if says_nothing line then None else part_words_wrong (words_of line)
