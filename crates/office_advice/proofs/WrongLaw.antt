-- A line is reported as wrong exactly if it is.
use Rattle.std.proofs.Common.{◌≡◌, ◌==◌, ℕ, ◌+◌, ◌∙◌, ◌||◌, Bool, true, false, List, [], ◌∷◌, Option, Some, None, refl}
use Rattle.std.specs.Prelude.{is_none, is_some, if◌then◌else◌}
use Rattle.std.specs.List.{after_first, before_first, join_with_byte, list_any}
use Rattle.std.specs.Option.{option_and_then, option_map, option_map_or}
use Rattle.office_fields.specs.Requested.{requested_of, part_of}
use Rattle.office_fields.specs.Given.{NamedValue}
use Rattle.office_fields.specs.Kind.{action_of_word, kind_of_word}
use Rattle.office_fields.specs.Value.{plain_name_of}
use Rattle.office_fields.specs.declared.requested.Requested.{Requested}
use Rattle.office_fields.specs.declared.kind.ActionKind.{ActionKind}
use Rattle.office_fields.specs.declared.kind.CommandKind.{CommandKind}
use Rattle.office_script.specs.Bundles.{part_by, part_of_words}
use Rattle.office_script.specs.Escapes.{unescaped}
use Rattle.office_script.specs.Fields.{field_of, fields_of}
use Rattle.office_script.specs.Keys.{key_of}
use Rattle.office_script.specs.Lines.{says_nothing}
use Rattle.office_script.specs.Requests.{requested_by, request_of, request_of_words, requests_of_line}
use Rattle.office_script.specs.Words.{words_of}
use Rattle.office_script.specs.declared.keys.Dash.{Dash}
use Rattle.office_script.specs.declared.requests.LineRequest.{LineRequest}
use Rattle.office_advice.specs.Cause.{can_be_had, command_wrong, fields_wrong, first_field, form_cause, form_wrong}
use Rattle.office_advice.specs.Cause.{part_command_wrong, part_words_wrong, part_wrong, values_wrong, words_wrong}
use Rattle.office_advice.specs.Cause.{wrong_at, wrong_of}
use Rattle.office_advice.specs.declared.cause.Cause.{Cause}
use Rattle.office_advice.specs.declared.cause.Cause.TheVariants.{Escape, NoField}
use Rattle.office_advice.specs.declared.cause.LineCommand.{LineCommand}
use Rattle.office_advice.specs.declared.cause.LineCommand.TheVariants.{Part, Whole}
use Rattle.office_advice.specs.declared.cause.Wrong.{Wrong}

-- ---- fields by their form

abbrev named : List ℕ → List ℕ → NamedValue
named name value = record { name = name; value = value }

cause_step : (name : List ℕ) (has : Bool) (value : Option (List ℕ))
    → is_none (if has then (if is_some value then None else Some Escape) else Some NoField)
    ≡ is_some (if has then option_map (named name) value else None)
cause_step name true None = refl
cause_step name true (Some value) = refl
cause_step name false value = refl

cause_law : (word : List ℕ) → is_none (form_cause word) ≡ is_some (field_of word)
cause_law word = cause_step (before_first (λ b. b == 61) word) (list_any (λ b. b == 61) word)
    (unescaped (after_first (λ b. b == 61) word))

form_step : (index : ℕ) (cause : Option Cause) (later : Option Wrong) (field : Option NamedValue)
    (fields : Option (List NamedValue)) → is_none cause ≡ is_some field
    → is_none later ≡ is_some fields
    → is_none (option_map_or (λ c. Some (wrong_at index c)) cause later)
    ≡ is_some (option_and_then (λ f. option_map (λ fs. f ∷ fs) fields) field)
form_step index None later None fields e h = let no : true ≡ false = e in cc
form_step index None later (Some field) None e h = h
form_step index None later (Some field) (Some fields) e h = h
form_step index (Some cause) later None fields e h = refl
form_step index (Some cause) later (Some field) fields e h = let no : false ≡ true = e in cc

form_law : (index : ℕ) (words : List (List ℕ)) → is_none (form_wrong index words) ≡ is_some (fields_of words)
form_law index [] = refl
form_law index (word ∷ words) =
    form_step index (form_cause word) (form_wrong (index + 1) words) (field_of word) (fields_of words) (cause_law word)
    (form_law (index + 1) words)

-- ---- the command

had_step : (b : Bool) (w : Wrong) → is_none (if b then None else Some w) ≡ b
had_step true w = refl
had_step false w = refl

fields_step : (c : LineCommand) (words : List (List ℕ)) (fields : Option (List NamedValue))
    → is_none (form_wrong (first_field c) words) ≡ is_some fields
    → is_none (fields_wrong c words fields) ≡ option_map_or (can_be_had c) fields false
fields_step c words None e = e
fields_step c words (Some values) e = had_step (can_be_had c values) (values_wrong c values)

read_step : {A B : Type 0} (read : A → Option B) (fields : Option A)
    → option_map_or (λ values. is_some (read values)) fields false ≡ is_some (option_and_then read fields)
read_step read None = refl
read_step read (Some values) = refl

command_step : (kind : Option CommandKind) (words : List (List ℕ))
    → is_none (command_wrong kind words)
    ≡ is_some (option_and_then (λ k. option_and_then (λ values. requested_of k values) (fields_of words)) kind)
command_step None words = refl
command_step (Some kind) words =
    fields_step (Whole kind) words (fields_of words) (form_law (first_field (Whole kind)) words)
    ∙ read_step (requested_of kind) (fields_of words)

command_law : (word : List ℕ) (words : List (List ℕ)) → is_none (command_wrong (kind_of_word word) words)
    ≡ is_some (requested_by word words)
unfolding requested_by
command_law word words = command_step (kind_of_word word) words

-- ---- the command of a bundle

part_step : (kind : Option ActionKind) (words : List (List ℕ))
    → is_none (part_command_wrong kind words)
    ≡ is_some (option_and_then (λ k. option_and_then (λ values. part_of k values) (fields_of words)) kind)
part_step None words = refl
part_step (Some kind) words = fields_step (Part kind) words (fields_of words) (form_law (first_field (Part kind)) words)
    ∙ read_step (part_of kind) (fields_of words)

part_words_law : (words : List (List ℕ)) → is_none (part_words_wrong words) ≡ is_some (part_of_words words)
unfolding part_by
part_words_law [] = refl
part_words_law (word ∷ words) = part_step (action_of_word word) words

nothing_step : (nothing : Bool) (wrong : Option Wrong) (b : Bool) → is_none wrong ≡ b
    → is_none (if nothing then None else wrong) ≡ (nothing || b)
nothing_step true wrong b e = refl
nothing_step false wrong b e = e

pub part_law : (line : List ℕ)
    → is_none (part_wrong line) ≡ (says_nothing line || is_some (part_of_words (words_of line)))
part_law line = nothing_step (says_nothing line) (part_words_wrong (words_of line))
    (is_some (part_of_words (words_of line))) (part_words_law (words_of line))

-- ---- lines

abbrev request : List ℕ → List ℕ → List ℕ → Requested → LineRequest
request text key team requested = record { team = team; key = key; text = text; requested = requested }

parts_step : (text : List ℕ) (key team : Option (List ℕ)) (requested : Option Requested) (wrong : Option Wrong)
    (no_team no_key : Wrong) → is_none wrong ≡ is_some requested
    → is_none (if is_some key then (if is_some team then wrong else Some no_team) else Some no_key)
    ≡ is_some (option_and_then
    (λ k. option_and_then (λ t. option_and_then (λ a. Some (request text k t a)) requested) team) key)
parts_step text None team requested wrong no_team no_key e = refl
parts_step text (Some key) None requested wrong no_team no_key e = refl
parts_step text (Some key) (Some team) None wrong no_team no_key e = e
parts_step text (Some key) (Some team) (Some requested) wrong no_team no_key e = e

words_law : (dash : Dash) (number : ℕ) (words : List (List ℕ))
    → is_none (words_wrong dash number words) ≡ is_some (request_of_words dash number words)
words_law dash number (first ∷ second ∷ word ∷ rest) =
    parts_step (join_with_byte 32 (word ∷ rest)) (key_of dash number first) (plain_name_of second)
    (requested_by word rest) (command_wrong (kind_of_word word) rest) _ _ (command_law word rest)
words_law dash number it = refl

line_step : (nothing : Bool) (wrong : Option Wrong) (request : Option LineRequest) → is_none wrong ≡ is_some request
    → is_none (if nothing then None else wrong)
    ≡ is_some (if nothing then Some [] else option_map (λ r. r ∷ []) request)
line_step true wrong request e = refl
line_step false wrong None e = e
line_step false wrong (Some request) e = e

pub wrong_law : (dash : Dash) (number : ℕ) (line : List ℕ)
    → is_none (wrong_of dash number line) ≡ is_some (requests_of_line dash number line)
wrong_law dash number line =
    line_step (says_nothing line) (words_wrong dash number (words_of line)) (request_of dash number line)
    (words_law dash number (words_of line))
