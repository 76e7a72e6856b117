-- Which request a line makes.
use Rattle.std.specs.Prelude.{ℕ, List, [], ◌∷◌, Option, Some, None, if◌then◌else◌}
use Rattle.std.specs.List.{join_with_byte}
use Rattle.std.specs.Option.{option_and_then, option_map}
use Rattle.office_fields.specs.Requested.{requested_of}
use Rattle.office_fields.specs.Kind.{kind_of_word}
use Rattle.office_fields.specs.Value.{◌>>=◌, plain_name_of}
use Rattle.office_fields.specs.declared.requested.Requested.{Requested}
use Rattle.office_fields.specs.declared.requested.Requested.TheVariants as requested
use Rattle.office_script.specs.declared.keys.Dash.{Dash}
use Rattle.office_script.specs.declared.requests.LineRequest.{LineRequest}
use Rattle.office_script.specs.Fields.{fields_of}
use Rattle.office_script.specs.Keys.{key_of}
use Rattle.office_script.specs.Lines.{says_nothing}
use Rattle.office_script.specs.Words.{words_of}

-- what the command of this word requests with the fields of these words
unfoldable pub requested_by : List ℕ → List (List ℕ) → Option Requested
requested_by word rest = do
  kind ← kind_of_word word
  fields ← fields_of rest
  requested_of kind fields

-- the request of the words of a line: key, team, command, and its fields. Its text is the words after the team, as they
-- are in the line.
abbrev pub request_of_words : Dash → ℕ → List (List ℕ) → Option LineRequest
request_of_words dash number (first ∷ second ∷ word ∷ rest) = do
  key ← key_of dash number first
  team ← plain_name_of second
  requested ← requested_by word rest
  Some (record { team = team; key = key; text = join_with_byte 32 (word ∷ rest); requested = requested })
request_of_words dash number words = None

-- the request of the line of this number, from 1
abbrev pub request_of : Dash → ℕ → List ℕ → Option LineRequest
request_of dash number line = request_of_words dash number (words_of line)

-- what the line of this number requests: nothing, or one thing; `None` if it is wrong
abbrev pub requests_of_line : Dash → ℕ → List ℕ → Option (List LineRequest)
requests_of_line dash number line =
    if says_nothing line then Some [] else option_map (λ r. r ∷ []) (request_of dash number line)

-- the file of a requested bundle: of a request, and of the line of this number
abbrev pub requested_bundle : Requested → Option (List ℕ)
requested_bundle (requested.Bundle i) = Some i.file
requested_bundle a = None

abbrev pub bundle_file : Dash → ℕ → List ℕ → Option (List ℕ)
bundle_file dash number line = if says_nothing line then None else option_and_then (λ r. requested_bundle r.requested)
    (request_of dash number line)
