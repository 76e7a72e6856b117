-- Which requests have a line, and what it says of each before the reason.
use Rattle.std.specs.Prelude.{◌≡◌, ◌⊎◌, ◌<◌, ℕ, ◌==◌, nat_le, ◌&&◌, not, false, Bool, List, [], ◌∷◌, ◌++◌, Option}
use Rattle.std.specs.Prelude.{codes, if◌then◌else◌, length, map, slice_range, take, unwrap_or}
use Rattle.std.specs.Fmt.{digits}
use Rattle.std.specs.List.{flat_map}
use Rattle.std.specs.Str.{bytes_eq}
use Rattle.httparse.specs.Grammar.{RequestHead}
use Rattle.httparse.specs.Spans.{name_and_value}
use Rattle.columns.specs.Padding.{filled}
use Rattle.office_fields.specs.Given.{read_once}
use Rattle.office_fields.specs.Value.{plain_name_of}
use Rattle.desk_head.specs.Fields.{Headers, named}
use Rattle.desk_head.specs.Head.{HasHead, HasNoHead}
use Rattle.desk_head.specs.Limits.{head_limit}
use Rattle.desk_call.specs.Call.{key_of}

-- ---- which have one

-- the digits of the status of a response
abbrev pub status_of : List ℕ → List ℕ
status_of response = if nat_le 12 (length response) then slice_range response 9 12 else codes "-"

-- something was answered, and not by 200
abbrev pub is_reported : List ℕ → Bool
is_reported response = not (length response == 0) && not (bytes_eq (status_of response) (codes "200"))

-- ---- what is said of each

-- a byte that is shown as it is: printable ASCII, and no space
abbrev pub is_plain : ℕ → Bool
is_plain b = nat_le 33 b && nat_le b 126

-- any other byte is `\x` and two lower case hexadecimal digits
abbrev pub escape : ℕ → List ℕ
escape b = codes "\\x" ++ filled 48 2 (digits 16 false b)

abbrev pub shown_byte : ℕ → List ℕ
shown_byte b = if is_plain b then b ∷ [] else escape b

abbrev pub all_shown : List ℕ → List ℕ
all_shown bytes = flat_map shown_byte bytes

-- a method or a target, as far as its first 200 bytes
abbrev pub shown : List ℕ → List ℕ
shown bytes = if nat_le (length bytes) 200 then all_shown bytes else all_shown (take 200 bytes) ++ codes ".."

-- `METHOD TARGET STATUS TEAM KEY`, with `-` for a team or a key that there isn't
abbrev pub front_text : List ℕ → List ℕ → List ℕ → Option (List ℕ) → Option (List ℕ) → List ℕ
front_text method target status team key =
    shown method ++ (codes " " ++ (shown target ++ (codes " " ++ (status ++ (codes " "
    ++ (unwrap_or team (codes "-") ++ (codes " " ++ unwrap_or key (codes "-"))))))))

-- the same where there is no head
abbrev pub headless_text : List ℕ → List ℕ
headless_text status = codes "- - " ++ (status ++ codes " - -")

-- the team and the key of a request, as the desk reads them of its headers
abbrev pub team_in : Headers → Option (List ℕ)
team_in headers = read_once plain_name_of (named (codes "team") headers)

abbrev pub key_in : Headers → Option (List ℕ)
key_in headers = read_once key_of (named (codes "request-key") headers)

abbrev pub head_text : RequestHead → List ℕ → List ℕ
head_text h status =
    let headers = map name_and_value h.fields in
    front_text h.method h.target status (team_in headers) (key_in headers)

-- the bytes begin with no head within the limits, or are more than a head may be
abbrev pub IsHeadless : List ℕ → Type 0
IsHeadless bytes = HasNoHead bytes ⊎ (head_limit < length bytes)

-- the front of a line on the head that these bytes begin with, or on bytes that begin with none
abbrev pub IsFront : List ℕ → List ℕ → List ℕ → Type 0
IsFront bytes status front =
    ((h : RequestHead) × (rest : List ℕ) × HasHead bytes h rest × (front ≡ head_text h status))
    ⊎ (IsHeadless bytes × (front ≡ headless_text status))
