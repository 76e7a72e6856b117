-- What a script requests, over the files that it names.
use Rattle.std.specs.Prelude.{◌≡◌, ◌⊎◌, ℕ, ◌+◌, List, [], ◌∷◌, ◌++◌, length, Option, Some, None, Result, Ok, Err, ⊤}
use Rattle.std.specs.Option.{option_map, option_and_then}
use Rattle.office_fields.specs.declared.requested.Requested.{Requested}
use Rattle.office_fields.specs.declared.requested.Requested.TheVariants as requested
use Rattle.office_fields.specs.declared.requested.FileImport.{FileImport}
use Rattle.office_fields.specs.declared.unread.Unread.{Unread}
use Rattle.office_fields.specs.declared.unread.Unread.TheVariants as unread
use Rattle.office_history.specs.declared.arrival.Arrival.{Arrival}
use Rattle.office_history.specs.declared.arrival.Request.{Request}
use Rattle.office_script.specs.declared.files.PathFault.TheVariants as file
use Rattle.office_script.specs.declared.filling.LineFault.{LineFault}
use Rattle.office_script.specs.declared.filling.LineFault.TheVariants as why
use Rattle.office_script.specs.declared.keys.Dash.{Dash}
use Rattle.office_script.specs.declared.requests.LineRequest.{LineRequest}
use Rattle.office_script.specs.declared.script.ScriptFault.{ScriptFault}
use Rattle.office_script.specs.declared.script.ScriptFault.TheVariants as script
use Rattle.office_script.specs.Files.{FailsWith, Files, Gives, HaveArrived, IsRequestFor}
use Rattle.office_script.specs.Bundles.{parts_in}
use Rattle.office_script.specs.Lines.{lines_of}
use Rattle.office_script.specs.Requests.{requests_of_line}

-- what the lines request, in order, if none is wrong; the number is that of the first one
abbrev pub requests_of_lines : Dash → ℕ → List (List ℕ) → Option (List LineRequest)
requests_of_lines dash number [] = Some []
requests_of_lines dash number (line ∷ lines) =
    option_and_then (λ here. option_map (λ rest. here ++ rest) (requests_of_lines dash (number + 1) lines))
    (requests_of_line dash number line)

-- the lines of a script, from its first one, are right, and these are their arrivals with the bytes of the files
pub record AreArrivalsOf (files : Files) (dash : Dash) (lines : List (List ℕ)) (arrivals : List Arrival) : Type 0 where
  pub requests : List LineRequest
  pub requested : requests_of_lines dash 1 lines ≡ Some requests
  pub arrived : HaveArrived files requests arrivals

-- the line of this number, from 1, is the first at which something is amiss: the lines before it have their arrivals
pub record IsFirstAmiss (files : Files) (dash : Dash) (IsAmiss : ℕ → List ℕ → Type 0) (lines : List (List ℕ))
    (number : ℕ) : Type 0 where
  pub before : List (List ℕ)
  pub line : List ℕ
  pub after : List (List ℕ)
  pub parts : lines ≡ before ++ line ∷ after
  pub numbered : number ≡ length before + 1
  pub arrivals : List Arrival
  pub sound : AreArrivalsOf files dash before arrivals
  pub amiss : IsAmiss number line

-- the file of a request, which an import and a bundle have
abbrev pub file_requested : Requested → Option (List ℕ)
file_requested (requested.Command c) = None
file_requested (requested.Import i) = Some i.file
file_requested (requested.Bundle i) = Some i.file

-- a request for a bundle whose file has a wrong line, no part, or too many
pub record RequestsWrongParts (files : Files) (a : Requested) : Type 0 where
  pub bundle : FileImport
  pub requested : a ≡ requested.Bundle bundle
  pub bytes : List ℕ
  pub given : Gives (files bundle.file) bytes
  pub wrong : parts_in bytes ≡ None

-- the line of this number has such a request
pub record NamesWrongParts (files : Files) (dash : Dash) (number : ℕ) (line : List ℕ) : Type 0 where
  pub request : LineRequest
  pub made : requests_of_line dash number line ≡ Some (request ∷ [])
  pub names : RequestsWrongParts files request.requested

-- the line of this number is wrong, or the file of its bundle is
abbrev pub IsWrong : Files → Dash → ℕ → List ℕ → Type 0
IsWrong files dash number line = (requests_of_line dash number line ≡ None) ⊎ NamesWrongParts files dash number line

-- a request that names the file of this path, which may be unreadable
pub record RequestsUnreadable (files : Files) (path : List ℕ) (a : Requested) : Type 0 where
  pub named : file_requested a ≡ Some path
  pub unreadable : FailsWith (files path) file.Unreadable

-- the line of this number has such a request
pub record NamesUnreadable (files : Files) (dash : Dash) (path : List ℕ) (number : ℕ) (line : List ℕ) : Type 0 where
  pub request : LineRequest
  pub made : requests_of_line dash number line ≡ Some (request ∷ [])
  pub names : RequestsUnreadable files path request.requested

-- the fault is that of the first line at which something is amiss; out of memory states nothing
abbrev pub IsScriptFault : Files → Dash → List ℕ → ScriptFault → Type 0
IsScriptFault files dash text (script.BadLine number) =
    IsFirstAmiss files dash (IsWrong files dash) (lines_of text) number
IsScriptFault files dash text (script.Unreadable path) = (number : ℕ)
    × IsFirstAmiss files dash (NamesUnreadable files dash path) (lines_of text) number
IsScriptFault files dash text script.Memory = ⊤

-- the line of this number is right, and these are its arrivals, one or none
pub record AreArrivalsOfLine (files : Files) (dash : Dash) (number : ℕ) (line : List ℕ) (arrivals : List Arrival) : Type
    0 where
  pub requests : List LineRequest
  pub requested : requests_of_line dash number line ≡ Some requests
  pub arrived : HaveArrived files requests arrivals

-- the request for what a text requests, or the file that can't be read; out of memory states nothing
abbrev pub Fills : Files → List ℕ → Requested → Result Request LineFault → Type 0
Fills files text a (Ok request) = IsRequestFor files text a request
Fills files text a (Err why.Wrong) = RequestsWrongParts files a
Fills files text a (Err (why.Unreadable path)) = RequestsUnreadable files path a
Fills files text a (Err why.Memory) = ⊤

-- why a line has no arrival
abbrev pub IsLineFault : Files → Dash → ℕ → List ℕ → LineFault → Type 0
IsLineFault files dash number line why.Wrong = IsWrong files dash number line
IsLineFault files dash number line (why.Unreadable path) = NamesUnreadable files dash path number line
IsLineFault files dash number line why.Memory = ⊤

-- the arrivals of a line were added, or it has none
abbrev pub AddsArrivals : Files → Dash → ℕ → List ℕ → List Arrival → List Arrival → Result (Unit {0}) LineFault → Type 0
AddsArrivals files dash number line before after (Ok u) =
    (here : List Arrival) × AreArrivalsOfLine files dash number line here × (after ≡ before ++ here)
AddsArrivals files dash number line before after (Err fault) = IsLineFault files dash number line fault

-- why words can't be read is why their line has no arrival
abbrev pub line_fault : Unread → LineFault
line_fault unread.Wrong = why.Wrong
line_fault unread.Memory = why.Memory
