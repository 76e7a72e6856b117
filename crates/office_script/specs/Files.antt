-- What is known of the files at paths, what reading one may give, and the arrival of a request with the bytes of its
-- file.
use Rattle.std.specs.Prelude.{◌≡◌, ℕ, List, ◌∷◌, ◌++◌, Some}
use Rattle.std.specs.List.{AllZip}
use Rattle.office_types.specs.declared.command.Action.{Action}
use Rattle.office_types.specs.declared.command.Task.TheVariants as task
use Rattle.office_fields.specs.declared.requested.Requested.{Requested}
use Rattle.office_fields.specs.declared.requested.Requested.TheVariants as requested
use Rattle.office_fields.specs.declared.requested.FileImport.{FileImport}
use Rattle.office_history.specs.declared.arrival.Arrival.{Arrival}
use Rattle.office_history.specs.declared.arrival.Request.{Request}
use Rattle.office_script.specs.declared.files.PathFault.{PathFault}
use Rattle.office_script.specs.declared.files.PathFault.TheVariants.{Memory}
use Rattle.office_script.specs.Bundles.{parts_in}
use Rattle.office_script.specs.declared.requests.LineRequest.{LineRequest}

-- what is known of the file of a path: nothing, or that no file can be read there, or its bytes
pub data Holding : Type 0 where
  unknown : Holding
  absent : Holding
  holding : List ℕ → Holding

-- what is known of the file at each path
abbrev pub Files : Type 0
Files = List ℕ → Holding

-- reading may give these bytes: exactly the known ones, and none if no file can be read
abbrev pub Gives : Holding → List ℕ → Type 0
Gives unknown bytes = Unit {0}
Gives absent bytes = ⊥
Gives (holding known) bytes = bytes ≡ known

-- reading may fail with this fault: if the bytes are known, only if memory runs out
abbrev pub FailsWith : Holding → PathFault → Type 0
FailsWith unknown fault = Unit {0}
FailsWith absent fault = Unit {0}
FailsWith (holding known) fault = fault ≡ Memory

-- the request of a bundle whose file has these bytes
pub record IsBundleRequest (text : List ℕ) (i : FileImport) (bytes : List ℕ) (request : Request) : Type 0 where
  pub parts : List Action
  pub found : parts_in bytes ≡ Some parts
  pub command : request.command ≡ record { net = i.net; task = task.Bundle parts }
  pub content : request.content.items ≡ text ++ (10 ∷ bytes)

-- the request is of the text that a line has after its team, for what the text requests; an import has the bytes of its
-- file too, and in its content, after a line feed; a bundle has the parts in its file, and in its content those bytes
abbrev pub IsRequestFor : Files → List ℕ → Requested → Request → Type 0
IsRequestFor files text (requested.Command c) request = (request.command ≡ c) × (request.content.items ≡ text)
IsRequestFor files text (requested.Import i) request =
    (bytes : List ℕ) × Gives (files i.file) bytes × (request.command ≡ record { net = i.net; task = task.Import bytes })
    × (request.content.items ≡ text ++ (10 ∷ bytes))
IsRequestFor files text (requested.Bundle i) request = (bytes : List ℕ) × Gives (files i.file) bytes
    × IsBundleRequest text i bytes request

-- the arrival of what a line requests
pub record IsArrivalOf (files : Files) (r : LineRequest) (a : Arrival) : Type 0 where
  pub team : a.team ≡ r.team
  pub key : a.key ≡ r.key
  pub request : IsRequestFor files r.text r.requested a.request

-- each request has its arrival, in order
abbrev pub HaveArrived : Files → List LineRequest → List Arrival → Type 0
HaveArrived files requests arrivals = AllZip (IsArrivalOf files) requests arrivals
