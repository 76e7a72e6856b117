-- What two writers received of an outcome. Nothing is stated of a writer whose bytes are unknown.
use Rattle.std.specs.Prelude.{◌≡◌, ◌++◌, ◌⊎◌, ℕ, List, Option}
use Rattle.std.specs.Io.KnownBytes.{Appends, Keeps}
use Rattle.canoffice_cli.specs.Outcome.{Outcome}
use Rattle.canoffice_cli.specs.declared.report.ExitStatus.{ExitStatus}
use Rattle.canoffice_cli.specs.declared.report.ExitStatus.TheVariants.{Failed}

-- the bytes that a writer has before and after, if they are known
abbrev pub Writing : Type 0
Writing = Option (List ℕ) × Option (List ℕ)

-- the whole text was written
abbrev pub IsWritten : Writing → List ℕ → Type 0
IsWritten w text = Appends w.0 w.1 text

-- a prefix of the text was written, which may be none or all of it
abbrev pub IsCut : Writing → List ℕ → Type 0
IsCut w text = (front : List ℕ) × (rest : List ℕ) × (text ≡ front ++ rest) × IsWritten w front

-- nothing was written
abbrev pub IsUntouched : Writing → Type 0
IsUntouched w = Keeps w.0 w.1

-- the whole outcome was written, and the status is its own
abbrev pub IsWhole : Outcome → Writing → Writing → ExitStatus → Type 0
IsWhole o output errors status = IsWritten output o.output × IsWritten errors o.errors × (status ≡ o.status)

-- a write failed: a prefix of the output was written and nothing of the errors, or the output and a prefix of the
-- errors
abbrev pub IsFailed : Outcome → Writing → Writing → ExitStatus → Type 0
IsFailed o output errors status =
    ((IsCut output o.output × IsUntouched errors) ⊎ (IsWritten output o.output × IsCut errors o.errors))
    × (status ≡ Failed)

-- the outcome was delivered, as far as the writers took it
abbrev pub IsDelivered : Outcome → Writing → Writing → ExitStatus → Type 0
IsDelivered o output errors status = IsWhole o output errors status ⊎ IsFailed o output errors status
