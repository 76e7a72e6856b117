-- The numbers of the lines of a script that request something, one for each arrival.
use Rattle.std.specs.Prelude.{◌≡◌, ◌⊎◌, ◌+◌, ◌≤◌, ◌<◌, ◌^◌, ℕ, List, [], ◌∷◌, length, if◌then◌else◌}
use Rattle.office_history.specs.declared.arrival.Arrival.{Arrival}
use Rattle.office_script.specs.Lines.{lines_of, says_nothing}
use Rattle.canoffice_cli.specs.declared.progress.RequestLines.{RequestLines}

-- the numbers of those of the lines that request something, where the first line has this number
abbrev pub request_numbers : ℕ → List (List ℕ) → List ℕ
request_numbers number [] = []
request_numbers number (line ∷ lines) =
    if says_nothing line then request_numbers (number + 1) lines else number ∷ request_numbers (number + 1) lines

-- those of a script, whose first line has the number 1
abbrev pub script_numbers : List ℕ → List ℕ
script_numbers script = request_numbers 1 (lines_of script)

-- those that are left
abbrev pub numbers_left : RequestLines → List ℕ
numbers_left lines = request_numbers (lines.number + 1) (lines_of lines.rest.now)

-- The next number is taken, or none is left. A line has at least its end, so the rest is shorter by one byte or more for
-- each line that is counted: no number is above the length of the script.
pub record TakesNext (old new : RequestLines) (number : ℕ) : Type 0 where
  pub room : new.number + length new.rest.now ≤ old.number + length old.rest.now
  pub next : old.number + length old.rest.now < 2 ^ 64
      → (numbers_left old ≡ number ∷ numbers_left new) ⊎ ((numbers_left old ≡ []) × (numbers_left new ≡ []))

-- each of the arrivals has its line in the script
abbrev pub HaveLines : List ℕ → List Arrival → Type 0
HaveLines script arrivals = length arrivals ≤ length (script_numbers script)
