-- What a command goes on with, or the refusal of its tests.
use Rattle.std.specs.Prelude.{◌≡◌, List, Option, Some, None, Result, Ok, Err}
use Rattle.base.specs.Refusing.{Test, first_refusal}
use Rattle.office_types.specs.declared.refusal.Refusal.{Refusal}

-- no test holds, and there is this to go on with; or this is the first refusal
abbrev pub IsGiven : {A : Type 0} → List (Test Refusal) → Option A → Result A Refusal → Type 0
IsGiven tests given (Ok x) = (first_refusal tests ≡ None) × (given ≡ Some x)
IsGiven tests given (Err r) = first_refusal tests ≡ Some r
