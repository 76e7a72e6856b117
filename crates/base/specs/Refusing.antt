-- Refusals: a list of tests in order. The first that holds is the refusal.
use Rattle.std.specs.Prelude.{Bool, true, false, List, [], ◌∷◌, Option, Some, None}

-- a reason to refuse, and whether it holds
pub record Test (R : Type 0) : Type 0 where
  pub holds : Bool
  pub refusal : R

-- the first that holds
abbrev pub first_refusal : {R : Type 0} → List (Test R) → Option R
first_refusal [] = None
first_refusal (t ∷ ts) = elim t.holds [ true ↦ Some t.refusal | false ↦ first_refusal ts ]
