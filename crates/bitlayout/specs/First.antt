-- The first answer of a search.
use Rattle.std.specs.Prelude.{ℕ, Option, Some, None}
use Prim.Native.Nat.{zero, suc}

-- the first answer to the question for the numbers below the end, from 0 up
unfoldable pub first_answer : {A : Type 0} → (ℕ → Option A) → ℕ → Option A
first_answer question zero = None
first_answer question (suc n) = elim (first_answer question n) [ Some a ↦ Some a | None ↦ question n ]
