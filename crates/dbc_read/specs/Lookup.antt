-- The index of a key in a list, and what the lookup of a list has.
use Rattle.std.specs.Prelude.{◌≡◌, ℕ, suc, Bool, true, false, List, [], ◌∷◌, map, Option, Some, None, slice_get}
use Rattle.std.specs.Prelude.{IsPermutation}
use Rattle.std.specs.List.{list_any}
use Rattle.std.specs.List.Sorted.{IsSortedBy}
use Rattle.std.specs.Ordering.{is_lt}
use Rattle.std.specs.declared.cmp.Ordering.{Ordering}
use Rattle.dbc_read.specs.declared.lookup.Lookup.{Lookup}

-- an index whose key passes the test, or none if no key does
abbrev pub IsIndexIn : {K : Type 0} → (K → Bool) → List K → Option ℕ → Type 0
IsIndexIn test keys None = list_any test keys ≡ false
IsIndexIn test keys (Some i) = slice_get (map test keys) i ≡ Some true

-- the keys, numbered from n on
abbrev pub with_indices : {K : Type 0} → ℕ → List K → List (K × ℕ)
with_indices n [] = []
with_indices n (k ∷ ks) = (k, n) ∷ with_indices (suc n) ks

-- it has the keys, and these with their indices in ascending order
pub record IsLookupOf {K : Type 0} (cmp : K → K → Ordering) (lookup : Lookup K) (keys : List K) : Type 0 where
  pub is : lookup.keys.items ≡ keys
  pub entries : IsPermutation (with_indices 0 keys) lookup.sorted.items
  pub sorted : IsSortedBy (λ (a b : K × ℕ). is_lt (cmp a.0 b.0)) lookup.sorted.items
