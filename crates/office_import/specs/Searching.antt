-- Lists of things with identifiers, in the order of their DBC numbers.
use Rattle.std.specs.Prelude.{ℕ, List}
use Rattle.std.specs.List.Sorted.{IsStrictlySortedBy}
use Rattle.std.specs.Ordering.{on, nat_cmp}
use Rattle.can_id.specs.Ident.{dbc_number}
use Rattle.can_id.specs.declared.ident.Ident.{Ident}

-- the DBC number of a thing's identifier
abbrev pub number_by : {A : Type 0} → (A → Ident) → A → ℕ
number_by ident_of x = dbc_number (ident_of x)

-- each number is above those before it
abbrev pub IsAscending : {A : Type 0} → (A → Ident) → List A → Type 0
IsAscending ident_of xs = IsStrictlySortedBy (on (number_by ident_of) nat_cmp) xs
