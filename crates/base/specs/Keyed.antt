-- Lists in the order of a key, like the rows of a table.
use Rattle.std.specs.Prelude.{◌≡◌, ℕ, ◌<◌, ◌≤◌, Bool, List, [], ◌∷◌, length, slice_set, insert, if◌then◌else◌}
use Rattle.std.specs.List.{list_all}
use Rattle.std.specs.Ordering.{is_lt, nat_cmp}
use Rattle.std.specs.Cmp.Lexicographic.{slice_cmp}
use Rattle.std.specs.declared.cmp.Ordering.{Ordering}
use Rattle.std.specs.declared.cmp.Ordering.TheVariants.{Less, Equal, Greater}
use Rattle.base.specs.declared.keyed.Slot.{Slot}
use Rattle.base.specs.declared.keyed.Slot.TheVariants.{At, Before}

-- whether each of the items is above x
abbrev pub are_above : {A : Type 0} → (A → A → Ordering) → A → List A → Bool
are_above order x ys = list_all (λ y. is_lt (order x y)) ys

-- x at y, where the items after y are above x
abbrev pub put_by_order : {A : Type 0} → Ordering → A → A → List A → List A
put_by_order Less x y ys = x ∷ y ∷ ys
put_by_order Equal x y ys = x ∷ ys
put_by_order Greater x y ys = y ∷ x ∷ ys

-- the list with x after the last item that is not above it, or in place of that one where it has the key of x
abbrev pub put : {A : Type 0} → (A → A → Ordering) → A → List A → List A
put order x [] = x ∷ []
put order x (y ∷ ys) = if are_above order x ys then put_by_order (order x y) x y ys else y ∷ put order x ys

-- to write x there, or to insert it there, is to put it
abbrev pub IsSlotOf : {A : Type 0} → (A → A → Ordering) → A → List A → Slot → Type 0
IsSlotOf order x xs (At k) = (k < length xs) × (put order x xs ≡ slice_set xs k x)
IsSlotOf order x xs (Before k) = (k ≤ length xs) × (put order x xs ≡ insert xs k x)

-- texts in the order of their bytes, as SQLite orders them
abbrev pub text_cmp : List ℕ → List ℕ → Ordering
text_cmp = slice_cmp nat_cmp
