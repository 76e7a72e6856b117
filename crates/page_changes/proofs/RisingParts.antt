-- Of differences that come in order, the messages ascend by their ranks.
use Rattle.page_changes.proofs.Common.{◌≡◌, ◌+◌, ◌<◌, ◌≤◌, Bool, true, false, cond, ℕ, List, [], ◌∷◌, Bor, take}
use Rattle.page_changes.proofs.Common.{drop, map, filter, refl, sym, subst, arith, AllByRecursion, prefix_len, nat_cmp}
use Rattle.page_changes.proofs.Common.{on, Less, false≢true, Difference, Region}
use Rattle.std.specs.List.Sorted.{IsStrictlySortedBy}
use Rattle.std.specs.Cmp.{nat_cmp_is}
use Rattle.dbc_compare.specs.declared.place.Region.TheVariants as place
use Rattle.page_changes.specs.Changes.{AreRising, Rise, is_beside, is_gone, is_in_message, is_of_message, list_of}
use Rattle.page_changes.specs.Changes.{messages_in, number_at, order_at, order_of, place_is_in_message, rank_by}
use Rattle.page_changes.specs.Changes.{rank_in, rank_of, rank_of_change}
use Rattle.page_changes.specs.Parts.{parts_by, with_alike}
use Rattle.page_changes.proofs.ChangeParts.{alike, other_message, same_message}
use Rattle.page_changes.proofs.Cutting.{front}

-- the ranks of parts rise, each by one at least, from one at least
abbrev Above : ℕ → List (List Difference) → Type 0
Above least [] = Unit {0}
Above least (p ∷ parts) = (least ≤ rank_in p + 1) × Above (rank_in p + 2) parts

weaker : (low least : ℕ) (parts : List (List Difference)) → low ≤ least → Above least parts → Above low parts
weaker low least [] le h = tt
weaker low least (p ∷ parts) le h = (omega (arith, le, h.0), h.1)

-- those of messages
abbrev kept : List (List Difference) → List (List Difference)
kept parts = filter is_of_message parts

order_in_place : (gone : Bool) (p : Region) → place_is_in_message p ≡ true
    → order_at gone p ≡ rank_by gone (number_at p) + 1
order_in_place gone (place.Message a b) e = refl
order_in_place gone p e = absurd (false≢true e)

order_of_message : (d : Difference) → is_in_message d ≡ true → order_of d ≡ rank_of d + 1
order_of_message d e = order_in_place (is_gone d) d.place e

no_order : (gone : Bool) (p : Region) → place_is_in_message p ≡ false → order_at gone p ≡ 0
no_order gone (place.Message a b) e = absurd (false≢true (sym e))
no_order gone p e = refl

order_elsewhere : (d : Difference) → is_in_message d ≡ false → order_of d ≡ 0
order_elsewhere d e = no_order (is_gone d) d.place e

module _ (least : ℕ) (x : Difference) (le : least ≤ order_of x) where
  -- x alone, before parts that rise from its place in the order
  alone : (m : Bool) (parts : List (List Difference)) → is_in_message x ≡ m → Above (order_of x) parts
      → (is_in_message x ≡ true → Above (rank_of x + 2) parts)
      → Above least (cond m ((x ∷ []) ∷ parts) parts)
  alone true parts e h later =
      let is : order_of x ≡ rank_of x + 1 = order_of_message x e in
      (omega arith, later e)
  alone false parts e h later = weaker least (order_of x) parts le h

  module _ (y : Difference) (zs : List Difference) (rest : List (List Difference))
      (next : order_of x ≤ order_of y) where
    -- of another message, a part comes later
    apart : (n : Bool) → is_in_message y ≡ n → is_beside x y ≡ false
        → Above (order_of x) (cond n ((y ∷ zs) ∷ kept rest) (kept rest)) → is_in_message x ≡ true
        → Above (rank_of x + 2) (cond n ((y ∷ zs) ∷ kept rest) (kept rest))
    apart true f e h t =
        let here : order_of x ≡ rank_of x + 1 = order_of_message x t in
        let there : order_of y ≡ rank_of y + 1 = order_of_message y f in
        let differ = other_message x y t f e in
        (omega (arith, differ), h.1)
    apart false f e h t =
        let here : order_of x ≡ rank_of x + 1 = order_of_message x t in
        let there : order_of y ≡ 0 = order_elsewhere y f in
        absurd (omega arith)

    step : (b : Bool) → is_beside x y ≡ b → Above (order_of x) (kept ((y ∷ zs) ∷ rest))
        → Above least (kept (cond b ((x ∷ y ∷ zs) ∷ rest) ((x ∷ []) ∷ (y ∷ zs) ∷ rest)))
    step true e h =
        let same = same_message x y e in
        let is : order_of x ≡ rank_of x + 1 = order_of_message x same.0 in
        let inner : Above (order_of x) ((y ∷ zs) ∷ kept rest) =
        subst (λ t. Above (order_of x) (cond t ((y ∷ zs) ∷ kept rest) (kept rest))) same.1 h in
        subst (λ t. Above least (cond t ((x ∷ y ∷ zs) ∷ kept rest) (kept rest))) (sym same.0)
        (omega arith, subst (λ n. Above (n + 2) (kept rest)) (sym same.2) inner.1)
    step false e h =
        alone (is_in_message x) (kept ((y ∷ zs) ∷ rest)) refl h (apart (is_in_message y) refl e h)

  after : (ds : List Difference) → Rise (order_of x) ds → Above (order_of x) (kept (parts_by is_beside ds))
      → Above least (kept (with_alike is_beside x (parts_by is_beside ds)))
  after [] rise h = alone (is_in_message x) [] refl tt (λ e. tt)
  after (y ∷ ys) rise h =
      let k : ℕ = prefix_len (is_beside y) ys in
      let is = front is_beside alike y ys in
      let rest = parts_by is_beside (drop k ys) in
      let inner : Above (order_of x) (kept ((y ∷ take k ys) ∷ rest)) =
      subst (λ ps. Above (order_of x) (kept ps)) is h in
      subst (λ ps. Above least (kept (with_alike is_beside x ps))) (sym is)
      (step y (take k ys) rest rise.0 (is_beside x y) refl inner)

parts_above : (ds : List Difference) (least : ℕ) → Rise least ds → Above least (kept (parts_by is_beside ds))
parts_above [] least h = tt
parts_above (x ∷ ds) least h = after least x h.0 ds h.1 (parts_above ds (order_of x) h.1)

-- ---- as they are listed

all_later : (n least : ℕ) (items : List (Bor (List Difference))) → n + 2 ≤ least → Above least (map list_of items)
    → AllByRecursion (λ m. nat_cmp n (rank_of_change m) ≡ Less) items
all_later n least [] le h = tt
all_later n least (m ∷ items) le h =
    let above : n < rank_of_change m = omega (arith, h.0) in
    let further : n + 2 ≤ rank_of_change m + 2 = omega arith in
    (sym (nat_cmp_is n (rank_of_change m) Less above), all_later n (rank_of_change m + 2) items further h.1)

sorted_from : (least : ℕ) (items : List (Bor (List Difference))) → Above least (map list_of items)
    → IsStrictlySortedBy (on rank_of_change nat_cmp) items
unfolding IsStrictlySortedBy
sorted_from least [] h = tt
sorted_from least (m ∷ items) h = (
  all_later (rank_of_change m) (rank_of_change m + 2) items (omega arith) h.1,
  sorted_from (rank_of_change m + 2) items h.1,
)

pub by_number : (ds : List Difference) (items : List (Bor (List Difference))) → map list_of items ≡ messages_in ds
    → AreRising ds → IsStrictlySortedBy (on rank_of_change nat_cmp) items
by_number ds items is rising = sorted_from 0 items (subst (Above 0) (sym is) (parts_above ds 0 rising))
