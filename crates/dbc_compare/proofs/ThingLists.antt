-- The differences of things that are known by name.
use Rattle.dbc_compare.proofs.Common.{◌≡◌, ◌++◌, ◌∙◌, Bool, true, false, not, ℕ, List, [], ◌∷◌, map, Option, Some, None}
use Rattle.dbc_compare.proofs.Common.{inl, inr, refl, sym, ap, subst, flat_map, bytes_eq, bytes_eq-Decides, thing_named}
use Rattle.dbc_compare.proofs.Common.{none_found, some_same, bytes_eq-flip}
use Rattle.dbc_words.specs.Named.{AreNamedApart, has_name}
use Rattle.dbc_compare.specs.Differences.{are_reordered, change_if, changes_since, differences_about}
use Rattle.dbc_compare.specs.Differences.{gone_thing, kept_names, shown_thing, thing_differences}
use Rattle.dbc_compare.specs.Laws.{swapped, swapped_change, swapped_place}
use Rattle.dbc_compare.specs.Value.{same_names}
use Rattle.dbc_compare.specs.declared.difference.Alteration.{Alteration}
use Rattle.dbc_compare.specs.declared.difference.Alteration.TheVariants as change
use Rattle.dbc_compare.specs.declared.difference.Difference.{Difference}
use Rattle.dbc_compare.specs.declared.place.Region.{Region}
use Rattle.dbc_compare.proofs.ChangeLists.{both_empty}
use Rattle.dbc_compare.proofs.Members.{In, all_kept, any_in, empty_if_none, find_none, find_only, found_in, from_flat}
use Rattle.dbc_compare.proofs.Members.{from_map, in_alone, in_either, in_first, in_flat, in_later, in_left, in_map}
use Rattle.dbc_compare.proofs.Members.{in_right, none_if_empty, one_alone}
use Rattle.dbc_compare.proofs.ValueTests.{flip, itself, names_decide}

-- ---- differences in one place

pub about_told : (here : Region) (name : Option (List ℕ)) (changes : List Alteration)
    → differences_about here name changes ≡ [] → changes ≡ []
unfolding differences_about
about_told here name [] e = refl
about_told here name (c ∷ changes) e = cc e

pub about_empty : (here : Region) (name : Option (List ℕ)) (changes : List Alteration) → changes ≡ []
    → differences_about here name changes ≡ []
unfolding differences_about
about_empty here name changes e = ap (map (λ c. record { place = here; name = name; change = c })) e

-- each has its opposite the other way round where each change has
pub about_swapped : (here : Region) (name : Option (List ℕ)) (changes others : List Alteration) (d : Difference)
    → In d (differences_about here name changes)
    → ((c : Alteration) → In c changes → In (swapped_change c) others)
    → In (swapped d) (differences_about (swapped_place here) name others)
unfolding differences_about
about_swapped here name changes others d h opposite =
    let it = from_map (λ (c : Alteration). record { place = here; name = name; change = c }) changes d h in
    subst (λ (v : Difference). In (swapped v)
    (map (λ (c : Alteration). record { place = swapped_place here; name = name; change = c }) others)) (sym it.2)
    (in_map (λ (c : Alteration). record { place = swapped_place here; name = name; change = c }) others
    (swapped_change it.0) (opposite it.0 it.1))

-- ---- lists

pub each_empty : {A B : Type 0} (f : A → List B) (xs : List A) → flat_map f xs ≡ [] → (x : A) → In x xs → f x ≡ []
each_empty f xs e x h = empty_if_none (f x) (λ y k. none_if_empty (flat_map f xs) e y (in_flat f xs x y h k))

pub flat_empty : {A B : Type 0} (f : A → List B) (xs : List A) → ((x : A) → In x xs → f x ≡ []) → flat_map f xs ≡ []
flat_empty f xs each =
    empty_if_none (flat_map f xs)
    (λ y h. let it = from_flat f xs y h in none_if_empty (f it.0) (each it.0 it.1) y it.2)

pub joined_empty : {A : Type 0} (xs ys : List A) → xs ≡ [] → ys ≡ [] → xs ++ ys ≡ []
joined_empty xs ys e f = ap (λ v. v ++ ys) e ∙ f

-- a change that isn't there, and one that is
holds_else : (b : Bool) (c : Alteration) → change_if (not b) c ≡ [] → b ≡ true
holds_else true c e = refl
holds_else false c e = cc e

from_if : (b : Bool) (c d : Alteration) → In d (change_if b c) → (b ≡ true) × (d ≡ c)
from_if true c d h = (refl, in_alone d c h)
from_if false c d h = absurd (none_if_empty [] refl d h)

to_if : (b : Bool) (c d : Alteration) → b ≡ true → d ≡ c → In d (change_if b c)
to_if true c d t e = in_first d c [] e
to_if false c d t e = cc t

from_not : (b : Bool) → not b ≡ true → b ≡ false
from_not true e = cc e
from_not false e = refl

-- ---- who is found

module _ {A : Type 0} (name : A → List ℕ) where
  -- the thing of a name
  pub found_self : (xs : List A) → AreNamedApart name xs → (x : A) → In x xs → (n : List ℕ) → name x ≡ n
      → thing_named name xs n ≡ Some x
  found_self xs apart x h n e =
      find_only (λ a. bytes_eq (name a) n) xs x h ((bytes_eq-Decides (name x) n).1 e)
      (λ y k t. one_alone (λ a b. bytes_eq (name a) (name b)) (λ a b. bytes_eq-flip (name a) (name b)) xs apart y x k h
      ((bytes_eq-Decides (name y) (name x)).1 ((bytes_eq-Decides (name y) n).0 t ∙ sym e)))

  pub found_named : (xs : List A) (n : List ℕ) (x : A) → thing_named name xs n ≡ Some x → In x xs × (name x ≡ n)
  found_named xs n x e =
      let it = found_in (λ a. bytes_eq (name a) n) xs x e in (it.0, (bytes_eq-Decides (name x) n).0 it.1)

  has_itself : (xs : List A) (x : A) → In x xs → has_name name xs (name x) ≡ true
  has_itself xs x h =
      any_in (λ a. bytes_eq (name a) (name x)) xs x h ((bytes_eq-Decides (name x) (name x)).1 refl)

module _ {A : Type 0} (name : A → List ℕ) (changes : A → A → List Alteration) where
  all_names_kept : (xs others : List A) → ((x : A) → In x xs → has_name name others (name x) ≡ true)
      → kept_names name xs others ≡ map name xs
  all_names_kept xs others h =
      all_kept (has_name name others) (map name xs)
      (λ n k. let it = from_map name xs n k in ap (has_name name others) it.2 ∙ h it.0 it.1)

  -- ---- no difference

  same_if_found : (all xs ys : List A) → map name xs ≡ map name ys
      → ((x : A) → In x xs → thing_named name all (name x) ≡ Some x)
      → ((y : A) → In y ys → thing_named name all (name y) ≡ Some y) → xs ≡ ys
  same_if_found all [] [] e h k = refl
  same_if_found all [] (y ∷ ys) e h k = cc e
  same_if_found all (x ∷ xs) [] e h k = cc e
  same_if_found all (x ∷ xs) (y ∷ ys) e h k =
      let heads : name x ≡ name y = cc e in
      let tails : map name xs ≡ map name ys = cc e in
      let same : x ≡ y = some_same x y
      (sym (h x (in_first x x xs refl)) ∙ ap (thing_named name all) heads ∙ k y (in_first y y ys refl)) in
      let rest : xs ≡ ys = same_if_found all xs ys tails (λ z t. h z (in_later z x xs t))
      (λ z t. k z (in_later z y ys t)) in
      λ i. same i ∷ rest i

  found_same : (here : Region) (old : List A) (y : A) (o : Option A) → thing_named name old (name y) ≡ o
      → ((x : A) → In x old → name x ≡ name y → changes x y ≡ [] → x ≡ y)
      → differences_about here (Some (name y)) (changes_since changes o y) ≡ [] → o ≡ Some y
  found_same here old y None e told empty =
      let added : change.Added ∷ [] ≡ [] = about_told here (Some (name y)) (change.Added ∷ []) empty in cc added
  found_same here old y (Some x) e told empty =
      let it = found_named name old (name y) x e in
      ap Some (told x it.0 it.1 (about_told here (Some (name y)) (changes x y) empty))

  pub things_told : (here : Region) (old new : List A) → AreNamedApart name old
      → ((x y : A) → In x old → In y new → name x ≡ name y → changes x y ≡ [] → x ≡ y)
      → thing_differences here name changes old new ≡ [] → old ≡ new
  unfolding thing_differences
  things_told here old new apart told empty =
      let first = both_empty (flat_map (shown_thing here name changes old) new) _ empty in
      let later = both_empty (flat_map (gone_thing here name new) old) _ first.1 in
      let found : (y : A) → In y new → thing_named name old (name y) ≡ Some y =
      λ y k. found_same here old y (thing_named name old (name y)) refl (λ x h. told x y h k)
      (each_empty (shown_thing here name changes old) new first.0 y k) in
      let has_new : (x : A) → In x old → has_name name new (name x) ≡ true =
      λ x h. holds_else (has_name name new (name x)) change.Removed
      (about_told here (Some (name x)) _ (each_empty (gone_thing here name new) old later.0 x h)) in
      let has_old : (y : A) → In y new → has_name name old (name y) ≡ true =
      λ y k. has_itself name old y (found_named name old (name y) y (found y k)).0 in
      let order : same_names (kept_names name old new) (kept_names name new old) ≡ true =
      holds_else _ change.Reordered (about_told here None _ later.1) in
      let names : map name old ≡ map name new =
      sym (all_names_kept old new has_new) ∙ (names_decide _ _).0 order ∙ all_names_kept new old has_old in
      same_if_found old old new names (λ x h. found_self name old apart x h (name x) refl) found

  pub things_same : (here : Region) (xs : List A) → AreNamedApart name xs → ((x : A) → changes x x ≡ [])
      → thing_differences here name changes xs xs ≡ []
  unfolding thing_differences
  things_same here xs apart same =
      joined_empty (flat_map (shown_thing here name changes xs) xs) _
      (flat_empty (shown_thing here name changes xs) xs
      (λ x h. ap (λ o. differences_about here (Some (name x)) (changes_since changes o x))
      (found_self name xs apart x h (name x) refl)
      ∙ about_empty here (Some (name x)) (changes x x) (same x)))
      (joined_empty (flat_map (gone_thing here name xs) xs) _
      (flat_empty (gone_thing here name xs) xs
      (λ x h. about_empty here (Some (name x)) _ (ap (λ b. change_if (not b) change.Removed) (has_itself name xs x h))))
      (about_empty here None _
      (ap (λ b. change_if (not b) change.Reordered) (itself same_names names_decide (kept_names name xs xs)))))

  -- ---- the other way round

  shown_swapped : (here : Region) (old new : List A) → AreNamedApart name new
      → ((x y : A) (c : Alteration) → In c (changes x y) → In (swapped_change c) (changes y x))
      → (y : A) → In y new → (o : Option A) → thing_named name old (name y) ≡ o → (d : Difference)
      → In d (differences_about here (Some (name y)) (changes_since changes o y))
      → In (swapped d) (thing_differences (swapped_place here) name changes new old)
  unfolding thing_differences
  shown_swapped here old new apart opposite_changes y k None e d h =
      let gone : In (swapped d) (gone_thing (swapped_place here) name old y) =
      about_swapped here (Some (name y)) (change.Added ∷ [])
      (change_if (not (has_name name old (name y))) change.Removed) d h
      (λ c t. to_if (not (has_name name old (name y))) change.Removed (swapped_change c)
      (ap not (none_found (λ a. bytes_eq (name a) (name y)) old e)) (ap swapped_change (in_alone c change.Added t))) in
      in_right (flat_map (shown_thing (swapped_place here) name changes new) old) _ (swapped d)
      (in_left (flat_map (gone_thing (swapped_place here) name old) new) _ (swapped d)
      (in_flat (gone_thing (swapped_place here) name old) new y (swapped d) k gone))
  shown_swapped here old new apart opposite_changes y k (Some x) e d h =
      let it = found_named name old (name y) x e in
      let opposite : In (swapped d) (differences_about (swapped_place here) (Some (name y))
      (changes y x)) =
      about_swapped here (Some (name y)) (changes x y)
      (changes y x) d h (opposite_changes x y) in
      let named : In (swapped d) (differences_about (swapped_place here) (Some (name x))
      (changes y x)) =
      subst (λ n. In (swapped d) (differences_about (swapped_place here) (Some n)
      (changes y x))) (sym it.1) opposite in
      let shown : In (swapped d) (shown_thing (swapped_place here) name changes new x) =
      subst (λ (o : Option A). In (swapped d) (differences_about (swapped_place here) (Some (name x))
      (changes_since changes o x))) (sym (found_self name new apart y k (name x) (sym it.1))) named in
      in_left (flat_map (shown_thing (swapped_place here) name changes new) old) _ (swapped d)
      (in_flat (shown_thing (swapped_place here) name changes new) old x (swapped d) it.0 shown)

  gone_swapped : (here : Region) (old new : List A) → (x : A) → In x old → (d : Difference)
      → In d (gone_thing here name new x)
      → In (swapped d) (thing_differences (swapped_place here) name changes new old)
  unfolding thing_differences
  gone_swapped here old new x k d h =
      let opposite : In (swapped d) (shown_thing (swapped_place here) name changes new x) =
      about_swapped here (Some (name x)) (change_if (not (has_name name new (name x))) change.Removed)
      (changes_since changes (thing_named name new (name x)) x) d h
      (λ c t. let it = from_if (not (has_name name new (name x))) change.Removed c t in
      let none : thing_named name new (name x) ≡ None =
      find_none (λ a. bytes_eq (name a) (name x)) new (from_not (has_name name new (name x)) it.0) in
      subst (λ (o : Option A). In (swapped_change c) (changes_since changes o x)) (sym none)
      (in_first (swapped_change c) change.Added [] (ap swapped_change it.1))) in
      in_left (flat_map (shown_thing (swapped_place here) name changes new) old) _ (swapped d)
      (in_flat (shown_thing (swapped_place here) name changes new) old x (swapped d) k opposite)

  order_swapped : (here : Region) (old new : List A) (d : Difference)
      → In d (differences_about here None (change_if (are_reordered name old new) change.Reordered))
      → In (swapped d) (thing_differences (swapped_place here) name changes new old)
  unfolding thing_differences
  order_swapped here old new d h =
      in_right (flat_map (shown_thing (swapped_place here) name changes new) old) _ (swapped d)
      (in_right (flat_map (gone_thing (swapped_place here) name old) new) _ (swapped d)
      (about_swapped here None (change_if (are_reordered name old new) change.Reordered)
      (change_if (are_reordered name new old) change.Reordered) d h
      (λ c t. let it = from_if (are_reordered name old new) change.Reordered c t in
      to_if (are_reordered name new old) change.Reordered (swapped_change c)
      (ap not (flip same_names names_decide (kept_names name new old) (kept_names name old new)) ∙ it.0)
      (ap swapped_change it.1))))

  pub things_swapped : (here : Region) (old new : List A) → AreNamedApart name new
      → ((x y : A) (c : Alteration) → In c (changes x y) → In (swapped_change c) (changes y x)) → (d : Difference)
      → In d (thing_differences here name changes old new)
      → In (swapped d) (thing_differences (swapped_place here) name changes new old)
  unfolding thing_differences
  things_swapped here old new apart opposite_changes d h =
      elim (in_either (flat_map (shown_thing here name changes old) new) _ d h) [
        | inl shown ↦ let it = from_flat (shown_thing here name changes old) new d shown in
            shown_swapped here old new apart opposite_changes it.0 it.1 (thing_named name old (name it.0)) refl d it.2
        | inr later ↦ elim (in_either (flat_map (gone_thing here name new) old) _ d later) [
          | inl gone ↦ let it = from_flat (gone_thing here name new) old d gone in
              gone_swapped here old new it.0 it.1 d it.2
          | inr order ↦ order_swapped here old new d order
        ]
      ]
