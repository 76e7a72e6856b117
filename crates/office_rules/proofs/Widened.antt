-- The nodes or the value tables of a frame, with what is new in a file.
use Rattle.office_rules.proofs.Common.{◌≡◌, ◌≤◌, ◌+◌, false, ℕ, List, [], ◌∷◌, ◌++◌, arith, roster_limit}
use Rattle.std.proofs.Common.{not, length}
use Rattle.std.specs.Prelude.{nat_lt}
use Rattle.std.specs.List.{AllByRecursion, IsDistinct}
use Rattle.std.specs.Str.{bytes_eq}
use Rattle.std.proofs.lemmas.Bool.{not-true, or_parts}
use Rattle.std.proofs.lemmas.Bool.Decides.{nat_tests}
use Rattle.std.proofs.lemmas.List.{length-append}
use Rattle.std.proofs.lemmas.List.Elements.{filter_passes, recursion_from_All}
use Rattle.dbc_words.specs.Named.{AreNamedApart, has_name}
use Rattle.dbc_words.proofs.Naming.{apart-filter}
use Rattle.dbc_sheet.specs.WellFormed.{AreRostered}
use Rattle.office_rules.specs.Importing.{new_named}

-- what holds of each thing of two lists
pub each_and : {A : Type 0} (P : A → Type 0) (xs ys : List A) → AllByRecursion P xs → AllByRecursion P ys
    → AllByRecursion P (xs ++ ys)
each_and P [] ys h k = k
each_and P (x ∷ xs) ys h k = (h.0, each_and P xs ys h.1 k)

module _ {A : Type 0} (name : A → List ℕ) where
  none_named : (x : A) (xs ys : List A) → AllByRecursion (λ y. has_name name (x ∷ xs) (name y) ≡ false) ys
      → AllByRecursion (λ y. bytes_eq (name x) (name y) ≡ false) ys
  none_named x xs [] h = tt
  none_named x xs (y ∷ ys) h = ((or_parts _ (has_name name xs (name y)) h.0).0, none_named x xs ys h.1)

  later_named : (x : A) (xs ys : List A) → AllByRecursion (λ y. has_name name (x ∷ xs) (name y) ≡ false) ys
      → AllByRecursion (λ y. has_name name xs (name y) ≡ false) ys
  later_named x xs [] h = tt
  later_named x xs (y ∷ ys) h = ((or_parts _ (has_name name xs (name y)) h.0).1, later_named x xs ys h.1)

  apart-append : (xs ys : List A) → AreNamedApart name xs → AreNamedApart name ys
      → AllByRecursion (λ y. has_name name xs (name y) ≡ false) ys → AreNamedApart name (xs ++ ys)
  unfolding IsDistinct
  apart-append [] ys h k new = k
  apart-append (x ∷ xs) ys h k new = (
    each_and (λ y. bytes_eq (name x) (name y) ≡ false) xs ys h.0 (none_named x xs ys new),
    apart-append xs ys h.1 k (later_named x xs ys new),
  )

  are_new : (xs file : List A) → AllByRecursion (λ y. has_name name xs (name y) ≡ false) (new_named name xs file)
  are_new xs file = recursion_from_All _ (new_named name xs file) (λ k d w.
      not-true _ (filter_passes (λ a. not (has_name name xs (name a))) file k d w))

  -- the nodes or the value tables of a frame, with those of new names in a file
  pub widened_roster : (xs file : List A) → AreRostered name xs → AreRostered name file
      → nat_lt roster_limit (length xs + length (new_named name xs file)) ≡ false
      → AreRostered name (xs ++ new_named name xs file)
  widened_roster xs file h k few = record {
    apart = apart-append xs (new_named name xs file) h.apart
        (apart-filter name (λ a. not (has_name name xs (name a))) file k.apart) (are_new xs file);
    few = let l = length-append xs (new_named name xs file) in
        let fits : length xs + length (new_named name xs file) ≤ roster_limit = grind (arith, nat_tests) in
        omega (arith, l, fits);
  }
