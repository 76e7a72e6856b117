-- The first refusal of the tests of each of a list's items.
use Rattle.office_import.proofs.Common.{◌≡◌, ◌<◌, ◌+◌, ℕ, true, false, List, [], ◌∷◌, ◌++◌, length, take, drop, get_or}
use Rattle.office_import.proofs.Common.{Option, Some, None, refl, sym, ap, ◌∙◌, flat_map, false≢true, Test}
use Rattle.office_import.proofs.Common.{first_refusal, Refusal, first-later, first-refused}
use Rattle.std.proofs.Common.{is_some}
use Rattle.std.proofs.lemmas.Grind.{flat_map-append}
use Rattle.std.proofs.lemmas.List.{take_more, take-append-drop}
use Rattle.std.proofs.Math.Seq.{drop-cons}
use Prim.Native.Nat.{suc}

none_is : (o : Option Refusal) → is_some o ≡ false → o ≡ None
none_is None h = refl
none_is (Some r) h = absurd (false≢true (sym h))

module _ {A : Type 0} (f : A → List (Test Refusal)) where
  abbrev pub of_each : List A → Option Refusal
  of_each xs = first_refusal (flat_map f xs)

  of_append : (xs ys : List A) (o : Option Refusal) → of_each xs ≡ None → of_each ys ≡ o → of_each (xs ++ ys) ≡ o
  of_append xs ys o before later = ap first_refusal (flat_map-append f xs ys)
      ∙ first-later (flat_map f xs) (flat_map f ys) o before later

  -- no refusal, up to the next item
  pub of_more : (xs : List A) (i : ℕ) (x : A) (o : Option Refusal) → i < length xs → x ≡ get_or xs i x
      → of_each (take i xs) ≡ None → o ≡ first_refusal (f x) → is_some o ≡ false
      → of_each (take (i + 1) xs) ≡ None
  of_more xs i x o lt is before here none =
      ap of_each (take_more xs i x lt)
      ∙ of_append (take i xs) (get_or xs i x ∷ []) None before
      (ap (λ y. of_each (y ∷ [])) (sym is) ∙ first-later (f x) [] None (sym here ∙ none_is o none) refl)

  refused_at : (xs : List A) (i : ℕ) (x : A) (r : Refusal) → i < length xs → x ≡ get_or xs i x
      → of_each (take i xs) ≡ None → Some r ≡ first_refusal (f x)
      → of_each xs ≡ Some r
  refused_at xs i x r lt is before here =
      let rest = drop (suc i) xs in
      ap of_each (sym (take-append-drop i xs))
      ∙ of_append (take i xs) (drop i xs) (Some r) before
      (ap of_each (drop-cons xs i x lt) ∙ ap (λ y. of_each (y ∷ rest)) (sym is)
      ∙ first-refused (f x) (flat_map f rest) r (sym here))

  -- the first refusal is that of the first item that has one
  pub of_found : (xs : List A) (i : ℕ) (x : A) (o : Option Refusal) → i < length xs → x ≡ get_or xs i x
      → of_each (take i xs) ≡ None → o ≡ first_refusal (f x) → is_some o ≡ true
      → o ≡ of_each xs
  of_found xs i x (Some r) lt is before here some = sym (refused_at xs i x r lt is before here)
  of_found xs i x None lt is before here some = absurd (false≢true some)
