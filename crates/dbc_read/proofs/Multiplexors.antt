-- Signals of which one at most is the multiplexor, as a loop goes through them.
use Rattle.dbc_read.proofs.Common.{◌≡◌, ◌∙◌, ◌&&◌, ◌||◌, Bool, true, false, List, [], ◌∷◌, ◌++◌, refl, sym, ap}
use Rattle.dbc_read.proofs.Common.{list_any}
use Rattle.std.specs.List.{IsDistinct}
use Rattle.dbc_read.proofs.FirstRefused.{any_and_last, apart_and_last}

module _ {A : Type 0} (test : A → Bool) where
  and_true : (b : Bool) → (b && true) ≡ b
  and_true true = refl
  and_true false = refl

  and_false : (b : Bool) → (b && false) ≡ false
  and_false true = refl
  and_false false = refl

  no_other : (xs : List A) (b : Bool) → (b && list_any test xs) ≡ false → list_any (λ a. test a && b) xs ≡ false
  no_other [] b h = refl
  no_other (x ∷ xs) true h = all_true (x ∷ xs) ∙ h
    where
      all_true : (ys : List A) → list_any (λ a. test a && true) ys ≡ list_any test ys
      all_true [] = refl
      all_true (y ∷ ys) = λ i. and_true (test y) i || all_true ys i
  no_other (x ∷ xs) false h = λ i. and_false (test x) i || no_other xs false refl i

  -- no two of the items pass the test, and this is whether one does
  pub record PassOnce (items : List A) (any : Bool) : Type 0 where
    pub known : any ≡ list_any test items
    pub apart : IsDistinct (λ a b. test a && test b) items

  pub none_yet : PassOnce [] false
  unfolding IsDistinct
  none_yet = record { known = refl; apart = tt }

  -- one item more
  pub once_more : (items : List A) (item : A) (any more : Bool) → PassOnce items any → more ≡ (test item || any)
      → (test item && any) ≡ false → PassOnce (items ++ item ∷ []) more
  once_more items item any more h is once = record {
    known = is ∙ ap (λ b. test item || b) h.known ∙ sym (any_and_last test items item);
    apart = apart_and_last (λ a b. test a && test b) items item h.apart
        (no_other items (test item) (ap (λ b. test item && b) (sym h.known) ∙ once));
  }
