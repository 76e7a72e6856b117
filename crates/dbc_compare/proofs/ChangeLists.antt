-- The changes of fields: none of equal things, of unequal ones some, and the other way round the opposite ones.
use Rattle.dbc_compare.proofs.Common.{◌≡◌, ◌++◌, ◌⊎◌, ◌∙◌, Bool, true, false, List, [], ◌∷◌, inl, inr, refl, ap, subst}
use Rattle.dbc_compare.proofs.Common.{cond-true}
use Rattle.std.proofs.Common.{cond}
use Rattle.dbc_compare.specs.Differences.{changes_between, field_changes}
use Rattle.dbc_compare.specs.Fields.{Valued}
use Rattle.dbc_compare.specs.Laws.{swapped_change}
use Rattle.dbc_compare.specs.Value.{Value, same_value, value_text}
use Rattle.dbc_compare.specs.declared.difference.Alteration.{Alteration}
use Rattle.dbc_compare.specs.declared.difference.Alteration.TheVariants as change
use Rattle.dbc_compare.specs.declared.field.SheetField.{SheetField}
use Rattle.dbc_compare.proofs.Members.{In, in_alone, in_either, in_first, in_left, in_right, none_if_empty}
use Rattle.dbc_compare.proofs.ValueTests.{flip, itself, value_decides}

pub both_empty : {A : Type 0} (xs ys : List A) → xs ++ ys ≡ [] → (xs ≡ []) × (ys ≡ [])
both_empty [] ys e = (refl, e)
both_empty (x ∷ xs) ys e = cc e

none_alone : {A : Type 0} (b : Bool) (c : A) → cond b [] (c ∷ []) ≡ [] → b ≡ true
none_alone true c e = refl
none_alone false c e = cc e

-- ---- of one field

pub field_told : (f : SheetField) (b : Bool) (x y : Value) → field_changes f b x y ≡ [] → x ≡ y
unfolding field_changes
field_told f b x y e = (value_decides x y).0 (none_alone (same_value x y) _ e)

pub field_same : (f : SheetField) (b : Bool) (x : Value) → field_changes f b x x ≡ []
unfolding field_changes
field_same f b x =
    cond-true (same_value x x) [] (change.Changed f b (value_text x) (value_text x) ∷ [])
    (itself same_value value_decides x)

in_choice : {A : Type 0} (b : Bool) (c d : A) → In d (cond b [] (c ∷ [])) → (b ≡ false) × (d ≡ c)
in_choice true c d h = absurd (none_if_empty [] refl d h)
in_choice false c d h = (refl, in_alone d c h)

to_choice : {A : Type 0} (b : Bool) (c d : A) → b ≡ false → d ≡ c → In d (cond b [] (c ∷ []))
to_choice true c d f e = cc f
to_choice false c d f e = in_first d c [] e

field_swapped : (f : SheetField) (b : Bool) (x y : Value) (c : Alteration) → In c (field_changes f b x y)
    → In (swapped_change c) (field_changes f b y x)
unfolding field_changes
field_swapped f b x y c h =
    let it = in_choice (same_value x y) (change.Changed f b (value_text x) (value_text y)) c h in
    to_choice (same_value y x) (change.Changed f b (value_text y) (value_text x)) (swapped_change c)
    (flip same_value value_decides y x ∙ it.0) (ap swapped_change it.1)

-- ---- of lists of fields

pub list_same : (breaks : SheetField → Bool) (xs : List Valued) → changes_between breaks xs xs ≡ []
list_same breaks [] = refl
list_same breaks (x ∷ xs) =
    ap (λ v. v ++ changes_between breaks xs xs) (field_same x.0 (breaks x.0) x.1) ∙ list_same breaks xs

-- what each has
abbrev pub AllSame : List Valued → List Valued → Type 0
AllSame [] ys = Unit {0}
AllSame (x ∷ xs) [] = Unit {0}
AllSame (x ∷ xs) (y ∷ ys) = (x.1 ≡ y.1) × AllSame xs ys

pub list_told : (breaks : SheetField → Bool) (xs ys : List Valued) → changes_between breaks xs ys ≡ [] → AllSame xs ys
list_told breaks [] ys e = tt
list_told breaks (x ∷ xs) [] e = tt
list_told breaks (x ∷ xs) (y ∷ ys) e =
    let parts = both_empty (field_changes x.0 (breaks x.0) x.1 y.1) (changes_between breaks xs ys) e in
    (field_told x.0 (breaks x.0) x.1 y.1 parts.0, list_told breaks xs ys parts.1)

-- the same fields
abbrev pub AreAligned : List Valued → List Valued → Type 0
AreAligned [] [] = Unit {0}
AreAligned [] (y ∷ ys) = ⊥
AreAligned (x ∷ xs) [] = ⊥
AreAligned (x ∷ xs) (y ∷ ys) = (x.0 ≡ y.0) × AreAligned xs ys

-- where what breaks a receiver is the same the other way round
module _ (breaks back : SheetField → Bool) (same : (f : SheetField) → breaks f ≡ back f) where
  pub list_swapped : (xs ys : List Valued) → AreAligned xs ys → (c : Alteration) → In c (changes_between breaks xs ys)
      → In (swapped_change c) (changes_between back ys xs)
  list_swapped [] [] aligned c h = absurd (none_if_empty [] refl c h)
  list_swapped [] (y ∷ ys) aligned c h = absurd aligned
  list_swapped (x ∷ xs) [] aligned c h = absurd aligned
  list_swapped (x ∷ xs) (y ∷ ys) aligned c h =
      by_place (in_either (field_changes x.0 (breaks x.0) x.1 y.1) (changes_between breaks xs ys) c h)
      (list_swapped xs ys aligned.1 c)
    where
      by_place : In c (field_changes x.0 (breaks x.0) x.1 y.1) ⊎ In c (changes_between breaks xs ys)
          → (In c (changes_between breaks xs ys) → In (swapped_change c) (changes_between back ys xs))
          → In (swapped_change c) (changes_between back (y ∷ ys) (x ∷ xs))
      by_place (inl here) rest =
          in_left (field_changes y.0 (back y.0) y.1 x.1) (changes_between back ys xs) (swapped_change c)
          (subst (λ f. In (swapped_change c) (field_changes f (back f) y.1 x.1)) aligned.0
          (subst (λ b. In (swapped_change c) (field_changes x.0 b y.1 x.1)) (same x.0)
          (field_swapped x.0 (breaks x.0) x.1 y.1 c here)))
      by_place (inr later) rest =
          in_right (field_changes y.0 (back y.0) y.1 x.1) (changes_between back ys xs) (swapped_change c) (rest later)
