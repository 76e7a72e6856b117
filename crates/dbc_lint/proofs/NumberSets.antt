-- What a set of decimals has after one more.
use Rattle.dbc_lint.proofs.Common.{◌≡◌, ◌∙◌, ◌&&◌, ◌||◌, ◌<◌, ◌+◌, ◌++◌, ◌∷◌, ℕ, Bool, true, false, List, cond, not}
use Rattle.dbc_lint.proofs.Common.{refl, ap, drop, get_or, length, sym, take, append_assoc, is_eq, Number, ValueText}
use Rattle.std.proofs.lemmas.List.Folds.{list_any_more}
use Rattle.std.specs.Ordering.{ordering_then}
use Rattle.std.specs.declared.cmp.Ordering.{Ordering}
use Rattle.std.specs.declared.cmp.Ordering.TheVariants.{Less, Equal, Greater}
use Rattle.dbc_lint.specs.NumberSet.{HasValuesOf, holds_number}
use Rattle.dbc_lint.specs.OfSignal.{has_value, remark_twice, same_number, values_twice}
use Rattle.dbc_lint.specs.declared.number_set.NumberSet.{NumberSet}
use Rattle.dbc_lint.specs.declared.remark.Remark.{Remark}

or_else : (t b : Bool) → cond t true b ≡ (t || b)
or_else true b = refl
or_else false b = refl

pub with_number : (o p : Ordering) (there : Bool)
    → cond (is_eq (ordering_then o p)) true there ≡ ((is_eq o && is_eq p) || there)
with_number Less p there = refl
with_number Equal p there = or_else (is_eq p) there
with_number Greater p there = refl

or_swapped : (a b : Bool) → (a || b) ≡ (b || a)
or_swapped true true = refl
or_swapped true false = refl
or_swapped false true = refl
or_swapped false false = refl

not_twice : (b : Bool) → not (not b) ≡ b
not_twice true = refl
not_twice false = refl

-- ---- the texts of a list, one by one

-- the set has the values of one text more
pub seen_more : (texts : List ValueText) (i : ℕ) (v : ValueText) (old new : NumberSet) → i < length texts
    → v ≡ get_or texts i v → HasValuesOf (take i texts) old
    → ((n : Number) → holds_number new n ≡ (same_number v.value n || holds_number old n))
    → HasValuesOf (take (i + 1) texts) new
seen_more texts i v old new below is seen added n =
    added n ∙ ap (λ b. same_number v.value n || b) (seen n)
    ∙ or_swapped (same_number v.value n) (has_value (take i texts) n)
    ∙ ap (λ (w : ValueText). has_value (take i texts) n || same_number w.value n) is
    ∙ sym (list_any_more (λ (w : ValueText). same_number w.value n) texts i v below)

-- and the remark on that one is added
pub remarked_more : (words : List ℕ) (at : ℕ) (texts : List ValueText) (i : ℕ) (v : ValueText) (old : NumberSet)
    (new : Bool) (before after all : List Remark) → drop i texts ≡ v ∷ drop (i + 1) texts
    → HasValuesOf (take i texts) old → new ≡ not (holds_number old v.value)
    → after ≡ before ++ remark_twice words at (not new) v.value
    → before ++ values_twice words at texts i (drop i texts) ≡ all
    → after ++ values_twice words at texts (i + 1) (drop (i + 1) texts) ≡ all
remarked_more words at texts i v old new before after all here seen is_new added all_of =
    let twice : not new ≡ has_value (take i texts) v.value =
    ap not is_new ∙ not_twice (holds_number old v.value) ∙ seen v.value in
    let rest = values_twice words at texts (i + 1) (drop (i + 1) texts) in
    ap (λ (r : List Remark). r ++ rest) (added ∙ ap (λ b. before ++ remark_twice words at b v.value) twice)
    ∙ append_assoc before (remark_twice words at (has_value (take i texts) v.value) v.value) rest
    ∙ ap (λ (t : List ValueText). before ++ values_twice words at texts i t) (sym here) ∙ all_of
