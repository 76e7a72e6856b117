-- What a set of names has after a change.
use Rattle.dbc_words.proofs.Common.{◌≡◌, ◌∙◌, ◌&&◌, ◌||◌, Bool, true, false, cond, not, ℕ, List, refl, sym, ap}
use Rattle.dbc_words.proofs.Common.{bytes_eq, bytes_eq-Decides}
use Rattle.std.specs.Ordering.{is_eq}
use Rattle.std.specs.Cmp.Lexicographic.{texts_ties}
use Rattle.base.specs.Keyed.{text_cmp}
use Rattle.dbc_words.specs.Named.{HasNamesOf, has_name, holds_name}
use Rattle.dbc_words.specs.declared.name_set.NameSet.{NameSet}

same_text : (a b : List ℕ) → is_eq (text_cmp a b) ≡ bytes_eq a b
same_text a b = sym (texts_ties a b)

or_else : (t b : Bool) → cond t true b ≡ (t || b)
or_else true b = refl
or_else false b = refl

and_not : (t b : Bool) → cond t false b ≡ (not t && b)
and_not true b = refl
and_not false b = refl

pub with_name : (a b : List ℕ) (there : Bool) → cond (is_eq (text_cmp a b)) true there ≡ (bytes_eq a b || there)
with_name a b there = ap (λ t. cond t true there) (same_text a b) ∙ or_else (bytes_eq a b) there

pub without_name : (a b : List ℕ) (there : Bool)
    → cond (is_eq (text_cmp a b)) false there ≡ (not (bytes_eq a b) && there)
without_name a b there = ap (λ t. cond t false there) (same_text a b) ∙ and_not (bytes_eq a b) there

not_twice : (b : Bool) → not (not b) ≡ b
not_twice true = refl
not_twice false = refl

-- what the set of the names of things says of a name that is added
pub is_new : {A : Type 0} (name : A → List ℕ) (things : List A) (names : NameSet) (n k : List ℕ) (new : Bool)
    → HasNamesOf name things names → k ≡ n
    → new ≡ not (holds_name names k) → has_name name things n ≡ not new
is_new name things names n k new is same answer =
    sym (is n) ∙ ap (holds_name names) (sym same) ∙ sym (not_twice (holds_name names k)) ∙ ap not (sym answer)

by_sameness : (names : NameSet) (k n : List ℕ) (t : Bool) → bytes_eq k n ≡ t → holds_name names k ≡ true
    → (t || holds_name names n) ≡ holds_name names n
by_sameness names k n true e there = sym (ap (holds_name names) (sym ((bytes_eq-Decides k n).0 e)) ∙ there)
by_sameness names k n false e there = refl

-- a name that is there is added without a change
pub added_again : (names : NameSet) (k n : List ℕ) → false ≡ not (holds_name names k)
    → (bytes_eq k n || holds_name names n) ≡ holds_name names n
added_again names k n answer =
    by_sameness names k n (bytes_eq k n) refl (sym (not_twice (holds_name names k)) ∙ ap not (sym answer))
