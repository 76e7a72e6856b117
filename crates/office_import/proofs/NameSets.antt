-- The names of a list, one after the other.
use Rattle.office_import.proofs.Common.{◌≡◌, ◌<◌, ◌+◌, ◌||◌, Bool, true, false, cond, ℕ, List, length, get_or, take}
use Rattle.office_import.proofs.Common.{refl, sym, ap, ◌∙◌, is_eq, bytes_eq, text_cmp, has_name}
use Rattle.std.specs.Cmp.Lexicographic.{texts_ties}
use Rattle.std.proofs.lemmas.List.Folds.{list_any_more}

or_last : (t there : Bool) → cond t true there ≡ (there || t)
or_last true true = refl
or_last true false = refl
or_last false true = refl
or_last false false = refl

-- a set that has the names of the first things has those of one more where that one's name is added
pub one_more : {A : Type 0} (name : A → List ℕ) (things : List A) (i : ℕ) (thing : A) (n : List ℕ) (there : Bool)
    → i < length things → thing ≡ get_or things i thing → there ≡ has_name name (take i things) n
    → cond (is_eq (text_cmp (name thing) n)) true there ≡ has_name name (take (i + 1) things) n
one_more name things i thing n there lt at before =
    ap (λ t. cond t true there) (sym (texts_ties (name thing) n))
    ∙ or_last (bytes_eq (name thing) n) there
    ∙ ap (λ b. b || bytes_eq (name thing) n) before
    ∙ ap (λ t. has_name name (take i things) n || bytes_eq (name t) n) at
    ∙ sym (list_any_more (λ a. bytes_eq (name a) n) things i thing lt)
