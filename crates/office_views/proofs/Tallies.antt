-- Names that are counted.
use Rattle.std.proofs.Common.{◌≡◌, ◌∙◌, ◌+◌, ◌<◌, ◌||◌, Bool, true, false, cond, ℕ, List, [], ◌∷◌, Option, Some}
use Rattle.std.proofs.Common.{length, take, get_or, refl, sym, ap, arith}
use Rattle.std.specs.Prelude.{nat_lt, unwrap_or}
use Rattle.std.specs.BTreeMap.{BTreeMap, get}
use Rattle.std.specs.List.{count_by, list_any}
use Rattle.std.specs.Ordering.{is_eq}
use Rattle.std.specs.Str.{bytes_eq}
use Rattle.std.proofs.lemmas.Bool.{lt-ltb}
use Rattle.std.proofs.lemmas.List.Sums.{sum_by-append, sum_by_more}
use Rattle.std.proofs.lemmas.Map.Text.{is_eq-slice_cmp}
use Rattle.std.proofs.lemmas.Slice.Eq.{bytes_eq-Decides}
use Rattle.base.specs.Keyed.{text_cmp}
use Rattle.office_views.specs.Tally.{once}

-- one more of the name
by_name : (eq : Bool) (name n : List ℕ) (count : List ℕ → ℕ) (k : ℕ) (found : Option ℕ) → (eq ≡ true → name ≡ n)
    → k ≡ count name + 1 → unwrap_or found 0 ≡ count n
    → unwrap_or (cond eq (Some k) found) 0 ≡ count n + once eq
by_name true name n count k found same more is = more ∙ ap (λ v. count v + 1) (same refl)
by_name false name n count k found same more is = is ∙ omega arith

pub name_counted : (old new : BTreeMap (List ℕ) ℕ) (name : List ℕ) (k : ℕ) (n : List ℕ)
    → k ≡ unwrap_or (get text_cmp old name) 0 + 1
    → get text_cmp new n ≡ cond (is_eq (text_cmp name n)) (Some k) (get text_cmp old n)
    → unwrap_or (get text_cmp new n) 0 ≡ unwrap_or (get text_cmp old n) 0 + once (bytes_eq name n)
name_counted old new name k n more updated =
    ap (λ (o : Option ℕ). unwrap_or o 0)
    (updated ∙ ap (λ b. cond b (Some k) (get text_cmp old n)) (is_eq-slice_cmp name n))
    ∙ by_name (bytes_eq name n) name n (λ q. unwrap_or (get text_cmp old q) 0) k (get text_cmp old n)
    (λ e. (bytes_eq-Decides name n).0 e) more refl

-- one item more
pub count_more : {X : Type 0} (p : X → Bool) (xs : List X) (i : ℕ) (x : X) (before after : ℕ) → i < length xs
    → x ≡ get_or xs i x → before ≡ count_by p (take i xs) → after ≡ before + once (p x)
    → after ≡ count_by p (take (i + 1) xs)
count_more p xs i x before after h is so e =
    e ∙ ap (λ v. v + once (p x)) so
    ∙ ap (λ v. count_by p (take i xs) + once (p v)) is
    ∙ sym (sum_by_more (λ y. cond (p y) 1 0) xs i x h)

any_counted : (b any : Bool) (k : ℕ) → any ≡ nat_lt 0 k → (b || any) ≡ nat_lt 0 ((0 + cond b 1 0) + k)
any_counted true any k e = let some : 0 < (0 + 1) + k = omega arith in sym (lt-ltb 0 ((0 + 1) + k) some)
any_counted false any k e = let same : k ≡ (0 + 0) + k = omega arith in e ∙ ap (nat_lt 0) same

-- one at least passes exactly where one passes
pub some_counted : {X : Type 0} (p : X → Bool) (xs : List X) → list_any p xs ≡ nat_lt 0 (count_by p xs)
some_counted p [] = refl
some_counted p (x ∷ xs) =
    any_counted (p x) (list_any p xs) (count_by p xs) (some_counted p xs)
    ∙ ap (nat_lt 0) (sym (sum_by-append (λ y. cond (p y) 1 0) (x ∷ []) xs))
