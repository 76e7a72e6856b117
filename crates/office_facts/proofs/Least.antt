-- The least free number depends only on which numbers are taken, and it has the form.
use Rattle.std.proofs.Common.{◌≡◌, ℕ, ◌<◌, List, Bool, true, false, length, get_or, sym, refl, ap, ◌∙◌, subst, not}
use Rattle.std.proofs.Common.{◌&&◌, Option, Some, None, eqb, Contains, eq-eqb, eqb-true}
use Rattle.std.specs.List.{list_any, dedup}
use Rattle.std.proofs.lemmas.List.Folds.{list_any-from_Any, Any-from_list_any}
use Rattle.std.proofs.lemmas.List.Kept.{Contains-from_dedup, Contains-dedup_nat}
use Rattle.office_types.specs.Least.{IsLeastOf}
use Rattle.office_types.specs.Free.{IsLeastFree, is_free, is_taken, least_free, has_form}
use Rattle.office_types.specs.Block.{in_block}
use Rattle.office_types.specs.declared.block.Block.{Block}
use Rattle.office_types.specs.declared.free.NumberForm.{NumberForm}
use Rattle.std.specs.Prelude.{◌==◌, IfSome}
use Rattle.office_types.proofs.Least.{both_true, least_once, least_free_is}

both_ways : (a b : Bool) → (a ≡ true → b ≡ true) → (b ≡ true → a ≡ true) → a ≡ b
both_ways true true f g = refl
both_ways true false f g = sym (f refl)
both_ways false true f g = g refl
both_ways false false f g = refl

taken_contained : (n : ℕ) (xs : List ℕ) → Contains xs n → is_taken n xs ≡ true
taken_contained n xs h = list_any-from_Any (λ m. m == n) xs (h.0, n, h.1, h.2, eq-eqb n n refl)

contained_at : (n x k : ℕ) (xs : List ℕ) → x ≡ n → k < length xs → get_or xs k x ≡ x → Contains xs n
contained_at n x k xs e h i = (k, h, subst (λ v. get_or xs k v ≡ v) e i)

contains_taken : (n : ℕ) (xs : List ℕ) → is_taken n xs ≡ true → Contains xs n
contains_taken n xs h = let w = Any-from_list_any (λ m. m == n) xs h in
    contained_at n w.1 w.0 xs (eqb-true w.1 n w.4) w.2 w.3

-- `dedup` keeps the numbers
pub is_taken-dedup : (n : ℕ) (xs : List ℕ) → is_taken n (dedup eqb xs) ≡ is_taken n xs
is_taken-dedup n xs = both_ways _ _
    (λ h. taken_contained n xs (Contains-from_dedup eqb xs n (contains_taken n (dedup eqb xs) h)))
    (λ h. taken_contained n (dedup eqb xs) (Contains-dedup_nat xs n (contains_taken n xs h)))

-- tests that agree have one least number
least_alike : (p q : ℕ → Bool) → ((n : ℕ) → p n ≡ q n) → (o : Option ℕ) → IsLeastOf p o → IsLeastOf q o
least_alike p q e None h = λ m t. h m (e m ∙ t)
least_alike p q e (Some x) h = (sym (e x) ∙ h.0, λ m t. h.1 m (e m ∙ t))

pub least_free-same : (some taken : List ℕ) → ((n : ℕ) → is_taken n some ≡ is_taken n taken)
    → (blocks : List Block) (form : NumberForm)
    → least_free some blocks form ≡ least_free taken blocks form
least_free-same some taken e blocks form =
    least_once (is_free taken blocks form) _ _
    (least_alike (is_free some blocks form) (is_free taken blocks form)
    (λ n. ap (λ b. list_any (in_block n) blocks && (has_form form n && not b)) (e n)) _
    (least_free_is some blocks form))
    (least_free_is taken blocks form)

has_its_form : (taken : List ℕ) (blocks : List Block) (form : NumberForm) (o : Option ℕ)
    → IsLeastFree taken blocks form o → IfSome o (λ n. has_form form n ≡ true)
has_its_form taken blocks form None h = tt
has_its_form taken blocks form (Some n) h =
    (both_true (has_form form n) (not (is_taken n taken))
    (both_true (list_any (in_block n) blocks) (has_form form n && not (is_taken n taken)) h.0).1).0

pub least_free-formed : (taken : List ℕ) (blocks : List Block) (form : NumberForm)
    → IfSome (least_free taken blocks form) (λ n. has_form form n ≡ true)
least_free-formed taken blocks form =
    has_its_form taken blocks form (least_free taken blocks form) (least_free_is taken blocks form)
