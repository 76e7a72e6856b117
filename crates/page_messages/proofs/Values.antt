-- The values of a multiplexor on which signals depend.
use Rattle.page_messages.proofs.Common.{◌≡◌, ◌<◌, ◌==◌, ◌∙◌, ℕ, Bool, true, false, List, [], ◌∷◌, Option, None, Some}
use Rattle.page_messages.proofs.Common.{eqb, length, get_or, refl, sym, ap, subst, list_any}
use Rattle.std.proofs.Common.{◌||◌, Contains, eq-eqb, eqb-true}
use Rattle.std.specs.List.{cons_option, dedup, filter_map}
use Rattle.std.proofs.lemmas.List.Folds.{Any-from_list_any, list_any-from_Any}
use Rattle.std.proofs.lemmas.List.Kept.{Contains-dedup_nat, Contains-from_dedup}
use Rattle.page_messages.specs.Layouts.{depends_on, is_number, value_if}
use Rattle.page_messages.specs.declared.shown.Shown.{Shown}

abbrev pub has : ℕ → List ℕ → Bool
has n values = list_any (λ v. v == n) values

-- ---- `dedup` keeps the numbers

both_ways : (a b : Bool) → (a ≡ true → b ≡ true) → (b ≡ true → a ≡ true) → a ≡ b
both_ways true true f g = refl
both_ways true false f g = sym (f refl)
both_ways false true f g = g refl
both_ways false false f g = refl

has_contained : (n : ℕ) (xs : List ℕ) → Contains xs n → has n xs ≡ true
has_contained n xs h = list_any-from_Any (λ v. v == n) xs (h.0, n, h.1, h.2, eq-eqb n n refl)

contained_at : (n x k : ℕ) (xs : List ℕ) → x ≡ n → k < length xs → get_or xs k x ≡ x → Contains xs n
contained_at n x k xs e h i = (k, h, subst (λ v. get_or xs k v ≡ v) e i)

contained : (n : ℕ) (xs : List ℕ) → has n xs ≡ true → Contains xs n
contained n xs h = let w = Any-from_list_any (λ v. v == n) xs h in
    contained_at n w.1 w.0 xs (eqb-true w.1 n w.4) w.2 w.3

pub has-dedup : (n : ℕ) (xs : List ℕ) → has n (dedup eqb xs) ≡ has n xs
has-dedup n xs = both_ways _ _
    (λ h. has_contained n xs (Contains-from_dedup eqb xs n (contained n (dedup eqb xs) h)))
    (λ h. has_contained n (dedup eqb xs) (Contains-dedup_nat xs n (contained n xs h)))

-- ---- those of signals

of_option : (n : ℕ) (o : Option ℕ) (values : List ℕ) → has n (cons_option o values) ≡ (is_number n o || has n values)
of_option n None values = refl
of_option n (Some m) values = refl

pub has-filter_map : (n : ℕ) (shown : List Shown) → has n (filter_map value_if shown) ≡ list_any (depends_on n) shown
has-filter_map n [] = refl
has-filter_map n (s ∷ shown) =
    of_option n (value_if s) (filter_map value_if shown)
    ∙ ap (λ b. is_number n (value_if s) || b) (has-filter_map n shown)
