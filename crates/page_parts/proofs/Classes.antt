-- The class of an index among all classes.
use Rattle.std.proofs.Common.{◌≡◌, ◌+◌, ◌%◌, ◌<◌, ◌++◌, ◌∙◌, ℕ, zero, suc, List, [], ◌∷◌, Bor, get_or, map, Some, None}
use Rattle.std.proofs.Common.{refl, sym, ap, arith}
use Rattle.std.proofs.Math.ListN.{get_or-map}
use Rattle.std.specs.Prelude.{codes}
use Rattle.page_parts.specs.Colours.{class, classes, shade_class}
use Rattle.page_parts.specs.declared.letters.Shade.{Shade}

pub grey : (shade : Shade) → get_or (classes shade) 8 [] ≡ class shade None
grey shade = refl

below_eight : (shade : Shade) (k : ℕ) → k < 8
    → get_or (classes shade) k [] ≡ shade_class shade ++ (codes " t" ++ (48 + k) ∷ [])
below_eight shade zero h = refl
below_eight shade (suc zero) h = refl
below_eight shade (suc (suc zero)) h = refl
below_eight shade (suc (suc (suc zero))) h = refl
below_eight shade (suc (suc (suc (suc zero)))) h = refl
below_eight shade (suc (suc (suc (suc (suc zero))))) h = refl
below_eight shade (suc (suc (suc (suc (suc (suc zero)))))) h = refl
below_eight shade (suc (suc (suc (suc (suc (suc (suc zero))))))) h = refl
below_eight shade (suc (suc (suc (suc (suc (suc (suc (suc k)))))))) h = absurd (omega (arith, h))

pub coloured : (shade : Shade) (i : ℕ) → get_or (classes shade) (i % 8) [] ≡ class shade (Some i)
coloured shade i = below_eight shade (i % 8) (omega arith)

pub at_index : (all : List (Bor (List ℕ))) (shade : Shade) (k : ℕ) (d : Bor (List ℕ))
    → map (λ (one : Bor (List ℕ)). one.now) all ≡ classes shade → (get_or all k d).now ≡ get_or (classes shade) k d.now
at_index all shade k d is =
    sym (get_or-map (λ (one : Bor (List ℕ)). one.now) all k d) ∙ ap (λ v. get_or v k d.now) is
