-- Tests of which none refuses.
use Rattle.std.proofs.Common.{◌≡◌, Bool, true, false, List, [], ◌∷◌, Option, Some, None, is_some, refl, ap, sym}
use Rattle.std.specs.List.{AllByRecursion}
use Rattle.std.proofs.lemmas.Bool.{false≢true}
use Rattle.base.specs.Refusing.{Test, first_refusal}

none_some : {R : Type 0} (r : R) → Some r ≡ None → ⊥
none_some r e = false≢true (ap is_some (sym e))

rest_holds : {R : Type 0} (t : Test R) (ts : List (Test R)) (b : Bool) → t.holds ≡ b
    → ◌≡◌ {A = Option R} (elim b [ true ↦ Some t.refusal | false ↦ first_refusal ts ]) None
    → (first_refusal ts ≡ None → AllByRecursion (λ u. u.holds ≡ false) ts)
    → AllByRecursion (λ u. u.holds ≡ false) (t ∷ ts)
rest_holds t ts true e h rest = absurd (none_some t.refusal h)
rest_holds t ts false e h rest = (e, rest h)

-- where nothing is refused, no test holds
pub none_holds : {R : Type 0} (ts : List (Test R)) → first_refusal ts ≡ None → AllByRecursion (λ t. t.holds ≡ false) ts
none_holds [] h = tt
none_holds (t ∷ ts) h = rest_holds t ts t.holds refl h (none_holds ts)
