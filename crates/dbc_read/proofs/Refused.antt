-- What is refused because a test holds, where none would hold in a sheet.
use Rattle.dbc_read.proofs.Common.{◌≡◌, ◌∙◌, ◌||◌, Bool, true, false, List, [], ◌∷◌, ◌++◌, Option, Some, None, is_some}
use Rattle.dbc_read.proofs.Common.{refl, sym, ap, true≢false, ℕ, ◌≤◌, ◌<◌, ◌+◌, length, length-append, arith, nat_tests}
use Rattle.dbc_read.proofs.Common.{AllByRecursion, list_any, first_refusal, IsRefusal, SheetCode}
use Rattle.std.proofs.Common.{nat_le}
use Rattle.std.specs.List.{IsDistinct}
use Rattle.base.specs.Refusing.{Test}
use Rattle.dbc_words.specs.declared.fault.SheetCode.TheVariants as sheets
use Rattle.dbc_read.specs.Refusal.{Unless, refusal_of}
use Rattle.dbc_read.specs.declared.refusal.Refusal.{Refusal}
use Rattle.dbc_read.specs.declared.refusal.Refusal.TheVariants.{Memory, NoSheet}

-- where no test holds, nothing is refused
none_refuses : {R : Type 0} (ts : List (Test R)) → AllByRecursion (λ t. t.holds ≡ false) ts → first_refusal ts ≡ None
none_refuses [] h = refl
none_refuses {R} (t ∷ ts) h = not_first (none_refuses ts h.1) t.holds h.0
  where
    not_first : first_refusal ts ≡ None → (b : Bool) → b ≡ false
        → ◌≡◌ {A = Option R} (elim b [ true ↦ Some t.refusal | false ↦ first_refusal ts ]) None
    not_first rest true e = absurd (true≢false e)
    not_first rest false e = rest

none_some : {R : Type 0} (r : R) → Some r ≡ None → ⊥
none_some r e = true≢false (ap is_some e)

-- a refusal, where no test holds of what P says
pub refused : (ts : List (Test SheetCode)) (code : SheetCode) (P : Type 0)
    → (P → AllByRecursion (λ t. t.holds ≡ false) ts) → IsRefusal (first_refusal ts) code
    → Unless (refusal_of code) (P → ⊥)
refused ts sheets.DoubleNumber P none is = λ p. none_some _ (sym is ∙ none_refuses ts (none p))
refused ts sheets.DoubleName P none is = λ p. none_some _ (sym is ∙ none_refuses ts (none p))
refused ts sheets.OutsidePayload P none is = λ p. none_some _ (sym is ∙ none_refuses ts (none p))
refused ts sheets.Clash P none is = λ p. none_some _ (sym is ∙ none_refuses ts (none p))
refused ts sheets.NoMultiplexor P none is = λ p. none_some _ (sym is ∙ none_refuses ts (none p))
refused ts sheets.TwoMultiplexors P none is = λ p. none_some _ (sym is ∙ none_refuses ts (none p))
refused ts sheets.TooMany P none is = λ p. none_some _ (sym is ∙ none_refuses ts (none p))
refused ts sheets.Memory P none is = tt

-- what is refused for a part is refused for the whole
pub unless : (refusal : Refusal) (P Q : Type 0) → (Q → P) → Unless refusal (P → ⊥) → Unless refusal (Q → ⊥)
unless Memory P Q f h = tt
unless NoSheet P Q f h = λ q. h (f q)

or_false : (a b : Bool) → a ≡ false → b ≡ false → (a || b) ≡ false
or_false a b p q = rw (p, q) refl

-- in a list of distinct items none before an item equals it
pub none_before : {A : Type 0} (e : A → A → Bool) (xs : List A) (y : A) (ys : List A) → IsDistinct e (xs ++ y ∷ ys)
    → list_any (λ x. e x y) xs ≡ false
unfolding IsDistinct
none_before e [] y ys h = refl
none_before {A} e (x ∷ xs) y ys h = or_false (e x y) (list_any (λ z. e z y) xs) (at xs h.0) (none_before e xs y ys h.1)
  where
    at : (zs : List A) → AllByRecursion (λ z. e x z ≡ false) (zs ++ y ∷ ys) → e x y ≡ false
    at [] a = a.0
    at (z ∷ zs) a = at zs a.1

-- there is room for an item before others
pub room : {A : Type 0} (limit : ℕ) (xs : List A) (y : A) (ys : List A) → length (xs ++ y ∷ ys) ≤ limit
    → nat_le limit (length xs) ≡ false
room limit xs y ys few =
    let e : length (xs ++ y ∷ ys) ≡ length xs + length (y ∷ ys) = length-append xs (y ∷ ys) in
    let less : length xs < limit = omega (arith, e, few) in
    grind (arith, nat_tests)

-- what holds of each item holds of one between others
pub each_middle : {A : Type 0} (P : A → Type 0) (xs : List A) (y : A) (ys : List A) → AllByRecursion P (xs ++ y ∷ ys)
    → P y
each_middle P [] y ys h = h.0
each_middle P (x ∷ xs) y ys h = each_middle P xs y ys h.1
