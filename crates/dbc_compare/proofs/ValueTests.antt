-- Whether two values of a field are equal.
use Rattle.dbc_compare.proofs.Common.{◌≡◌, ◌==◌, ◌∙◌, Bool, true, false, ℕ, List, refl, sym, ap, bytes_eq, both_ways}
use Rattle.dbc_compare.proofs.Common.{bytes_eq-Decides, Number, ValueText}
use Rattle.std.specs.Bool.{Decides}
use Rattle.std.proofs.lemmas.Bool.{false≢true}
use Rattle.std.proofs.lemmas.Bool.Decides.{Decides-and, Decides-eqb, Decides-int_eq}
use Rattle.std.proofs.lemmas.Slice.Eq.{slice_eq-Decides}
use Rattle.decimal.specs.contracts.number.DecimalPartialEq.TheImpl as decimal_eq
use Rattle.dbc_sheet.specs.contracts.value_texts.ValueTextPartialEq.TheImpl as value_text_eq
use Rattle.dbc_compare.specs.Value.{Value, Whole, Word, WholeOrNone, Dec, Names, Texts, same_names, same_value}

-- the same, of a fact that holds where P does
by_parts : {P Q : Type 0} (r : Bool) → (P → Q) → (Q → P) → Decides r P → Decides r Q
by_parts r to from d = (λ h. to (d.0 h), λ q. d.1 (from q))

-- two variants are never equal
apart : {A : Type 0} {a b : A} (r : Bool) → r ≡ false → (a ≡ b → ⊥) → Decides r (a ≡ b)
apart r e differ = (λ h. absurd (false≢true (sym e ∙ h)), λ same. absurd (differ same))

decimals : (a b : Number) → Decides ((decimal_eq.ghosts).eq a b) (a ≡ b)
decimals a b =
    by_parts _ (λ p i. record { mantissa = p.0 i; exponent = p.1 i })
    (λ e. (ap (λ d. d.mantissa) e, ap (λ d. d.exponent) e))
    (Decides-and _ _ (Decides-int_eq a.mantissa b.mantissa) (Decides-int_eq a.exponent b.exponent))

entries : (a b : ValueText) → Decides ((value_text_eq.ghosts).eq a b) (a ≡ b)
entries a b =
    by_parts _ (λ p i. record { value = p.0 i; text = p.1 i }) (λ e. (ap (λ v. v.value) e, ap (λ v. v.text) e))
    (Decides-and _ _ (decimals a.value b.value) (bytes_eq-Decides a.text b.text))

pub names_decide : (a b : List (List ℕ)) → Decides (same_names a b) (a ≡ b)
names_decide a b = slice_eq-Decides bytes_eq-Decides a b _ refl

pub value_decides : (a b : Value) → Decides (same_value a b) (a ≡ b)
value_decides (Whole m) (Whole n) = by_parts (m == n) (ap Whole) (λ e. cc) (Decides-eqb m n)
value_decides (Word a) (Word b) = by_parts (bytes_eq a b) (ap Word) (λ e. cc) (bytes_eq-Decides a b)
value_decides (WholeOrNone m) (WholeOrNone n) = by_parts (m == n) (ap WholeOrNone) (λ e. cc) (Decides-eqb m n)
value_decides (Dec a) (Dec b) = by_parts _ (ap Dec) (λ e. cc) (decimals a b)
value_decides (Names a) (Names b) = by_parts _ (ap Names) (λ e. cc) (names_decide a b)
value_decides (Texts a) (Texts b) = by_parts _ (ap Texts) (λ e. cc) (slice_eq-Decides entries a b _ refl)
value_decides a b = apart (same_value a b) refl (λ e. cc)

-- ---- what a test that decides has in common with equality

pub itself : {A : Type 0} (test : A → A → Bool) → ((a b : A) → Decides (test a b) (a ≡ b)) → (a : A)
    → test a a ≡ true
itself test decides a = (decides a a).1 refl

flips : {A : Type 0} (test : A → A → Bool) → ((a b : A) → Decides (test a b) (a ≡ b)) → (a b : A) (r q : Bool)
    → test a b ≡ r → test b a ≡ q → r ≡ q
flips test decides a b true true e f = refl
flips test decides a b false false e f = refl
flips test decides a b true false e f =
    absurd (both_ways (test b a) f ((decides b a).1 (sym ((decides a b).0 e))))
flips test decides a b false true e f =
    absurd (both_ways (test a b) e ((decides a b).1 (sym ((decides b a).0 f))))

pub flip : {A : Type 0} (test : A → A → Bool) → ((a b : A) → Decides (test a b) (a ≡ b)) → (a b : A)
    → test a b ≡ test b a
flip test decides a b = flips test decides a b (test a b) (test b a) refl refl
