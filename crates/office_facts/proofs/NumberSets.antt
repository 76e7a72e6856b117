-- Ascending numbers: what one more or one less leaves, and where the first gap is.
use Rattle.std.proofs.Common.{◌≡◌, ◌∙◌, ◌==◌, ◌&&◌, ◌||◌, Bool, true, false, not, cond, ℕ, List, [], ◌∷◌, inl, inr}
use Rattle.std.proofs.Common.{refl, sym, ap, subst}
use Rattle.std.specs.List.{filter, insert, remove}
use Rattle.std.specs.List.Sorted.{IsStrictlyIncreasing}
use Rattle.std.specs.Ordering.{nat_cmp}
use Rattle.std.proofs.lemmas.Bool.{eqb-true}
use Rattle.std.proofs.lemmas.Bool.Decides.{eqb_tells}
use Rattle.std.proofs.lemmas.Cmp.{nat_cmp_total}
use Rattle.std.proofs.lemmas.List.Kept.{IsStrictlyIncreasing-filter}
use Rattle.std.proofs.lemmas.Map.Keys.{IsStrictlyIncreasing-from_sorted, sorted_from_strictly_increasing}
use Rattle.base.specs.Ascending.{IsAt, IsGap}
use Rattle.base.specs.Keyed.{put}
use Rattle.base.proofs.AscendingLists.{any_at, put_gap, remove_at}
use Rattle.base.proofs.PutKeeps.{IsStrictlySortedBy-put}
use Rattle.dbc_words.proofs.Naming.{any-insert}
use Rattle.office_types.specs.Free.{is_taken}

abbrev pub itself : ℕ → ℕ
itself n = n

-- One more.

pub rising-insert : (xs : List ℕ) (n i : ℕ) → IsStrictlyIncreasing xs → IsGap itself xs n i
    → IsStrictlyIncreasing (insert xs i n)
rising-insert xs n i rising gap =
    subst IsStrictlyIncreasing (put_gap itself n xs i gap)
    (IsStrictlyIncreasing-from_sorted (put nat_cmp n xs)
    (IsStrictlySortedBy-put nat_cmp nat_cmp_total n xs (sorted_from_strictly_increasing xs rising)))

pub taken-insert : (xs : List ℕ) (n i m : ℕ) → is_taken m (insert xs i n) ≡ ((n == m) || is_taken m xs)
taken-insert xs n i m = any-insert (λ t. t == m) xs i n

pub taken-again : (xs : List ℕ) (n i m : ℕ) → IsAt itself xs n i → is_taken m xs ≡ ((n == m) || is_taken m xs)
taken-again xs n i m at = elim (eqb_tells n m) [
  | inl e ↦ subst (λ k. is_taken k xs ≡ true) e.1 (any_at itself xs n i at) ∙ sym (ap (λ b. b || is_taken m xs) e.0)
  | inr e ↦ sym (ap (λ b. b || is_taken m xs) e.0)
]

-- One less.

other_kept : (b c t : Bool) → c ≡ b → (not b && t) ≡ (not b && (c || t))
other_kept true c t e = refl
other_kept false c t e = sym (ap (λ v. v || t) e)

one_kept : (b c t : Bool) → (b ≡ true → c ≡ false) → (c || (not b && t)) ≡ (not b && (c || t))
one_kept true c t h = ap (λ v. v || false) (h refl)
one_kept false c t h = refl

none_kept : (b : Bool) → false ≡ (not b && false)
none_kept true = refl
none_kept false = refl

any-kept : (n m : ℕ) (xs : List ℕ) → is_taken m (filter (λ t. not (t == n)) xs) ≡ (not (n == m) && is_taken m xs)
any-kept n m [] = none_kept (n == m)
any-kept n m (x ∷ xs) = elim (eqb_tells x n) [
  | inl e ↦
      ap (λ b. is_taken m (cond (not b) (x ∷ filter (λ t. not (t == n)) xs) (filter (λ t. not (t == n)) xs))) e.0
      ∙ any-kept n m xs ∙ other_kept (n == m) (x == m) (is_taken m xs) (ap (λ v. v == m) e.1)
  | inr e ↦
      ap (λ b. is_taken m (cond (not b) (x ∷ filter (λ t. not (t == n)) xs) (filter (λ t. not (t == n)) xs))) e.0
      ∙ ap (λ b. (x == m) || b) (any-kept n m xs)
      ∙ one_kept (n == m) (x == m) (is_taken m xs) (λ t. ap (λ v. x == v) (sym (eqb-true n m t)) ∙ e.0)
]

pub rising-remove : (xs : List ℕ) (n i : ℕ) → IsStrictlyIncreasing xs → IsAt itself xs n i
    → IsStrictlyIncreasing (remove xs i)
rising-remove xs n i rising at =
    subst IsStrictlyIncreasing (sym (remove_at itself xs n i at))
    (IsStrictlyIncreasing-filter (λ t. not (t == n)) xs rising)

pub taken-remove : (xs : List ℕ) (n i m : ℕ) → IsAt itself xs n i
    → is_taken m (remove xs i) ≡ (not (n == m) && is_taken m xs)
taken-remove xs n i m at = ap (is_taken m) (remove_at itself xs n i at) ∙ any-kept n m xs

pub taken-absent : (xs : List ℕ) (n m : ℕ) → is_taken n xs ≡ false → is_taken m xs ≡ (not (n == m) && is_taken m xs)
taken-absent xs n m none = elim (eqb_tells n m) [
  | inl e ↦ subst (λ k. is_taken k xs ≡ false) e.1 none ∙ sym (ap (λ b. not b && is_taken m xs) e.0)
  | inr e ↦ sym (ap (λ b. not b && is_taken m xs) e.0)
]
