-- Each number is counted once.
use Rattle.page_numbers.proofs.Common.{◌≡◌, ℕ, ◌+◌, ◌&&◌, not, Bool, true, false, cond, List, [], ◌∷◌, refl, arith}
use Rattle.page_numbers.proofs.Common.{count_by, false≢true}
use Rattle.std.proofs.lemmas.List.Sums.{sum_by-cons}

count_cons : (p : ℕ → Bool) (x : ℕ) (xs : List ℕ) → count_by p (x ∷ xs) ≡ cond (p x) 1 0 + count_by p xs
count_cons p x xs = sum_by-cons (λ n. cond (p n) 1 0) x xs

one : (l t f : Bool) → (l ≡ true → t ≡ true)
    → cond (l && f) 1 0 + cond (t && (f && not l)) 1 0 + cond (f && not t) 1 0 ≡ cond f 1 0
one true true true h = refl
one true true false h = refl
one true false f h = absurd (false≢true (h refl))
one false true true h = refl
one false true false h = refl
one false false true h = refl
one false false false h = refl

pub all : (l t f : ℕ → Bool) → ((n : ℕ) → l n ≡ true → t n ≡ true) → (ns : List ℕ)
    → count_by (λ n. l n && f n) ns + count_by (λ n. t n && (f n && not (l n))) ns
    + count_by (λ n. f n && not (t n)) ns ≡ count_by f ns
all l t f h [] = refl
all l t f h (n ∷ ns) =
    omega (
      arith,
      count_cons (λ m. l m && f m) n ns,
      count_cons (λ m. t m && (f m && not (l m))) n ns,
      count_cons (λ m. f m && not (t m)) n ns,
      count_cons f n ns,
      one (l n) (t n) (f n) (h n),
      all l t f h ns,
    )
