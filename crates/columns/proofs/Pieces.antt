-- A text that is written piece by piece.
use Rattle.std.proofs.Common.{◌≡◌, ◌+◌, ◌<◌, ◌++◌, ℕ, zero, suc, List, [], ◌∷◌, length, take, get_or, refl, sym, ap}
use Rattle.std.proofs.Common.{◌∙◌, arith, add-one, append-nil, append_assoc}
use Rattle.std.specs.List.{flat_map, range_with_len, enumerate_from}
use Rattle.std.proofs.lemmas.List.{take_more}
use Rattle.std.proofs.lemmas.List.Concat.{flat_map-append}
use Rattle.std.proofs.lemmas.List.FromFn.{get_or-enumerate_from, length-enumerate_from}

-- the piece of one item more
one_more : {X A : Type 0} (f : X → List A) (xs : List X) (x : X) → flat_map f (xs ++ x ∷ []) ≡ flat_map f xs ++ f x
one_more f xs x = flat_map-append f xs (x ∷ []) ∙ ap (λ v. flat_map f xs ++ v) (append-nil (f x))

pub items_more : {X A : Type 0} (f : X → List A) (xs : List X) (i : ℕ) (x : X) (before piece after : List A)
    → i < length xs
    → before ≡ flat_map f (take i xs) → piece ≡ f (get_or xs i x) → after ≡ before ++ piece
    → after ≡ flat_map f (take (i + 1) xs)
items_more f xs i x before piece after h so is more =
    more ∙ ap (λ v. v ++ piece) so ∙ ap (λ v. flat_map f (take i xs) ++ v) is
    ∙ sym (one_more f (take i xs) (get_or xs i x)) ∙ ap (flat_map f) (sym (take_more xs i x h))

range_more : (a n : ℕ) → range_with_len a (suc n) ≡ range_with_len a n ++ (a + n) ∷ []
range_more a zero = let e : a ≡ a + 0 = omega arith in ap (λ k. k ∷ []) e
range_more a (suc n) =
    let e : (a + 1) + n ≡ a + suc n = omega arith in
    ap (λ ks. a ∷ ks) (range_more (a + 1) n ∙ ap (λ k. range_with_len (a + 1) n ++ k ∷ []) e)

pub numbers_more : (f : ℕ → List ℕ) (n : ℕ) (before piece after : List ℕ)
    → before ≡ flat_map f (range_with_len 0 n) → piece ≡ f n → after ≡ before ++ piece
    → after ≡ flat_map f (range_with_len 0 (n + 1))
numbers_more f n before piece after so is more =
    let e : 0 + n ≡ n = omega arith in
    more ∙ ap (λ v. v ++ piece) so ∙ ap (λ v. flat_map f (range_with_len 0 n) ++ v) is
    ∙ sym (one_more f (range_with_len 0 n) n)
    ∙ ap (λ k. flat_map f (range_with_len 0 n ++ k ∷ [])) (sym e)
    ∙ ap (flat_map f) (sym (range_more 0 n))
    ∙ ap (λ k. flat_map f (range_with_len 0 k)) (sym (add-one n))

enumerate_take : {X : Type 0} (n i : ℕ) (xs : List X) → enumerate_from n (take i xs) ≡ take i (enumerate_from n xs)
enumerate_take n zero xs = refl
enumerate_take n (suc i) [] = refl
enumerate_take n (suc i) (x ∷ xs) = ap (λ v. (n, x) ∷ v) (enumerate_take (n + 1) i xs)

pub numbered_more : {X : Type 0} (f : ℕ × X → List ℕ) (xs : List X) (i : ℕ) (x : X) (before piece after : List ℕ)
    → i < length xs
    → before ≡ flat_map f (enumerate_from 0 (take i xs)) → piece ≡ f (i, get_or xs i x) → after ≡ before ++ piece
    → after ≡ flat_map f (enumerate_from 0 (take (i + 1) xs))
numbered_more f xs i x before piece after h so is more =
    let below : i < length (enumerate_from 0 xs) = omega (arith, length-enumerate_from 0 xs) in
    let here : get_or (enumerate_from 0 xs) i (i, x) ≡ (i, get_or xs i x) = get_or-enumerate_from 0 xs i (i, x) h
    ∙ (let e : 0 + i ≡ i = omega arith in ap (λ k. (k, get_or xs i x)) e) in
    items_more f (enumerate_from 0 xs) i (i, x) before piece after below
    (so ∙ ap (flat_map f) (enumerate_take 0 i xs)) (is ∙ ap f (sym here)) more
    ∙ ap (flat_map f) (sym (enumerate_take 0 (i + 1) xs))

-- a line of two pieces and its end
pub line_of_pieces : (first second both line a b : List ℕ) → first ≡ a → second ≡ b → both ≡ first ++ second
    → line ≡ both ++ 10 ∷ [] → line ≡ a ++ (b ++ 10 ∷ [])
line_of_pieces first second both line a b is_a is_b joined ended =
    ended ∙ ap (λ v. v ++ 10 ∷ []) (joined ∙ ap (λ v. v ++ second) is_a ∙ ap (λ v. a ++ v) is_b)
    ∙ append_assoc a b (10 ∷ [])
