-- A text to which pieces are appended one by one.
use Rattle.std.proofs.Common.{◌≡◌, ◌+◌, ◌<◌, ◌++◌, ℕ, zero, suc, Bool, true, false, List, [], ◌∷◌, length, take, filter}
use Rattle.std.proofs.Common.{get_or, cond, refl, sym, ap, ◌∙◌, arith, add-one, append-nil, append_assoc}
use Rattle.std.specs.List.{enumerate_from, flat_map, range_with_len}
use Rattle.std.proofs.lemmas.List.{take_more}
use Rattle.std.proofs.lemmas.List.Concat.{flat_map-append}
use Rattle.std.proofs.lemmas.List.Elements.{filter-append}
use Rattle.std.proofs.lemmas.List.FromFn.{get_or-enumerate_from, length-enumerate_from}

-- one piece after the other
pub also : {b c : List ℕ} (a x y : List ℕ) → b ≡ a ++ x → c ≡ b ++ y → c ≡ a ++ (x ++ y)
also a x y first second = second ∙ ap (λ v. v ++ y) first ∙ append_assoc a x y

-- the piece of one item more
pub one_more : {X : Type 0} (f : X → List ℕ) (xs : List X) (x : X) → flat_map f (xs ++ x ∷ []) ≡ flat_map f xs ++ f x
one_more f xs x = flat_map-append f xs (x ∷ []) ∙ ap (λ v. flat_map f xs ++ v) (append-nil (f x))

pub items_pushed : {X : Type 0} (f : X → List ℕ) (xs : List X) (i : ℕ) (x : X) (start before after : List ℕ)
    → i < length xs → x ≡ get_or xs i x
    → before ≡ start ++ flat_map f (take i xs) → after ≡ before ++ f x → after ≡ start ++ flat_map f (take (i + 1) xs)
items_pushed f xs i x start before after within is so more =
    also start (flat_map f (take i xs)) (f x) so more
    ∙ ap (λ v. start ++ v)
    (sym (one_more f (take i xs) x) ∙ ap (λ y. flat_map f (take i xs ++ y ∷ [])) is
    ∙ ap (flat_map f) (sym (take_more xs i x within)))

-- ---- of the numbers of a range

range_more : (a n : ℕ) → range_with_len a (suc n) ≡ range_with_len a n ++ (a + n) ∷ []
range_more a zero = let e : a ≡ a + 0 = omega arith in ap (λ k. k ∷ []) e
range_more a (suc n) =
    let e : (a + 1) + n ≡ a + suc n = omega arith in
    ap (λ ks. a ∷ ks) (range_more (a + 1) n ∙ ap (λ k. range_with_len (a + 1) n ++ k ∷ []) e)

pub one_number_more : (n : ℕ) → range_with_len 0 (n + 1) ≡ range_with_len 0 n ++ n ∷ []
one_number_more n =
    let e : 0 + n ≡ n = omega arith in
    ap (λ k. range_with_len 0 k) (add-one n) ∙ range_more 0 n ∙ ap (λ k. range_with_len 0 n ++ k ∷ []) e

-- ---- of items with their indices

enumerate_take : {X : Type 0} (n i : ℕ) (xs : List X) → enumerate_from n (take i xs) ≡ take i (enumerate_from n xs)
enumerate_take n zero xs = refl
enumerate_take n (suc i) [] = refl
enumerate_take n (suc i) (x ∷ xs) = ap (λ v. (n, x) ∷ v) (enumerate_take (n + 1) i xs)

pub numbered_pushed : {X : Type 0} (f : ℕ × X → List ℕ) (xs : List X) (i : ℕ) (x : X) (start before after : List ℕ)
    → i < length xs → x ≡ get_or xs i x
    → before ≡ start ++ flat_map f (enumerate_from 0 (take i xs)) → after ≡ before ++ f (i, x)
    → after ≡ start ++ flat_map f (enumerate_from 0 (take (i + 1) xs))
numbered_pushed f xs i x start before after within is so more =
    let all = enumerate_from 0 xs in
    let below : i < length all = omega (arith, length-enumerate_from 0 xs) in
    let same : 0 + i ≡ i = omega arith in
    let here : (i, x) ≡ get_or all i (i, x) =
    sym (get_or-enumerate_from 0 xs i (i, x) within ∙ ap (λ k. (k, get_or xs i x)) same ∙ ap (λ y. (i, y)) (sym is)) in
    items_pushed f all i (i, x) start before after below here
    (so ∙ ap (λ v. start ++ flat_map f v) (enumerate_take 0 i xs)) more
    ∙ ap (λ v. start ++ flat_map f v) (sym (enumerate_take 0 (i + 1) xs))

-- ---- of the items that pass a test

passing : {X : Type 0} (w : X → Bool) (x : X) → w x ≡ true → filter w (x ∷ []) ≡ x ∷ []
passing w x e = ap (λ b. cond b (x ∷ []) []) e

failing : {X : Type 0} (w : X → Bool) (x : X) → w x ≡ false → filter w (x ∷ []) ≡ []
failing w x e = ap (λ b. cond b (x ∷ []) []) e

pub filter_passed : {X : Type 0} (w : X → Bool) (xs : List X) (i : ℕ) (x : X) → i < length xs → x ≡ get_or xs i x
    → w x ≡ true → filter w (take (i + 1) xs) ≡ filter w (take i xs) ++ x ∷ []
filter_passed w xs i x within is e =
    ap (filter w) (take_more xs i x within ∙ ap (λ y. take i xs ++ y ∷ []) (sym is))
    ∙ filter-append w (take i xs) (x ∷ []) ∙ ap (λ v. filter w (take i xs) ++ v) (passing w x e)

pub filter_failed : {X : Type 0} (w : X → Bool) (xs : List X) (i : ℕ) (x : X) → i < length xs → x ≡ get_or xs i x
    → w x ≡ false → filter w (take (i + 1) xs) ≡ filter w (take i xs)
filter_failed w xs i x within is e =
    ap (filter w) (take_more xs i x within ∙ ap (λ y. take i xs ++ y ∷ []) (sym is))
    ∙ filter-append w (take i xs) (x ∷ []) ∙ ap (λ v. filter w (take i xs) ++ v) (failing w x e)
    ∙ append-nil (filter w (take i xs))
