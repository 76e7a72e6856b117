-- Bytes before and after their first separator.
use Rattle.std.proofs.Common.{◌≡◌, ◌≢◌, ◌==◌, ◌+◌, ◌++◌, ℕ, suc, true, false, List, [], ◌∷◌, Option, Some, None, length}
use Rattle.std.proofs.Common.{take, drop, refl, sym, ap, arith, add-one}
use Rattle.std.specs.Prelude.{MatchOption}
use Rattle.std.specs.Borrow.{Bor}
use Rattle.std.specs.Option.{option_map}
use Rattle.std.specs.List.{All, list_any, position_or_len}
use Rattle.std.proofs.lemmas.Bool.{ne_eqb}
use Rattle.std.proofs.lemmas.Bool.Decides.{nat_tests}
use Rattle.std.proofs.lemmas.List.Elements.{All-head, All-tail}
use Rattle.base.specs.Split.{split_once}

-- the bytes have no `c` among them
abbrev pub Lacks : ℕ → List ℕ → Type 0
Lacks c bs = All (λ b. b ≢ c) bs

any_lacks : (c : ℕ) (bs : List ℕ) → Lacks c bs → list_any (λ b. b == c) bs ≡ false
any_lacks c [] h = refl
any_lacks c (b ∷ bs) h = rw (ne_eqb b c (All-head (λ b. b ≢ c) b bs h)) (any_lacks c bs (All-tail (λ b. b ≢ c) b bs h))

any_found : (c : ℕ) (front bs : List ℕ) → Lacks c front → list_any (λ b. b == c) (front ++ (c ∷ bs)) ≡ true
any_found c [] bs h = grind (arith, nat_tests)
any_found c (b ∷ front) bs h =
    rw (ne_eqb b c (All-head (λ b. b ≢ c) b front h)) (any_found c front bs (All-tail (λ b. b ≢ c) b front h))

-- the first `c` comes after the prefix that has none
position_found : (c : ℕ) (front bs : List ℕ) → Lacks c front → position_or_len (λ b. b == c) (front ++ (c ∷ bs))
    ≡ length front
position_found c [] bs h = let same : (c == c) ≡ true = grind (arith, nat_tests) in rw same refl
position_found c (b ∷ front) bs h =
    rw (ne_eqb b c (All-head (λ b. b ≢ c) b front h))
    (omega (arith, position_found c front bs (All-tail (λ b. b ≢ c) b front h)))

-- the prefix, removed again
front_of : (front bs : List ℕ) → take (length front) (front ++ bs) ≡ front
front_of [] bs = refl
front_of (b ∷ front) bs = ap (λ ts. b ∷ ts) (front_of front bs)

-- what follows the prefix and one byte
after_prefix : (front bs : List ℕ) (c : ℕ) → drop (suc (length front)) (front ++ (c ∷ bs)) ≡ bs
after_prefix [] bs c = refl
after_prefix (b ∷ front) bs c = after_prefix front bs c

back_of : (front bs : List ℕ) (c : ℕ) → drop (length front + 1) (front ++ (c ∷ bs)) ≡ bs
back_of front bs c = rw (add-one (length front)) (after_prefix front bs c)

no_split : (c : ℕ) (bs : List ℕ) → Lacks c bs → split_once c bs ≡ None
no_split c bs h = rw (any_lacks c bs h) refl

a_split : (c : ℕ) (bs front back : List ℕ) → Lacks c front → bs ≡ front ++ (c ∷ back)
    → split_once c bs ≡ Some (front, back)
a_split c bs front back h e =
    rw (e, any_found c front back h, position_found c front back h, front_of front (c ∷ back), back_of front back c)
    refl

pub split_once_is : (c : ℕ) (bs : List ℕ) (o : Option (Bor (List ℕ) × Bor (List ℕ)))
    → MatchOption o (Lacks c bs) (λ parts. Lacks c parts.0.now × (bs ≡ parts.0.now ++ (c ∷ parts.1.now)))
    → option_map (λ parts. (parts.0.now, parts.1.now)) o ≡ split_once c bs
split_once_is c bs None h = sym (no_split c bs h)
split_once_is c bs (Some parts) h = sym (a_split c bs parts.0.now parts.1.now h.0 h.1)
