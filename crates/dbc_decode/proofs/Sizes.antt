-- Signed integers that are read alike from each payload have one size: the least number of the greater size is below
-- all of the lesser.
use Rattle.dbc_decode.proofs.Common.{◌≡◌, ◌<◌, ◌+◌, ◌*◌, ◌^◌, ◌⊎◌, ◌∙◌, ℕ, true, false, List, [], ◌∷◌, length, inl, inr}
use Rattle.dbc_decode.proofs.Common.{refl, sym, ap, subst, arith, ◌≤◌, ◌≢◌, ◌-◌, suc, get_or, pos, ◌-ℤ◌, nat_lt}
use Rattle.dbc_decode.proofs.Common.{reverse, cases_Bool, cond-true, cond-false, le-ltb, length-reverse, get_or-reverse}
use Rattle.dbc_decode.proofs.Common.{positions, Layout, Order, Intel, Motorola, pow-suc, length-walk}
use Rattle.std.proofs.lemmas.Bool.{cases_lt, ltb-false}
use Rattle.std.proofs.Math.Pow.{pow_mono}
use Rattle.bitlayout.specs.Bits.{walk}
use Rattle.bitlayout.proofs.Walks.{rank-walk}
use Rattle.bitlayout.specs.Interval.{rank}
use Rattle.bitlayout.specs.Weight.{by_weight, in_weight}
use Rattle.dbc_decode.specs.Decoding.{bits_number, payload_bit, twos_complement}
use Rattle.dbc_decode.proofs.Positions.{AreBelow, bit_clear, bit_set, its_payload, one_bit}
use Rattle.dbc_decode.proofs.Signed.{SameSigned, bit_small, last, last_in, less_told, number_small, one_less, top_set}

-- ---- the positions of a layout are apart

abbrev pub AreApart : List ℕ → Type 0
AreApart ps = (i j : ℕ) → i < j → j < length ps → get_or ps i 0 ≢ get_or ps j 0

walk_apart : (order : Order) (count p : ℕ) → AreApart (walk order count p)
walk_apart order count p i j before below e =
    let within : j < count = subst (λ n. j < n) (length-walk order count p) below in
    let lower : rank order (get_or (walk order count p) i 0) ≡ rank order p + i =
    rank-walk order count p i 0 (omega (arith, before, within)) in
    let upper : rank order (get_or (walk order count p) j 0) ≡ rank order p + j = rank-walk order count p j 0 within in
    let same : rank order (get_or (walk order count p) i 0) ≡ rank order (get_or (walk order count p) j 0) =
    ap (rank order) e in
    omega (arith, lower, upper, same, before)

reverse_apart : (ps : List ℕ) → AreApart ps → AreApart (reverse ps)
reverse_apart ps apart i j before below e =
    let within : j < length ps = subst (λ n. j < n) (length-reverse ps) below in
    apart (length ps - 1 - j) (length ps - 1 - i) (omega (arith, before, within)) (omega (arith, before, within))
    (sym (get_or-reverse ps j 0 within) ∙ sym e ∙ get_or-reverse ps i 0 (omega (arith, before, within)))

weight_apart : (order : Order) (ps : List ℕ) → AreApart ps → AreApart (in_weight order ps)
weight_apart Intel ps apart = apart
weight_apart Motorola ps apart = reverse_apart ps apart

pub are_apart : (layout : Layout) → AreApart (by_weight layout)
are_apart layout =
    weight_apart layout.order (positions layout) (walk_apart layout.order layout.size layout.start)

-- ---- the top bit alone

last_at : (p : ℕ) (ps : List ℕ) → get_or (p ∷ ps) (length ps) 0 ≡ last p ps
last_at p [] = refl
last_at p (q ∷ qs) = last_at q qs

top_only : (payload ps : List ℕ) → ((k : ℕ) → k + 1 < length ps → payload_bit payload (get_or ps k 0) ≡ 0)
    → 2 * bits_number payload ps ≤ 2 ^ length ps
unfolding bits_number
top_only payload [] clear = omega arith
top_only payload (p ∷ []) clear =
    let bit : payload_bit payload p < 2 = bit_small payload p in
    let twice : 2 ^ length (p ∷ []) ≡ 2 = refl in
    omega (arith, bit, twice)
top_only payload (p ∷ q ∷ qs) clear =
    let first : payload_bit payload p ≡ 0 = clear 0 (omega arith) in
    let rest : 2 * bits_number payload (q ∷ qs) ≤ 2 ^ length (q ∷ qs) =
    top_only payload (q ∷ qs) (λ k h. clear (suc k) (omega (arith, h))) in
    let twice : 2 ^ length (p ∷ q ∷ qs) ≡ 2 ^ length (q ∷ qs) * 2 = pow-suc 2 (length (q ∷ qs)) in
    omega (arith, first, rest, twice)

-- ---- the least number of the greater size

sizes_apart : (a b n m : ℕ) → n < 2 ^ a → a < b → 2 * m ≡ 2 ^ b → twos_complement a n ≡ pos m -ℤ pos (2 ^ b) → ⊥
sizes_apart a b n m small lesser least e = by_sign (cases_Bool (nat_lt (2 * n) (2 ^ a)))
  where
    greater : 2 ^ a * 2 ≤ 2 ^ b
    greater = subst (λ k. k ≤ 2 ^ b) (pow-suc 2 a) (pow_mono {i = suc a} {j = b} lesser)

    by_sign : (nat_lt (2 * n) (2 ^ a) ≡ true) ⊎ (nat_lt (2 * n) (2 ^ a) ≡ false) → ⊥
    by_sign (inl t) =
        one_less n m (2 ^ b) (omega (arith, small, least, greater))
        (sym (cond-true (nat_lt (2 * n) (2 ^ a)) (pos n) (pos n -ℤ pos (2 ^ a)) t) ∙ e)
    by_sign (inr f) =
        let sums : n + 2 ^ b ≡ m + 2 ^ a = less_told n m (2 ^ a) (2 ^ b)
        (sym (cond-false (nat_lt (2 * n) (2 ^ a)) (pos n) (pos n -ℤ pos (2 ^ a)) f) ∙ e) in
        let half : 2 ^ a ≤ 2 * n = ltb-false (2 * n) (2 ^ a) f in
        omega (arith, small, least, greater, sums, half)

lesser_told : (bytes : ℕ) (ps : List ℕ) (q : ℕ) (qs : List ℕ) → AreBelow bytes (q ∷ qs) → AreApart (q ∷ qs)
    → length ps < length (q ∷ qs) → SameSigned bytes ps (q ∷ qs) → ⊥
lesser_told bytes ps q qs hq apart lesser same =
    let top : ℕ = last q qs in
    let payload : List ℕ = one_bit bytes top in
    let m : ℕ = bits_number payload (q ∷ qs) in
    let size : ℕ = 2 ^ length (q ∷ qs) in
    let inside : top < 8 * bytes = hq top (last_in q qs) in
    let least : size ≤ 2 * m = top_set payload q qs (bit_set bytes top inside) in
    let most : 2 * m ≤ size = top_only payload (q ∷ qs) (λ k h. bit_clear bytes top (get_or (q ∷ qs) k 0) inside
    (λ e. apart k (length qs) (omega (arith, h)) (omega arith) (e ∙ sym (last_at q qs)))) in
    sizes_apart (length ps) (length (q ∷ qs)) (bits_number payload ps) m (number_small payload ps) lesser
    (omega (arith, least, most))
    (same payload (its_payload bytes top)
    ∙ cond-false (nat_lt (2 * m) size) (pos m) (pos m -ℤ pos size) (le-ltb (2 * m) size least))

no_lesser : (bytes : ℕ) (ps qs : List ℕ) → AreBelow bytes qs → AreApart qs → length ps < length qs
    → SameSigned bytes ps qs → ⊥
no_lesser bytes ps [] hq apart lesser same = absurd (omega (arith, lesser))
no_lesser bytes ps (q ∷ qs) hq apart lesser same = lesser_told bytes ps q qs hq apart lesser same

pub sizes_told : (bytes : ℕ) (ps qs : List ℕ) → AreBelow bytes ps → AreBelow bytes qs → AreApart ps → AreApart qs
    → SameSigned bytes ps qs → length ps ≡ length qs
sizes_told bytes ps qs hp hq apart_p apart_q same = by_order (cases_lt (length ps) (length qs))
  where
    by_rest : (length qs < length ps) ⊎ (length ps ≤ length qs) → length qs ≤ length ps → length ps ≡ length qs
    by_rest (inl less) most =
        absurd (no_lesser bytes qs ps hp apart_p less (λ payload is. sym (same payload is)))
    by_rest (inr least) most = omega (arith, least, most)

    by_order : (length ps < length qs) ⊎ (length qs ≤ length ps) → length ps ≡ length qs
    by_order (inl less) = absurd (no_lesser bytes ps qs hq apart_q less same)
    by_order (inr least) = by_rest (cases_lt (length qs) (length ps)) least
