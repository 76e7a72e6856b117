-- Lists of positions that write the same number in each payload are the same.
use Rattle.dbc_decode.proofs.Common.{◌≡◌, ◌<◌, ◌+◌, ◌*◌, ◌^◌, ◌⊎◌, ◌∙◌, ◌==◌, ℕ, true, false, List, [], ◌∷◌, length}
use Rattle.dbc_decode.proofs.Common.{inl, inr, refl, sym, ap, subst, Contains, arith, ◌≢◌, ◌-◌, suc, get_or, cases_Bool}
use Rattle.dbc_decode.proofs.Common.{eqb-true, eq-eqb, true≢false, length-reverse, get_or-reverse, positions, Layout}
use Rattle.dbc_decode.proofs.Common.{Order, Intel, Motorola, In, in_first, in_later, in_to, reverse}
use Rattle.std.proofs.Common.{◌/◌, ◌%◌, zero, set, replicate}
use Rattle.std.proofs.lemmas.List.{get_or-set_other, get_or-set_same, length-replicate, length-set}
use Rattle.std.proofs.lemmas.List.Elements.{All-replicate, All-set}
use Rattle.std.proofs.lemmas.Nat.Bits.{bit_at-pow_other, bit_at-pow_same}
use Rattle.std.specs.Int.{bit_at}
use Rattle.bitlayout.specs.Bits.{IsInside}
use Rattle.bitlayout.specs.Weight.{by_weight, in_weight}
use Rattle.dbc_decode.specs.Decoding.{bits_number, payload_bit}
use Rattle.dbc_decode.specs.Laws.{IsPayload, LayoutsTellApart}

-- ---- a payload of which one bit is set

pub one_bit : ℕ → ℕ → List ℕ
one_bit bytes p = set (replicate bytes 0) (p / 8) (2 ^ (p % 8))

zeros : (n j : ℕ) → get_or (replicate n zero) j zero ≡ zero
zeros zero j = refl
zeros (suc n) zero = refl
zeros (suc n) (suc j) = zeros n j

below_8 : (r : ℕ) → r < 8 → 2 ^ r < 256
below_8 zero h = omega arith
below_8 (suc zero) h = omega arith
below_8 (suc (suc zero)) h = omega arith
below_8 (suc (suc (suc zero))) h = omega arith
below_8 (suc (suc (suc (suc zero)))) h = omega arith
below_8 (suc (suc (suc (suc (suc zero))))) h = omega arith
below_8 (suc (suc (suc (suc (suc (suc zero)))))) h = omega arith
below_8 (suc (suc (suc (suc (suc (suc (suc zero))))))) h = omega arith
below_8 (suc (suc (suc (suc (suc (suc (suc (suc r)))))))) h = absurd (omega (arith, h))

pub its_payload : (bytes p : ℕ) → IsPayload bytes (one_bit bytes p)
unfolding one_bit
its_payload bytes p = record {
  count = length-set (replicate bytes 0) (p / 8) (2 ^ (p % 8)) ∙ length-replicate bytes 0;
  each = All-set (λ b. b < 256) (replicate bytes 0) (p / 8) (2 ^ (p % 8)) (below_8 (p % 8) (omega arith))
      (All-replicate (λ b. b < 256) bytes 0 (omega arith));
}

pub bit_set : (bytes p : ℕ) → p < 8 * bytes → payload_bit (one_bit bytes p) p ≡ 1
unfolding one_bit payload_bit
bit_set bytes p h =
    ap (λ n. bit_at n (p % 8))
    (get_or-set_same (replicate bytes 0) (p / 8) (2 ^ (p % 8)) 0
    (subst (λ n. p / 8 < n) (sym (length-replicate bytes 0)) (omega (arith, h))))
    ∙ bit_at-pow_same (p % 8)

bit_of_zero : (i : ℕ) → bit_at 0 i ≡ 0
bit_of_zero i = grind arith

pub bit_clear : (bytes p q : ℕ) → p < 8 * bytes → q ≢ p → payload_bit (one_bit bytes p) q ≡ 0
unfolding one_bit payload_bit
bit_clear bytes p q h differs = by_byte (cases_Bool (q / 8 == p / 8))
  where
    by_byte : ((q / 8 == p / 8) ≡ true) ⊎ ((q / 8 == p / 8) ≡ false)
        → bit_at (get_or (set (replicate bytes 0) (p / 8) (2 ^ (p % 8))) (q / 8) 0) (q % 8) ≡ 0
    by_byte (inl same) =
        let byte : q / 8 ≡ p / 8 = eqb-true (q / 8) (p / 8) same in
        let other : q % 8 ≢ p % 8 = λ e. differs (let it : q ≡ p = omega (arith, byte, e) in it) in
        ap (λ k. bit_at (get_or (set (replicate bytes 0) (p / 8) (2 ^ (p % 8))) k 0) (q % 8)) byte
        ∙ ap (λ n. bit_at n (q % 8))
        (get_or-set_same (replicate bytes 0) (p / 8) (2 ^ (p % 8)) 0
        (subst (λ n. p / 8 < n) (sym (length-replicate bytes 0)) (omega (arith, h))))
        ∙ bit_at-pow_other (p % 8) (q % 8) other
    by_byte (inr apart) =
        let other : q / 8 ≢ p / 8 = λ e. true≢false (sym (eq-eqb (q / 8) (p / 8) e) ∙ apart) in
        ap (λ n. bit_at n (q % 8))
        (get_or-set_other (replicate bytes 0) (p / 8) (q / 8) (2 ^ (p % 8)) 0 other ∙ zeros bytes (q / 8))
        ∙ bit_of_zero (q % 8)

-- ---- lists

abbrev pub AreBelow : ℕ → List ℕ → Type 0
AreBelow bytes ps = (p : ℕ) → In p ps → p < 8 * bytes

abbrev pub SameNumbers : ℕ → List ℕ → List ℕ → Type 0
SameNumbers bytes ps qs = (payload : List ℕ) → IsPayload bytes payload → bits_number payload ps ≡ bits_number payload qs

-- bits differ where the first positions do
first_same : (bytes p q : ℕ) (ps qs : List ℕ) → p < 8 * bytes → SameNumbers bytes (p ∷ ps) (q ∷ qs) → p ≡ q
unfolding bits_number
first_same bytes p q ps qs h same = by_test (cases_Bool (p == q))
  where
    by_test : ((p == q) ≡ true) ⊎ ((p == q) ≡ false) → p ≡ q
    by_test (inl t) = eqb-true p q t
    by_test (inr f) =
        let differs : q ≢ p = λ e. true≢false (sym (eq-eqb p q (sym e)) ∙ f) in
        let payload : List ℕ = one_bit bytes p in
        let numbers : payload_bit payload p + 2 * bits_number payload ps ≡ payload_bit payload q
        + 2 * bits_number payload qs = same payload (its_payload bytes p) in
        let set_bit : payload_bit payload p ≡ 1 = bit_set bytes p h in
        let clear_bit : payload_bit payload q ≡ 0 = bit_clear bytes p q h differs in
        absurd (omega (arith, numbers, set_bit, clear_bit))

none_same : (bytes q : ℕ) (qs : List ℕ) → q < 8 * bytes → SameNumbers bytes [] (q ∷ qs) → ⊥
unfolding bits_number
none_same bytes q qs h same =
    let payload : List ℕ = one_bit bytes q in
    let numbers : 0 ≡ payload_bit payload q + 2 * bits_number payload qs = same payload (its_payload bytes q) in
    let set_bit : payload_bit payload q ≡ 1 = bit_set bytes q h in
    omega (arith, numbers, set_bit)

rest_same : (bytes p q : ℕ) (ps qs : List ℕ) → p ≡ q → SameNumbers bytes (p ∷ ps) (q ∷ qs) → SameNumbers bytes ps qs
unfolding bits_number
rest_same bytes p q ps qs e same payload is =
    let numbers : payload_bit payload p + 2 * bits_number payload ps ≡ payload_bit payload q
    + 2 * bits_number payload qs = same payload is in
    let bits : payload_bit payload p ≡ payload_bit payload q = ap (payload_bit payload) e in
    omega (arith, numbers, bits)

pub lists_told : (bytes : ℕ) (ps qs : List ℕ) → AreBelow bytes ps → AreBelow bytes qs → SameNumbers bytes ps qs
    → ps ≡ qs
lists_told bytes [] [] hp hq same = refl
lists_told bytes [] (q ∷ qs) hp hq same = absurd (none_same bytes q qs (hq q (in_first q q qs refl)) same)
lists_told bytes (p ∷ ps) [] hp hq same =
    absurd (none_same bytes p ps (hp p (in_first p p ps refl)) (λ payload is. sym (same payload is)))
lists_told bytes (p ∷ ps) (q ∷ qs) hp hq same =
    let head : p ≡ q = first_same bytes p q ps qs (hp p (in_first p p ps refl)) same in
    let tail : ps ≡ qs = lists_told bytes ps qs (λ r h. hp r (in_later r p ps h)) (λ r h. hq r (in_later r q qs h))
    (rest_same bytes p q ps qs head same) in
    λ i. head i ∷ tail i

-- ---- layouts

from_reverse : (xs : List ℕ) (x : ℕ) → Contains (reverse xs) x → Contains xs x
from_reverse xs x h =
    let below : h.0 < length xs = subst (λ n. h.0 < n) (length-reverse xs) h.1 in
    (length xs - 1 - h.0, omega (arith, below), sym (get_or-reverse xs h.0 x below) ∙ h.2)

from_weight : (order : Order) (xs : List ℕ) (x : ℕ) → Contains (in_weight order xs) x → Contains xs x
from_weight Intel xs x h = h
from_weight Motorola xs x h = from_reverse xs x h

pub are_below : (layout : Layout) (bytes : ℕ) → IsInside layout bytes → AreBelow bytes (by_weight layout)
are_below layout bytes inside p h =
    inside p (from_weight layout.order (positions layout) p (in_to (by_weight layout) p h))

pub layouts_apart : LayoutsTellApart
layouts_apart a b bytes inside_a inside_b = (
  λ e payload is. ap (bits_number payload) e,
  λ same. lists_told bytes (by_weight a) (by_weight b) (are_below a bytes inside_a) (are_below b bytes inside_b) same,
)
