-- Signed integers of one size that are read alike from each payload have the same positions.
use Rattle.dbc_decode.proofs.Common.{◌≡◌, ◌<◌, ◌+◌, ◌*◌, ◌^◌, ◌∙◌, ℕ, Bool, true, false, cond, List, [], ◌∷◌, length}
use Rattle.dbc_decode.proofs.Common.{sym, ap, subst, arith, ◌≤◌, refl, pos, ◌-ℤ◌, nat_lt, cond-false, le-ltb, In}
use Rattle.dbc_decode.proofs.Common.{in_first, in_later, pow-suc}
use Rattle.std.proofs.Math.IntN.{◌+ℤ◌, +ℤ_assoc, +ℤ_comm, -ℤ-+ℤ_cancel}
use Rattle.std.proofs.lemmas.Nat.Bits.{bit_at-lt}
use Rattle.dbc_decode.specs.Decoding.{bits_number, payload_bit, twos_complement}
use Rattle.dbc_decode.specs.Laws.{IsPayload}
use Rattle.dbc_decode.proofs.Positions.{AreBelow, bit_set, its_payload, lists_told, one_bit}

pub bit_small : (payload : List ℕ) (p : ℕ) → payload_bit payload p < 2
unfolding payload_bit
bit_small payload p = bit_at-lt _ _

pub number_small : (payload ps : List ℕ) → bits_number payload ps < 2 ^ length ps
unfolding bits_number
number_small payload [] = omega arith
number_small payload (p ∷ ps) =
    let bit : payload_bit payload p < 2 = bit_small payload p in
    let rest : bits_number payload ps < 2 ^ length ps = number_small payload ps in
    let twice : 2 ^ length (p ∷ ps) ≡ 2 ^ length ps * 2 = pow-suc 2 (length ps) in
    omega (arith, bit, rest, twice)

pos_told : (m n : ℕ) → pos m ≡ pos n → m ≡ n
pos_told m n e = cc

pub less_told : (n m j k : ℕ) → pos n -ℤ pos j ≡ pos m -ℤ pos k → n + k ≡ m + j
less_told n m j k e =
    let x = pos n -ℤ pos j in
    pos_told (n + k) (m + j)
    (ap (λ z. z +ℤ pos k) (sym (-ℤ-+ℤ_cancel (pos n) (pos j)))
    ∙ +ℤ_assoc x (pos j) (pos k)
    ∙ ap (λ z. x +ℤ z) (+ℤ_comm (pos j) (pos k))
    ∙ sym (+ℤ_assoc x (pos k) (pos j))
    ∙ ap (λ z. (z +ℤ pos k) +ℤ pos j) e
    ∙ ap (λ z. z +ℤ pos j) (-ℤ-+ℤ_cancel (pos m) (pos k)))

pub one_less : (n m k : ℕ) → m < k → pos n ≡ pos m -ℤ pos k → ⊥
one_less n m k below e =
    let sums : pos (n + k) ≡ pos m = ap (λ z. z +ℤ pos k) e ∙ -ℤ-+ℤ_cancel (pos m) (pos k) in
    let same : n + k ≡ m = pos_told (n + k) m sums in
    omega (arith, same, below)

complement_by : (b c : Bool) (n m k : ℕ) → n < k → m < k
    → cond b (pos n) (pos n -ℤ pos k) ≡ cond c (pos m) (pos m -ℤ pos k) → n ≡ m
complement_by true true n m k hn hm e = pos_told n m e
complement_by false false n m k hn hm e = omega (arith, less_told n m k k e)
complement_by true false n m k hn hm e = absurd (one_less n m k hm e)
complement_by false true n m k hn hm e = absurd (one_less m n k hn (sym e))

pub complement_told : (size n m : ℕ) → n < 2 ^ size → m < 2 ^ size → twos_complement size n ≡ twos_complement size m
    → n ≡ m
complement_told size n m hn hm e =
    complement_by (nat_lt (2 * n) (2 ^ size)) (nat_lt (2 * m) (2 ^ size)) n m (2 ^ size) hn hm e

abbrev pub SameSigned : ℕ → List ℕ → List ℕ → Type 0
SameSigned bytes ps qs = (payload : List ℕ) → IsPayload bytes payload
    → twos_complement (length ps) (bits_number payload ps) ≡ twos_complement (length qs) (bits_number payload qs)

pub signed_told : (bytes : ℕ) (ps qs : List ℕ) → AreBelow bytes ps → AreBelow bytes qs → length ps ≡ length qs
    → SameSigned bytes ps qs → ps ≡ qs
signed_told bytes ps qs hp hq sizes same =
    lists_told bytes ps qs hp hq (λ payload is. complement_told (length ps) (bits_number payload ps)
    (bits_number payload qs) (number_small payload ps)
    (subst (λ n. bits_number payload qs < 2 ^ n) (sym sizes) (number_small payload qs))
    (same payload is ∙ ap (λ n. twos_complement n (bits_number payload qs)) (sym sizes)))

-- ---- beside an unsigned integer: the top bit makes it negative

abbrev pub last : ℕ → List ℕ → ℕ
last p [] = p
last p (q ∷ qs) = last q qs

pub last_in : (p : ℕ) (ps : List ℕ) → In (last p ps) (p ∷ ps)
last_in p [] = in_first p p [] refl
last_in p (q ∷ qs) = in_later (last q qs) p (q ∷ qs) (last_in q qs)

pub top_set : (payload : List ℕ) (p : ℕ) (ps : List ℕ) → payload_bit payload (last p ps) ≡ 1
    → 2 ^ length (p ∷ ps) ≤ 2 * bits_number payload (p ∷ ps)
unfolding bits_number
top_set payload p [] e =
    let twice : 2 ^ length (p ∷ []) ≡ 2 = refl in
    omega (arith, e, twice)
top_set payload p (q ∷ qs) e =
    let rest : 2 ^ length (q ∷ qs) ≤ 2 * bits_number payload (q ∷ qs) = top_set payload q qs e in
    let twice : 2 ^ length (p ∷ q ∷ qs) ≡ 2 ^ length (q ∷ qs) * 2 = pow-suc 2 (length (q ∷ qs)) in
    omega (arith, rest, twice)

negative : (payload : List ℕ) (p : ℕ) (ps : List ℕ) (n : ℕ) → payload_bit payload (last p ps) ≡ 1
    → twos_complement (length (p ∷ ps)) (bits_number payload (p ∷ ps)) ≡ pos n → ⊥
negative payload p ps n e same =
    let m : ℕ = bits_number payload (p ∷ ps) in
    let size : ℕ = 2 ^ length (p ∷ ps) in
    let below : nat_lt (2 * m) size ≡ false = le-ltb (2 * m) size (top_set payload p ps e) in
    one_less n m size (number_small payload (p ∷ ps))
    (sym same ∙ cond-false (nat_lt (2 * m) size) (pos m) (pos m -ℤ pos size) below)

pub mixed_told : (bytes : ℕ) (ps qs : List ℕ) → AreBelow bytes ps → 1 ≤ length ps
    → ((payload : List ℕ) → IsPayload bytes payload
    → twos_complement (length ps) (bits_number payload ps) ≡ pos (bits_number payload qs)) → ⊥
mixed_told bytes [] qs hp some same = absurd (omega (arith, some))
mixed_told bytes (p ∷ ps) qs hp some same =
    let top : ℕ = last p ps in
    let payload : List ℕ = one_bit bytes top in
    negative payload p ps (bits_number payload qs) (bit_set bytes top (hp top (last_in p ps)))
    (same payload (its_payload bytes top))
