-- A walk is an interval of ranks.
use Rattle.bitlayout.proofs.Common.{◌≡◌, ℕ, ◌+◌, ◌-◌, ◌*◌, ◌/◌, ◌<◌, ◌≤◌, length, get_or, refl, sym, ap, subst, ◌∙◌}
use Rattle.bitlayout.proofs.Common.{arith, List, zero, suc, nat_lt, Decides}
use Rattle.std.proofs.Common.{add-zero}
use Rattle.std.specs.Prelude.{Contains, ◌==◌}
use Rattle.std.specs.List.{list_any, list_all}
use Rattle.std.proofs.lemmas.Bool.Decides.{Decides-eqb, Decides-ltb, Decides-like, Decides-by_or, Decides-by_and}
use Rattle.std.proofs.lemmas.List.Elements.{Contains-get_or, Contains-from_at, at_from_Contains, All-contains}
use Rattle.bitlayout.specs.declared.layout.Order.{Order}
use Rattle.bitlayout.specs.declared.layout.Order.TheVariants.{Intel, Motorola}
use Rattle.bitlayout.specs.declared.layout.Layout.{Layout}
use Rattle.bitlayout.specs.Bits.{next_position, walk, positions, IsBit, SharesBit, IsInside, is_bit, shares_bit}
use Rattle.bitlayout.specs.Bits.{is_inside}
use Rattle.bitlayout.specs.Interval.{rank}

motorola_next : (p : ℕ) → rank Motorola (next_position Motorola p) ≡ rank Motorola p + 1
motorola_next p = grind arith

-- each step of a walk goes one rank up
rank_next : (order : Order) (p : ℕ) → rank order (next_position order p) ≡ rank order p + 1
rank_next Intel p = refl
rank_next Motorola p = motorola_next p

-- no two positions have one rank
pub same_rank : (order : Order) (p q : ℕ) → rank order p ≡ rank order q → p ≡ q
same_rank Intel p q e = e
same_rank Motorola p q e = omega arith

-- each number is the rank of a position
pub rank_of_rank : (order : Order) (n : ℕ) → rank order (rank order n) ≡ n
rank_of_rank Intel n = refl
rank_of_rank Motorola n = omega arith

-- a rank is in the byte of its position
pub rank_byte : (order : Order) (p : ℕ) → rank order p / 8 ≡ p / 8
rank_byte Intel p = refl
rank_byte Motorola p = omega arith

pub length-walk : (order : Order) (count p : ℕ) → length (walk order count p) ≡ count
unfolding walk
length-walk order zero p = refl
length-walk order (suc count) p = ap suc (length-walk order count (next_position order p))

-- the ranks along a walk rise by one
pub rank-walk : (order : Order) (count p k d : ℕ) → k < count
    → rank order (get_or (walk order count p) k d) ≡ rank order p + k
unfolding walk
rank-walk order zero p k d below = absurd (omega arith)
rank-walk order (suc count) p zero d below = sym (add-zero (rank order p))
rank-walk order (suc count) p (suc k) d below =
    let step = rank_next order p in
    let rest : rank order (get_or (walk order count (next_position order p)) k d) ≡ rank order (next_position order p) +
    k = rank-walk order count (next_position order p) k d (omega arith) in
    omega arith

-- the bits of a layout are the positions in an interval of ranks
pub bit_within : (layout : Layout) (q : ℕ) → IsBit layout q → (rank layout.order layout.start ≤ rank layout.order q)
    × (rank layout.order q < rank layout.order layout.start + layout.size)
bit_within layout q (k, below, at) =
    let few : k < layout.size = subst (λ n. k < n) (length-walk layout.order layout.size layout.start) below in
    let e : rank layout.order q ≡ rank layout.order layout.start + k = ap (rank layout.order) (sym at)
    ∙ rank-walk layout.order layout.size layout.start k q few in
    (omega arith, omega arith)

pub bit_from_within : (layout : Layout) (q : ℕ) → rank layout.order layout.start ≤ rank layout.order q
    → rank layout.order q < rank layout.order layout.start + layout.size → IsBit layout q
bit_from_within layout q low high =
    let k : ℕ = rank layout.order q - rank layout.order layout.start in
    let few : k < layout.size = omega arith in
    let e : rank layout.order (get_or (walk layout.order layout.size layout.start) k q) ≡ rank layout.order layout.start
    + k = rank-walk layout.order layout.size layout.start k q few in
    let same : rank layout.order (get_or (walk layout.order layout.size layout.start) k q) ≡ rank layout.order q =
    omega arith in (
      k,
      subst (λ n. k < n) (sym (length-walk layout.order layout.size layout.start)) few,
      same_rank layout.order _ q same,
    )

-- a rank is in the payload where its position is
pub rank_below : (order : Order) (q n : ℕ) → q < 8 * n → rank order q < 8 * n
rank_below Intel q n low = low
rank_below Motorola q n low = omega arith

pub below_from_rank : (order : Order) (q n : ℕ) → rank order q < 8 * n → q < 8 * n
below_from_rank Intel q n low = low
below_from_rank Motorola q n low = omega arith

-- a layout is inside where its last rank is
pub inside_from_end : (layout : Layout) (n : ℕ) → rank layout.order layout.start + layout.size ≤ 8 * n
    → IsInside layout n
inside_from_end layout n few q bit = let w = bit_within layout q bit in below_from_rank layout.order q n (omega arith)

pub end_from_inside : (layout : Layout) (n : ℕ) → 0 < layout.size → IsInside layout n
    → rank layout.order layout.start + layout.size ≤ 8 * n
end_from_inside layout n some inside =
    let last : ℕ = rank layout.order layout.start + layout.size - 1 in
    let e : rank layout.order (rank layout.order last) ≡ last = rank_of_rank layout.order last in
    let bit : IsBit layout (rank layout.order last) =
    bit_from_within layout (rank layout.order last) (omega arith) (omega arith) in
    let low = rank_below layout.order (rank layout.order last) n (inside _ bit) in
    omega arith

-- the tests decide the facts
has_position : (q : ℕ) (xs : List ℕ) → Decides (list_any (λ x. q == x) xs) (Contains xs q)
has_position q xs =
    Decides-like (list_any (λ x. q == x) xs) (λ w. Contains-from_at xs q (w.0, w.1, λ d. sym (w.2 d)))
    (λ w. let v = at_from_Contains xs q w in (v.0, v.1, λ d. sym (v.2 d)))
    (Decides-by_or (λ x. q == x) (λ x. q ≡ x) (list_any (λ x. q == x)) (λ x. Decides-eqb q x) refl (λ _ _. refl) xs)

pub is_bit_decides : (layout : Layout) (q : ℕ) → Decides (is_bit layout q) (IsBit layout q)
unfolding is_bit
is_bit_decides layout q = has_position q (positions layout)

pub shares_bit_decides : (a b : Layout) → Decides (shares_bit a b) (SharesBit a b)
unfolding shares_bit
shares_bit_decides a b =
    Decides-like (shares_bit a b)
    (λ (k, below, both). let p = get_or (positions a) k 0 in (p, Contains-get_or (positions a) k 0 below, both 0))
    (λ (q, of_a, of_b). let (k, below, at) = at_from_Contains (positions a) q of_a in
    (k, below, λ d. subst (λ p. Contains (positions b) p) (sym (at d)) of_b))
    (Decides-by_or (λ p. list_any (λ q. p == q) (positions b)) (λ p. Contains (positions b) p)
    (list_any (λ p. list_any (λ q. p == q) (positions b))) (λ p. has_position p (positions b)) refl (λ _ _. refl)
    (positions a))

pub is_inside_decides : (layout : Layout) (n : ℕ) → Decides (is_inside layout n) (IsInside layout n)
unfolding is_inside
is_inside_decides layout n =
    Decides-like (is_inside layout n)
    (λ all q bit. All-contains (λ p. p < 8 * n) (positions layout) q all bit)
    (λ inside k d below. inside _ (Contains-get_or (positions layout) k d below))
    (Decides-by_and (λ q. nat_lt q (8 * n)) (λ q. q < 8 * n) (list_all (λ q. nat_lt q (8 * n)))
    (λ q. Decides-ltb q (8 * n)) refl (λ _ _. refl) (positions layout))

-- signals of one order share a bit where their intervals meet
pub shared_rank : (a b : Layout) → a.order ≡ b.order → SharesBit a b
    → (n : ℕ) × ((rank a.order a.start ≤ n) × (n < rank a.order a.start + a.size))
    × ((rank b.order b.start ≤ n) × (n < rank b.order b.start + b.size))
shared_rank a b e (q, of_a, of_b) = (
  rank a.order q,
  bit_within a q of_a,
  subst (λ o. (rank b.order b.start ≤ rank o q) × (rank o q < rank b.order b.start + b.size)) (sym e)
      (bit_within b q of_b),
)

pub share_from_rank : (a b : Layout) → a.order ≡ b.order → (n : ℕ) → rank a.order a.start ≤ n
    → n < rank a.order a.start + a.size → rank b.order b.start ≤ n → n < rank b.order b.start + b.size → SharesBit a b
share_from_rank a b e n low_a high_a low_b high_b =
    let q : ℕ = rank a.order n in
    let at_a : rank a.order q ≡ n = rank_of_rank a.order n in
    let at_b : rank b.order q ≡ n = subst (λ o. rank o q ≡ n) e at_a in
    (q, bit_from_within a q (omega arith) (omega arith), bit_from_within b q (omega arith) (omega arith))

-- two orders count a byte's bits in opposite directions
pub reversed_rank : (a b : Order) → (a ≡ b → ⊥) → (q : ℕ) → rank a q + rank b q ≡ 16 * (q / 8) + 7
reversed_rank Intel Intel differ q = absurd (differ refl)
reversed_rank Intel Motorola differ q = omega arith
reversed_rank Motorola Intel differ q = omega arith
reversed_rank Motorola Motorola differ q = absurd (differ refl)
