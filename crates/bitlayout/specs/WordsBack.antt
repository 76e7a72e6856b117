-- The words of a mask are those that its set of positions gives back.
use Rattle.std.proofs.Common.{◌≡◌, ℕ, ◌+◌, ◌-◌, ◌*◌, ◌/◌, ◌%◌, ◌^◌, ◌<◌, ◌↔◌, ◌⊎◌, Bool, true, false, List, length}
use Rattle.std.proofs.Common.{get_or, refl, sym, ap, ◌∙◌, inl, inr, arith}
use Rattle.std.specs.Prelude.{◌==◌, ◌||◌, if◌then◌else◌}
use Rattle.std.specs.Cmp.{nat_cmp_total, unsigned_tied}
use Rattle.std.specs.FinSet as set
use Rattle.std.specs.Int.{bit_at}
use Rattle.std.specs.Ordering.{nat_cmp}
use Rattle.std.proofs.lemmas.Bool.{cases_lt, cases_eq, eqb-true, eq-eqb, ne_eqb, false≢true}
use Rattle.std.proofs.lemmas.List.{ext_get_or}
use Rattle.std.proofs.lemmas.List.Elements.{All-get_or}
use Rattle.std.proofs.lemmas.List.FromFn.{get_or-map-range_with_len, length-map-range_with_len}
use Rattle.std.proofs.lemmas.Nat.Bits.{bit_at-lt, bit_at_cat_low, bit_at_cat_high, same_from_bits_below}
use Prim.Native.Nat.{zero, suc}
use Rattle.bitlayout.specs.Mask.{HasBit, Positions, mask_end, Has}
use Rattle.bitlayout.specs.Words.{AreWords, is_set, positions_where, positions_of, number_where, words_of}

none_in_empty : (q : ℕ) → Has set.empty q → ⊥
unfolding Has
none_in_empty q h = false≢true (sym (set.contains-empty nat_cmp q) ∙ h)

in_inserted : (s : Positions) (n q : ℕ) → Has (set.insert s n) q ↔ ((q ≡ n) ⊎ Has s q)
unfolding Has
in_inserted s n q =
    let is : set.contains (set.insert s n) q ≡ ((q == n) || set.contains s q) = set.contains-insert nat_cmp_total s n q
    ∙ ap (λ b. b || set.contains s q) (unsigned_tied q n) in
    elim (cases_eq q n) [
      | inl same ↦
          let alike : (q == n) ≡ true = eq-eqb q n same in
          (λ _. inl same, λ _. is ∙ ap (λ b. b || set.contains s q) alike)
      | inr other ↦
          let differs = ne_eqb q n other in (
            λ h. inr (sym (is ∙ ap (λ b. b || set.contains s q) differs) ∙ h),
            λ h. elim h [
              | inl same ↦ absurd (other same)
              | inr there ↦ is ∙ ap (λ b. b || set.contains s q) differs
                  ∙ there
            ],
          )
    ]

-- the positions below n that pass the test are in the set, and no others
pub has_where : (test : ℕ → Bool) (n q : ℕ) → Has (positions_where test n) q ↔ ((q < n) × (test q ≡ true))
unfolding positions_where
has_where test zero q = (λ h. absurd (none_in_empty q h), λ (below, passes). absurd (omega arith))
has_where test (suc n) q =
    let before = has_where test n q in
    let more : (b : Bool) → test n ≡ b
    → Has (if b then set.insert (positions_where test n) n else positions_where test n) q
    ↔ ((q < suc n) × (test q ≡ true)) =
    λ b is. elim b as (λ b. test n ≡ b
    → Has (if b then set.insert (positions_where test n) n else positions_where test n) q
    ↔ ((q < suc n) × (test q ≡ true))) [
      | true ↦ λ passing. let inserted = in_inserted (positions_where test n) n q in (
        λ h. elim (inserted.0 h) [
          | inl same ↦ (omega arith, ap test same ∙ passing)
          | inr there ↦ let (below, passes) =
              before.0 there in (omega arith, passes)
        ],
        λ (below, passes). inserted.1
            (elim (cases_lt q n) [ inl earlier ↦ inr (before.1 (earlier, passes)) | inr last ↦ inl (omega arith) ]),
      )
      | false ↦ λ none. (
        λ h. let (below, passes) = before.0 h in (omega arith, passes),
        λ (below, passes). elim (cases_lt q n) [
          | inl earlier ↦ before.1 (earlier, passes)
          | inr last ↦ let same : q ≡ n = omega arith in absurd (false≢true (sym none ∙ sym (ap test same) ∙ passes))
        ],
      )
    ] is in
    more (test n) refl

-- a position is in the set of some words where its bit is 1
pub has_words : (words : List ℕ) (q : ℕ)
    → Has (positions_of words) q ↔ ((q < mask_end) × HasBit (get_or words (q / 64) 0) (q % 64))
has_words words q =
    let is = has_where (is_set words) mask_end q in (
      λ h. let (below, passes) = is.0 h in (below, eqb-true (bit_at (get_or words (q / 64) 0) (q % 64)) 1 passes),
      λ (below, bit). is.1 (below, eq-eqb (bit_at (get_or words (q / 64) 0) (q % 64)) 1 bit),
    )

-- ---- the words that have a set

number_below : (test : ℕ → Bool) (n : ℕ) → number_where test n < 2 ^ n
unfolding number_where
number_below test zero = omega arith
number_below test (suc n) =
    let before = number_below test n in
    elim (test n) as (λ (b : Bool). (if b then 1 else 0) * 2 ^ n + number_where test n < 2 ^ suc n)
    [ true ↦ omega (arith, before) | false ↦ omega (arith, before) ]

bit_where : (test : ℕ → Bool) (n k : ℕ) → k < n → bit_at (number_where test n) k ≡ (if test k then 1 else 0)
unfolding number_where
bit_where test zero k below = absurd (omega arith)
bit_where test (suc n) k below = elim (cases_lt k n) [
  | inl earlier ↦ bit_at_cat_low _ n (number_where test n) k earlier ∙ bit_where test n k earlier
  | inr last ↦
      let same : k ≡ n = omega arith in
      let first : k - n ≡ 0 = omega arith in
      bit_at_cat_high (if test n then 1 else 0) n (number_where test n) k (number_below test n) last
      ∙ ap (bit_at (if test n then 1 else 0)) first ∙ low (test n) ∙ ap (λ m. if test m then 1 else 0) (sym same)
]
  where
    low : (b : Bool) → bit_at (if b then 1 else 0) 0 ≡ (if b then 1 else 0)
    low true = refl
    low false = refl

-- the words of the set of some words are these
pub words_back : (words : List ℕ) → AreWords words → words_of (positions_of words) ≡ words
unfolding Has words_of
words_back words are = ext_get_or 0 (words_of positions) words (length-map-range_with_len word 0 224 ∙ sym are.count)
    each
  where
    positions : Positions
    positions = positions_of words

    word : ℕ → ℕ
    word w = number_where (λ i. set.contains positions (64 * w + i)) 64

    bit : (w k : ℕ) → w < 224 → k < 64 → (b : Bool) → set.contains positions (64 * w + k) ≡ b
        → (if b then 1 else 0) ≡ bit_at (get_or words w 0) k
    bit w k here small true there =
        let at : (64 * w + k) / 64 ≡ w = omega arith in
        let index : (64 * w + k) % 64 ≡ k = omega arith in
        let set_bit = ((has_words words (64 * w + k)).0 there).1 in
        sym (rw (at, index) at set_bit)
    bit w k here small false none =
        let at : (64 * w + k) / 64 ≡ w = omega arith in
        let index : (64 * w + k) % 64 ≡ k = omega arith in
        let less = bit_at-lt (get_or words w 0) k in
        elim (cases_eq (bit_at (get_or words w 0) k) 1) [
          | inl one ↦ absurd (false≢true
              (sym none ∙ (has_words words (64 * w + k)).1 (omega arith, rw (at, index) one)))
          | inr other ↦ omega (arith, other, less)
        ]

    each : (w : ℕ) → w < length (words_of positions) → get_or (words_of positions) w 0 ≡ get_or words w 0
    each w below =
        let many = length-map-range_with_len word 0 224 in
        let here : w < 224 = omega (arith, many, below) in
        get_or-map-range_with_len word 0 224 w w 0 here (omega arith)
        ∙ same_from_bits_below 64 (word w) (get_or words w 0) (number_below _ 64)
        (All-get_or (λ n. n < 2 ^ 64) words w 0 (omega (arith, here, are.count)) are.small)
        (λ k small. bit_where (λ i. set.contains positions (64 * w + i)) 64 k small
        ∙ bit w k here small (set.contains positions (64 * w + k)) refl)
