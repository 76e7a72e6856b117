-- Masks, bit by bit.
use Rattle.bitlayout.proofs.Common.{◌≡◌, ℕ, ◌+◌, ◌-◌, ◌*◌, ◌/◌, ◌<◌, ◌≤◌, ◌↔◌, ◌⊎◌, not, List, length, get_or, refl}
use Rattle.bitlayout.proofs.Common.{sym, ap, subst, ◌∙◌, inl, inr, arith, IsTrue, cases_lt, eqb-true, eq-eqb}
use Rattle.bitlayout.proofs.Common.{false≢true}
use Rattle.std.proofs.Common.{◌%◌, ◌^◌, set, replicate, get_or-set_same, get_or-set_other, w64}
use Rattle.std.proofs.lemmas.Bool.{cases_eq, ne_eqb}
use Rattle.std.proofs.lemmas.Nat.{or_lt, one_shl, shl_whole, shr-shr, and_le_l, pow_pos}
use Rattle.std.proofs.lemmas.List.{get_or-replicate, length-replicate, length-set, get_or_past}
use Rattle.std.proofs.lemmas.List.Elements.{All-get_or, All-replicate, All-set}
use Rattle.std.proofs.lemmas.Nat.Bits.{bit_at_above, bit_at-lt, bit_at-zero, bit_at_and, bit_at_or, bit_at_ones}
use Rattle.std.proofs.lemmas.Nat.Bits.{bit_at_ones_above, bit_at_cat_low, bit_at_cat_high, bit_at-trailing_zeros}
use Rattle.std.proofs.lemmas.Nat.Bits.{shr_and_one}
use Rattle.std.specs.Prelude.{bit_and, bit_or, nat_eq}
use Rattle.std.specs.Int.{bit_at, trailing_zeros}
use Rattle.bitlayout.specs.declared.layout.Order.{Order}
use Rattle.bitlayout.specs.declared.layout.Order.TheVariants.{Intel, Motorola}
use Rattle.bitlayout.specs.declared.layout.Layout.{Layout}
use Rattle.bitlayout.specs.declared.mask.Strip.{Strip}
use Rattle.bitlayout.specs.Bits.{IsBit}
use Rattle.bitlayout.specs.Interval.{rank}
use Rattle.bitlayout.specs.Mask.{HasBit, Positions, mask_end, Has, StripHas}
use Rattle.bitlayout.specs.Words.{AreWords, positions_of}
use Rattle.bitlayout.specs.WordsBack.{has_words}
use Rattle.bitlayout.proofs.Walks.{bit_within, bit_from_within, rank_byte}

-- a run of ones, as it is computed
run_is : (first end : ℕ) → first ≤ end → end < first + 128 → end ≤ 128
    → (1 * 2 ^ (end - first) % 2 ^ 128 - 1) * 2 ^ first % 2 ^ 128 ≡ (2 ^ (end - first) - 1) * 2 ^ first + 0
run_is first end order few within =
    let count : ℕ = end - first in
    let one : 1 * 2 ^ count % 2 ^ 128 ≡ 2 ^ count = one_shl count 128 (omega arith) in
    let small : 2 ^ count - 1 < 2 ^ count = omega (arith, pow_pos count) in
    let whole : (2 ^ count - 1) * 2 ^ first % 2 ^ 128 ≡ (2 ^ count - 1) * 2 ^ first =
    shl_whole (2 ^ count - 1) count first 128 small (omega arith) in
    ap (λ n. (n - 1) * 2 ^ first % 2 ^ 128) one ∙ whole ∙ omega arith

-- a run of ones has the bits from `first` up to `end`
pub run_bits : (first end : ℕ) → first ≤ end → end < first + 128 → end ≤ 128 → (i : ℕ)
    → HasBit ((1 * 2 ^ (end - first) % 2 ^ 128 - 1) * 2 ^ first % 2 ^ 128) i ↔ ((first ≤ i) × (i < end))
run_bits first end order few within i =
    let count : ℕ = end - first in
    let is = ap (λ n. bit_at n i) (run_is first end order few within) in
    elim (cases_lt i first) [
      | inl below ↦
          let none : bit_at ((2 ^ count - 1) * 2 ^ first + 0) i ≡ 0 = bit_at_cat_low (2 ^ count - 1) first 0 i below
          ∙ bit_at-zero i in
          (λ h. absurd (omega arith), λ h. absurd (omega arith))
      | inr from ↦
          let at : bit_at ((2 ^ count - 1) * 2 ^ first + 0) i ≡ bit_at (2 ^ count - 1) (i - first) =
          bit_at_cat_high (2 ^ count - 1) first 0 i (pow_pos first) from in
          elim (cases_lt (i - first) count) [
            | inl inside ↦ (λ h. (from, omega arith), λ h. is ∙ at ∙ bit_at_ones count (i - first) inside)
            | inr past ↦
                let none : bit_at (2 ^ count - 1) (i - first) ≡ 0 = bit_at_ones_above count (i - first) past in
                (λ h. absurd (omega arith), λ h. absurd (omega arith))
          ]
    ]

-- a bit of two numbers joined
pub either_bit : (a b i : ℕ) → HasBit (bit_or a b) i ↔ (HasBit a i ⊎ HasBit b i)
either_bit a b i =
    let is = bit_at_or a b i in
    let small_a = bit_at-lt a i in
    let small_b = bit_at-lt b i in (
      λ h. elim (cases_eq (bit_at a i) 1) [ inl one ↦ inl one | inr other ↦ inr (omega arith) ],
      λ h. elim h [ inl one ↦ omega arith | inr one ↦ omega arith ],
    )

-- the three runs of a Motorola signal, in its first byte, in the bytes between and in its last byte
pub motorola_bits : (first end i : ℕ) → first < end → (first / 8 ≡ (end - 1) / 8 → ⊥) →
    ((first ≤ rank Motorola i) × (rank Motorola i < end))
    ↔ ((((8 * (first / 8) ≤ i) × (i < 16 * (first / 8) + 8 - first))
    ⊎ ((8 * (first / 8) + 8 ≤ i) × (i < 8 * ((end - 1) / 8))))
    ⊎ ((16 * ((end - 1) / 8) + 8 - end ≤ i) × (i < 8 * ((end - 1) / 8) + 8)))
motorola_bits first end i some apart = (
  λ h. elim (cases_eq (i / 8) (first / 8)) [
    | inl in_first ↦ inl (inl (omega arith, omega arith))
    | inr later ↦ elim (cases_eq (i / 8) ((end - 1) / 8)) [
      | inl in_last ↦ inr (omega arith, omega arith)
      | inr between ↦ inl (inr (omega arith, omega arith))
    ]
  ],
  λ h. elim h [
    | inl (inl (low, high)) ↦ (omega arith, omega arith)
    | inl (inr (low, high)) ↦ (omega arith, omega arith)
    | inr (low, high) ↦ (omega arith, omega arith)
  ],
)

-- and the one of a signal in one byte
pub motorola_byte : (first end i : ℕ) → first < end → first / 8 ≡ (end - 1) / 8 →
    ((first ≤ rank Motorola i) × (rank Motorola i < end))
    ↔ ((16 * (first / 8) + 8 - end ≤ i) × (i < 16 * (first / 8) + 8 - first))
motorola_byte first end i some one = (λ h. (omega arith, omega arith), λ h. (omega arith, omega arith))

-- the low word, and the high word
pub low_bit : (n i : ℕ) → i < 64 → HasBit (bit_and n (2 ^ 64 - 1)) i ↔ HasBit n i
low_bit n i small =
    let one = bit_at_ones 64 i small in
    let both = bit_at_and n (2 ^ 64 - 1) i in
    let few = bit_at-lt n i in
    (λ h. omega arith, λ h. omega arith)

pub high_bit : (n i : ℕ) → HasBit (n / 2 ^ 64) i ↔ HasBit n (64 + i)
high_bit n i =
    let e : bit_at (n / 2 ^ 64) i ≡ bit_at n (64 + i) = ap (λ x. x % 2) (shr-shr n 64 i) in
    (λ h. sym e ∙ h, λ h. e ∙ h)

-- two words have a bit in common where `&` isn't 0
pub common_bit : (a b : ℕ) → a < 2 ^ 64
    → IsTrue (not (nat_eq (bit_and a b) 0)) ↔ ((i : ℕ) × (i < 64) × HasBit a i × HasBit b i)
common_bit a b fits = (forth, back)
  where
    forth : IsTrue (not (nat_eq (bit_and a b) 0)) → (i : ℕ) × (i < 64) × HasBit a i × HasBit b i
    forth t = elim (cases_eq (bit_and a b) 0) [
      | inl none ↦ absurd (false≢true (sym (ap not (eq-eqb (bit_and a b) 0 none)) ∙ t))
      | inr some ↦
          let less = and_le_l a b in
          let lowest = bit_at-trailing_zeros w64 (bit_and a b) (omega arith) (omega arith) in
          let i : ℕ = trailing_zeros w64 (bit_and a b) in
          let both = bit_at_and a b i in
          let small_a = bit_at-lt a i in
          let small_b = bit_at-lt b i in
          let set : bit_at (bit_and a b) i ≡ 1 = lowest.1 in
          (i, lowest.0, omega arith, omega arith)
    ]

    back : (i : ℕ) × (i < 64) × HasBit a i × HasBit b i → IsTrue (not (nat_eq (bit_and a b) 0))
    back (i, small, of_a, of_b) = ap not (ne_eqb (bit_and a b) 0 (λ none.
        let both = bit_at_and a b i in
        let zero = ap (λ n. bit_at n i) none ∙ bit_at-zero i in
        omega arith))

-- the test of one bit
pub bit_tested : (n i : ℕ) → IsTrue (nat_eq (bit_and (n / 2 ^ i) 1) 1) ↔ HasBit n i
bit_tested n i = rw shr_and_one (eqb-true _ 1, eq-eqb _ 1)

-- three runs joined
pub three_runs : (a b d i : ℕ) {A B D : Type 0} → HasBit a i ↔ A → HasBit b i ↔ B → HasBit d i ↔ D
    → HasBit (bit_or (bit_or a b) d) i ↔ ((A ⊎ B) ⊎ D)
three_runs a b d i e f g = (
  λ h. elim ((either_bit (bit_or a b) d i).0 h) [
    | inl first ↦ elim ((either_bit a b i).0 first) [ inl x ↦ inl (inl (e.0 x)) | inr x ↦ inl (inr (f.0 x)) ]
    | inr last ↦ inr (g.0 last)
  ],
  λ h. elim h [
    | inl (inl x) ↦ (either_bit (bit_or a b) d i).1 (inl ((either_bit a b i).1 (inl (e.1 x))))
    | inl (inr x) ↦ (either_bit (bit_or a b) d i).1 (inl ((either_bit a b i).1 (inr (f.1 x))))
    | inr x ↦ (either_bit (bit_or a b) d i).1 (inr (g.1 x))
  ],
)

-- ---- strips

-- a rank counted from the first bit of a word
rank_from : (order : Order) (q w : ℕ) → 64 * w ≤ q → rank order (q - 64 * w) + 64 * w ≡ rank order q
rank_from Intel q w low = omega arith
rank_from Motorola q w low = omega arith

pub strip_positions : (layout : Layout) (first end bits : ℕ) → first ≡ rank layout.order layout.start
    → end ≡ rank layout.order layout.start + layout.size
    → ((i : ℕ) → HasBit bits i
    ↔ ((first - 64 * (first / 64) ≤ rank layout.order i) × (rank layout.order i < end - 64 * (first / 64))))
    → (q : ℕ) → StripHas (record { word = first / 64; bits = bits }) q ↔ IsBit layout q
unfolding StripHas
strip_positions layout first end bits is_first is_end each q = (
  λ (low, bit).
      let within = (each (q - 64 * (first / 64))).0 bit in
      let shifted = rank_from layout.order q (first / 64) low in
      bit_from_within layout q (omega arith) (omega arith),
  λ bit.
      let within = bit_within layout q bit in
      let byte = rank_byte layout.order q in
      let low : 64 * (first / 64) ≤ q = omega arith in
      let shifted = rank_from layout.order q (first / 64) low in
      (low, (each (q - 64 * (first / 64))).1 (omega arith, omega arith)),
)

-- ---- words

-- words of zeros, and one word with more bits
pub zeros_are : AreWords (replicate 224 0)
zeros_are = record {
  count = length-replicate {A = ℕ} 224 0;
  small =
      All-replicate (λ word. word < 2 ^ 64) 224 0 (omega arith);
}

pub more_are : (words : List ℕ) (index bits : ℕ) → bits < 2 ^ 64 → index < length words → AreWords words
    → AreWords (set words index (bit_or (get_or words index 0) bits))
more_are words index bits small within are =
    let word : ℕ = bit_or (get_or words index 0) bits in
    record {
      count = length-set words index word ∙ are.count;
      small = All-set (λ w. w < 2 ^ 64) words index word
          (or_lt 64 (get_or words index 0) bits (All-get_or (λ w. w < 2 ^ 64) words index 0 within are.small) small)
          are.small;
    }

-- a word past the end has no bits
word_within : (words : List ℕ) (k i : ℕ) → HasBit (get_or words k 0) i → k < length words
word_within words k i h = elim (cases_lt k (length words)) [
  | inl within ↦ within
  | inr past ↦ let none = ap (λ n. bit_at n i) (get_or_past words k 0 past) ∙ bit_at-zero i in absurd (omega arith)
]

-- the word at an index has the bits of its positions; after the last word it has none
pub word_at : (words : List ℕ) (w i : ℕ) → length words ≡ 224 → i < 64
    → HasBit (get_or words w 0) i ↔ Has (positions_of words) (64 * w + i)
word_at words w i count small =
    let at : (64 * w + i) / 64 ≡ w = omega arith in
    let index : (64 * w + i) % 64 ≡ i = omega arith in
    let is = has_words words (64 * w + i) in (
      λ bit. let within = word_within words w i bit in is.1 (omega arith, rw (at, index) bit),
      λ there. rw (at, index) at (is.0 there).1,
    )

-- after the last word no position is in the set
pub none_past : (words : List ℕ) (w i : ℕ) → 224 ≤ w → HasBit 0 i ↔ Has (positions_of words) (64 * w + i)
none_past words w i past =
    let zero = bit_at-zero i in (
      λ bit. absurd (omega arith),
      λ there. let below = ((has_words words (64 * w + i)).0 there).0 in
          absurd (omega arith),
    )

-- words of zeros have no position
pub none_in_zeros : (count q : ℕ) → Has (positions_of (replicate count 0)) q → ⊥
none_in_zeros count q there = elim (cases_lt (q / 64) count) [
  | inl within ↦
      let bit = ((has_words (replicate count 0) q).0 there).1 in
      let none = ap (λ n. bit_at n (q % 64)) (get_or-replicate count (q / 64) 0 0 within) ∙ bit_at-zero (q % 64) in
      absurd (omega arith)
  | inr past ↦
      let bit = ((has_words (replicate count 0) q).0 there).1 in
      let none = ap (λ n. bit_at n (q % 64))
      (get_or_past (replicate count 0) (q / 64) 0 (omega (arith, length-replicate {A = ℕ} count 0)))
      ∙ bit_at-zero (q % 64) in
      absurd (omega arith)
]

-- one word with more bits
put_bits : (words : List ℕ) (index bits q : ℕ) → index < length words →
    HasBit (get_or (set words index (bit_or (get_or words index 0) bits)) (q / 64) 0) (q % 64)
    ↔ (HasBit (get_or words (q / 64) 0) (q % 64) ⊎ ((q / 64 ≡ index) × HasBit bits (q % 64)))
put_bits words index bits q within =
    let value : ℕ = bit_or (get_or words index 0) bits in
    elim (cases_eq (q / 64) index) [
      | inl here ↦
          let at : get_or (set words index value) (q / 64) 0 ≡ value = ap (λ k. get_or (set words index value) k 0) here
          ∙ get_or-set_same words index value 0 within in
          let old : get_or words (q / 64) 0 ≡ get_or words index 0 = ap (λ k. get_or words k 0) here in
          rw (at, old) (
            λ h. elim ((either_bit (get_or words index 0) bits (q % 64)).0 h) [ inl x ↦ inl x | inr x ↦ inr (here, x) ],
            λ h. (either_bit (get_or words index 0) bits (q % 64)).1 (elim h [ inl x ↦ inl x | inr (same, x) ↦ inr x ]),
          )
      | inr other ↦
          rw (get_or-set_other words index (q / 64) value 0 other) (
            λ h. inl h,
            λ h. elim h [ inl x ↦ x | inr (same, x) ↦ absurd (other same) ],
          )
    ]

-- and the positions of the words
pub put_positions : (words : List ℕ) (index bits q : ℕ) → index < length words →
    Has (positions_of (set words index (bit_or (get_or words index 0) bits))) q
    ↔ (Has (positions_of words) q ⊎ ((q < mask_end) × (q / 64 ≡ index) × HasBit bits (q % 64)))
put_positions words index bits q within =
    let old = has_words words q in
    let new = has_words (set words index (bit_or (get_or words index 0) bits)) q in
    let more = put_bits words index bits q within in (
      λ there. let (below, bit) = new.0 there in
          elim (more.0 bit) [ inl before ↦ inl (old.1 (below, before)) | inr (at, added) ↦ inr (below, at, added) ],
      λ h. elim h [
        | inl there ↦ let (below, bit) = old.0 there in new.1 (below, more.1 (inl bit))
        | inr (below, at, added) ↦ new.1 (below, more.1 (inr (at, added)))
      ],
    )

-- a strip is its two words
pub strip_words : (strip : Strip) (low high q : ℕ) → high < 2 ^ 64
    → ((i : ℕ) → i < 64 → HasBit low i ↔ HasBit strip.bits i) → ((i : ℕ) → HasBit high i ↔ HasBit strip.bits (64 + i))
    → StripHas strip q ↔ (((q / 64 ≡ strip.word) × HasBit low (q % 64))
    ⊎ ((q / 64 ≡ strip.word + 1) × HasBit high (q % 64)))
unfolding StripHas
strip_words strip low high q fits of_low of_high = (forth, back)
  where
    forth : (64 * strip.word ≤ q) × HasBit strip.bits (q - 64 * strip.word)
        → ((q / 64 ≡ strip.word) × HasBit low (q % 64)) ⊎ ((q / 64 ≡ strip.word + 1) × HasBit high (q % 64))
    forth (from, bit) = elim (cases_lt (q - 64 * strip.word) 64) [
      | inl first ↦
          let e : q - 64 * strip.word ≡ q % 64 = omega arith in
          inl (omega arith, (of_low (q % 64) (omega arith)).1 (subst (HasBit strip.bits) e bit))
      | inr second ↦ elim (cases_lt (q - 64 * strip.word) 128) [
        | inl within ↦
            let e : q - 64 * strip.word ≡ 64 + q % 64 = omega arith in
            inr (omega arith, (of_high (q % 64)).1 (subst (HasBit strip.bits) e bit))
        | inr past ↦
            let above : ℕ = q - 64 * strip.word - 64 in
            let e : q - 64 * strip.word ≡ 64 + above = omega arith in
            let set : HasBit high above = (of_high above).1 (subst (HasBit strip.bits) e bit) in
            let none : bit_at high above ≡ 0 = bit_at_above high 64 above fits (omega arith) in
            absurd (omega arith)
      ]
    ]

    back : ((q / 64 ≡ strip.word) × HasBit low (q % 64)) ⊎ ((q / 64 ≡ strip.word + 1) × HasBit high (q % 64))
        → (64 * strip.word ≤ q) × HasBit strip.bits (q - 64 * strip.word)
    back (inl (here, bit)) =
        let e : q % 64 ≡ q - 64 * strip.word = omega arith in
        (omega arith, subst (HasBit strip.bits) e ((of_low (q % 64) (omega arith)).0 bit))
    back (inr (here, bit)) =
        let e : 64 + q % 64 ≡ q - 64 * strip.word = omega arith in
        (omega arith, subst (HasBit strip.bits) e ((of_high (q % 64)).0 bit))

-- two words with more bits
pub two_puts : {Old Mid New Below InFirst First InSecond Second S : Type 0} → Mid ↔ (Old ⊎ (Below × InFirst × First))
    → New ↔ (Mid ⊎ (Below × InSecond × Second)) → S ↔ ((InFirst × First) ⊎ (InSecond × Second))
    → New ↔ (Old ⊎ (Below × S))
two_puts first second strip = (
  λ new. elim (second.0 new) [
    | inl mid ↦ elim (first.0 mid) [ inl old ↦ inl old | inr (below, at, bit) ↦ inr (below, strip.1 (inl (at, bit))) ]
    | inr (below, at, bit) ↦ inr (below, strip.1 (inr (at, bit)))
  ],
  λ h. elim h [
    | inl old ↦ second.1 (inl (first.1 (inl old)))
    | inr (below, s) ↦ elim (strip.0 s) [
      | inl (at, bit) ↦ second.1 (inl (first.1 (inr (below, at, bit))))
      | inr (at, bit) ↦ second.1
          (inr (below, at, bit))
    ]
  ],
)

-- a position in the mask and in the strip
abbrev pub Touches : Positions → Strip → Type 0
Touches mask strip = (q : ℕ) × Has mask q × StripHas strip q

abbrev pub InBoth : ℕ → ℕ → Type 0
InBoth a b = (i : ℕ) × (i < 64) × HasBit a i × HasBit b i

-- the word has the bits of the 64 positions of the set from 64 times the index on
abbrev pub IsWordAt : Positions → ℕ → ℕ → Type 0
IsWordAt mask w word = (i : ℕ) → i < 64 → HasBit word i ↔ Has mask (64 * w + i)

pub touch_low : (mask : Positions) (strip : Strip) (word low : ℕ) → IsWordAt mask strip.word word
    → ((i : ℕ) → i < 64 → HasBit low i ↔ HasBit strip.bits i) → InBoth word low → Touches mask strip
unfolding StripHas
touch_low mask strip word low of_word of_low (i, small, in_word, in_low) =
    let q : ℕ = 64 * strip.word + i in
    let place : q - 64 * strip.word ≡ i = omega arith in
    (q, (of_word i small).0 in_word, (omega arith, rw place ((of_low i small).0 in_low)))

pub touch_high : (mask : Positions) (strip : Strip) (word high : ℕ) → IsWordAt mask (strip.word + 1) word
    → ((i : ℕ) → HasBit high i ↔ HasBit strip.bits (64 + i)) → InBoth word high → Touches mask strip
unfolding StripHas
touch_high mask strip word high of_word of_high (i, small, in_word, in_high) =
    let q : ℕ = 64 * (strip.word + 1) + i in
    let place : q - 64 * strip.word ≡ 64 + i = omega arith in
    (q, (of_word i small).0 in_word, (omega arith, rw place ((of_high i).0 in_high)))

-- the bit of a position in the word that has it
pub bit_in_word : (mask : Positions) (w word q : ℕ) → IsWordAt mask w word → q / 64 ≡ w
    → HasBit word (q % 64) ↔ Has mask q
bit_in_word mask w word q of_word at =
    let same : 64 * w + q % 64 ≡ q = omega arith in
    subst (λ p. HasBit word (q % 64) ↔ Has mask p) same (of_word (q % 64) (omega arith))

-- the test of a position in the word that has it
pub position_tested : (mask : Positions) (word q at : ℕ) → at ≡ q → IsWordAt mask (at / 64) word
    → IsTrue (nat_eq (bit_and (word / 2 ^ (at % 64)) 1) 1) ↔ Has mask q
position_tested mask word q at same of_word =
    let bit = bit_in_word mask (at / 64) word at of_word refl in
    let tested = bit_tested word (at % 64) in
    subst (λ p. IsTrue (nat_eq (bit_and (word / 2 ^ (at % 64)) 1) 1) ↔ Has mask p) same
    (λ t. bit.0 (tested.0 t), λ there. tested.1 (bit.1 there))

pub word_from_touch : (mask : Positions) (strip : Strip) (first second low high : ℕ) → IsWordAt mask strip.word first
    → IsWordAt mask (strip.word + 1) second → high < 2 ^ 64
    → ((i : ℕ) → i < 64 → HasBit low i ↔ HasBit strip.bits i) → ((i : ℕ) → HasBit high i ↔ HasBit strip.bits (64 + i))
    → Touches mask strip → InBoth first low ⊎ InBoth second high
word_from_touch mask strip first second low high of_first of_second fits of_low of_high (q, in_mask, in_strip) =
    elim ((strip_words strip low high q fits of_low of_high).0 in_strip) [
      | inl (at, bit) ↦ inl (q % 64, omega arith, (bit_in_word mask strip.word first q of_first at).1 in_mask, bit)
      | inr (at, bit) ↦ inr (q % 64, omega arith, (bit_in_word mask (strip.word + 1) second q of_second at).1 in_mask, bit)
    ]

-- ---- words of two masks

-- no position of the next word is in both where the words have no bit in common
pub none_in_word : (a b : List ℕ) (k : ℕ) → (InBoth (get_or a k 0) (get_or b k 0) → ⊥)
    → ((q : ℕ) → q < 64 * k → Has (positions_of a) q → Has (positions_of b) q → ⊥)
    → (q : ℕ) → q < 64 * (k + 1) → Has (positions_of a) q → Has (positions_of b) q → ⊥
none_in_word a b k none before q below in_a in_b = elim (cases_lt q (64 * k)) [
  | inl earlier ↦ before q earlier in_a in_b
  | inr here ↦
      let word : q / 64 ≡ k = omega arith in
      none (q % 64, omega arith, rw word at ((has_words a q).0 in_a).1, rw word at ((has_words b q).0 in_b).1)
]

pub both_from_word : (a b : List ℕ) (k : ℕ) → length a ≡ 224 → length b ≡ 224 → InBoth (get_or a k 0) (get_or b k 0)
    → (q : ℕ) × Has (positions_of a) q × Has (positions_of b) q
both_from_word a b k of_a of_b (i, small, in_a, in_b) =
    (64 * k + i, (word_at a k i of_a small).0 in_a, (word_at b k i of_b small).0 in_b)

-- a position of the words is below their end
pub words_end : (words : List ℕ) (q : ℕ) → Has (positions_of words) q → q < mask_end
words_end words q there = ((has_words words q).0 there).0

-- a bit of two numbers
both_bits : (a b i : ℕ) → HasBit (bit_and a b) i ↔ (HasBit a i × HasBit b i)
both_bits a b i =
    let is = bit_at_and a b i in
    let small_a = bit_at-lt a i in
    let small_b = bit_at-lt b i in
    (λ h. (omega arith, omega arith), λ (x, y). omega arith)

-- two words with the bits of a strip that are in another mask
pub shared_puts : (other : Positions) (strip : Strip) (layout : Layout) (first second low high q : ℕ)
    {Old Mid New : Type 0} → IsWordAt other strip.word first → IsWordAt other (strip.word + 1) second
    → (Has other q → q < mask_end) → high < 2 ^ 64
    → ((i : ℕ) → i < 64 → HasBit low i ↔ HasBit strip.bits i) → ((i : ℕ) → HasBit high i ↔ HasBit strip.bits (64 + i))
    → (StripHas strip q ↔ IsBit layout q)
    → Mid ↔ (Old ⊎ ((q < mask_end) × (q / 64 ≡ strip.word) × HasBit (bit_and first low) (q % 64)))
    → New ↔ (Mid ⊎ ((q < mask_end) × (q / 64 ≡ strip.word + 1) × HasBit (bit_and second high) (q % 64)))
    → New ↔ (Old ⊎ (Has other q × IsBit layout q))
shared_puts other strip layout first second low high q of_first of_second within fits of_low of_high of_layout put_first
    put_second =
    let parts = strip_words strip low high q fits of_low of_high in (
      λ new. elim (put_second.0 new) [
        | inl mid ↦ elim (put_first.0 mid) [
          | inl old ↦ inl old
          | inr (below, at, bits) ↦ let (in_other, in_low) = (both_bits first low (q % 64)).0 bits in
              inr (
                (bit_in_word other strip.word first q of_first at).0 in_other,
                of_layout.0 (parts.1 (inl (at, in_low))),
              )
        ]
        | inr (below, at, bits) ↦ let (in_other, in_high) = (both_bits second high (q % 64)).0 bits in
            inr (
              (bit_in_word other (strip.word + 1) second q of_second at).0 in_other,
              of_layout.0 (parts.1 (inr (at, in_high))),
            )
      ],
      λ h. elim h [
        | inl old ↦ put_second.1 (inl (put_first.1 (inl old)))
        | inr (in_other, bit) ↦
            let below = within in_other in
            elim (parts.0 (of_layout.1 bit)) [
              | inl (at, in_low) ↦ put_second.1
                  (inl (put_first.1 (inr (
                    below,
                    at,
                    (both_bits first low (q % 64)).1
                        ((bit_in_word other strip.word first q of_first at).1 in_other, in_low),
                  ))))
              | inr (at, in_high) ↦ put_second.1
                  (inr (
                    below,
                    at,
                    (both_bits second high (q % 64)).1
                        ((bit_in_word other (strip.word + 1) second q of_second at).1 in_other, in_high),
                  ))
            ]
      ],
    )
