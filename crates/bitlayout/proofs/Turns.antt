-- Places that follow one another, each beginning where the one before it ends or later.
use Rattle.bitlayout.proofs.Common.{◌≡◌, ℕ, ◌+◌, ◌*◌, ◌<◌, ◌≤◌, List, length, get_or, sym, ap, subst, ◌∙◌, inl, inr}
use Rattle.bitlayout.proofs.Common.{arith, cases_lt}
use Rattle.bitlayout.specs.declared.layout.Order.{Order}
use Rattle.bitlayout.specs.declared.place.Mux.TheVariants.{Always}
use Rattle.bitlayout.specs.declared.place.Place.{Place}
use Rattle.bitlayout.specs.Interval.{rank}
use Rattle.bitlayout.specs.Clear.{IsClear}
use Rattle.bitlayout.proofs.Walks.{bit_within, inside_from_end}

-- the first rank of a place, and the one after its last
abbrev pub first_of : Place → ℕ
first_of place = rank place.layout.order place.layout.start

abbrev pub end_of : Place → ℕ
end_of place = first_of place + place.layout.size

-- the first `count` places are present in every message, have the order and follow one another, and end by `end`
pub record InTurn (places : List Place) (order : Order) (count end : ℕ) : Type 0 where
  pub always : (k : ℕ) (d : Place) → k < count → (get_or places k d).mux ≡ Always
  pub one_order : (k : ℕ) (d : Place) → k < count → (get_or places k d).layout.order ≡ order
  pub ended : (k : ℕ) (d : Place) → k < count → end_of (get_or places k d) ≤ end
  pub apart : (i j : ℕ) (d : Place) → i < j → j < count → end_of (get_or places i d) ≤ first_of (get_or places j d)

pub none_in_turn : (places : List Place) (order : Order) → InTurn places order 0 0
none_in_turn places order = record {
  always = λ k d below. absurd (omega arith);
  one_order = λ k d below. absurd (omega arith);
  ended = λ k d below. absurd (omega arith);
  apart = λ i j d before below. absurd (omega arith);
}

-- what holds of each of the first places, and of the next one
each_with_next : (P : Place → Type 0) (places : List Place) (count : ℕ) (place : Place)
    → ((d : Place) → get_or places count d ≡ place)
    → ((k : ℕ) (d : Place) → k < count → P (get_or places k d)) → P place → (k : ℕ) (d : Place) → k < count + 1
    → P (get_or places k d)
each_with_next P places count place at each next k d below = elim (cases_lt k count) [
  | inl earlier ↦ each k d earlier
  | inr last ↦ let here : count ≡ k = omega arith in subst P (sym (at d) ∙ ap (λ n. get_or places n d) here) next
]

-- one more place that begins where they end, or later
pub next_in_turn : (places : List Place) (order : Order) (count end : ℕ) (place : Place)
    → ((d : Place) → get_or places count d ≡ place)
    → InTurn places order count end → place.mux ≡ Always → place.layout.order ≡ order → end ≤ first_of place
    → InTurn places order (count + 1) (end_of place)
next_in_turn places order count end place at turn always same later = record {
  always = each_with_next (λ p. p.mux ≡ Always) places count place at turn.always always;
  one_order = each_with_next (λ p. p.layout.order ≡ order) places count place at turn.one_order same;
  ended = each_with_next (λ p. end_of p ≤ end_of place) places count place at
      (λ k d below. let e = turn.ended k d below in omega arith) (omega arith);
  apart = λ i j d before below. elim (cases_lt j count) [
    | inl earlier ↦ turn.apart i j d before earlier
    | inr last ↦
        let here : count ≡ j = omega arith in
        let ended = turn.ended i d (omega arith) in
        subst (λ p. end_of (get_or places i d) ≤ first_of p) (sym (at d) ∙ ap (λ n. get_or places n d) here)
        (omega arith)
  ];
}

-- places that follow one another are clear
pub clear_in_turn : (places : List Place) (order : Order) (end bytes : ℕ) → InTurn places order (length places) end
    → end ≤ 8 * bytes → IsClear places bytes
clear_in_turn places order end bytes turn few = record {
  inside = λ k d below. let e = turn.ended k d below in inside_from_end (get_or places k d).layout bytes (omega arith);
  one_multiplexor = λ i j d before below (first, second). let always = turn.always j d below in cc;
  multiplexor = λ (k, place, below, at, (value, under)). let always = turn.always k place below in cc;
  apart = λ value i j d before below (at_i, at_j, (q, of_i, of_j)).
      let within : i < length places = omega arith in
      let same : rank (get_or places i d).layout.order q ≡ rank (get_or places j d).layout.order q =
      ap (λ o. rank o q) (turn.one_order i d within ∙ sym (turn.one_order j d below)) in
      let later = turn.apart i j d before below in
      let first = bit_within (get_or places i d).layout q of_i in
      let second = bit_within (get_or places j d).layout q of_j in
      absurd (omega arith);
}
