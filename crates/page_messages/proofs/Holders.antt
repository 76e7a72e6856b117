-- The bits at a place, among all that signals hold: those of the signals that have the place.
use Rattle.page_messages.proofs.Common.{◌≡◌, ◌+◌, ◌-◌, ◌<◌, ◌≤◌, ◌⊎◌, ◌==◌, ◌&&◌, ◌++◌, ◌∙◌, ℕ, zero, suc, Bool, true}
use Rattle.page_messages.proofs.Common.{false, not, List, [], ◌∷◌, All, cond, filter, get_or, inl, inr, length, map}
use Rattle.page_messages.proofs.Common.{refl, sym, ap, subst, append-nil, arith, take, flat_map, range_with_len}
use Rattle.page_messages.proofs.Common.{cases_lt, nat_tests, All-head, All-nil, All-tail, take_more}
use Rattle.page_messages.proofs.Common.{get_or-range_with_len, length-range_with_len, is_bit, is_bit_decides}
use Rattle.std.proofs.Common.{max, min}
use Rattle.std.specs.List.Sorted.{IsStableByKey}
use Rattle.std.specs.Ordering.{is_lt, nat_cmp}
use Rattle.std.proofs.lemmas.Bool.{cases_Bool}
use Rattle.std.proofs.lemmas.List.Elements.{All-append, All-filter, All-map, filter-append, filter_agree}
use Rattle.std.proofs.lemmas.List.Concat.{flat_map-append}
use Rattle.bitlayout.specs.Interval.{rank}
use Rattle.bitlayout.specs.Limits.{size_limit}
use Rattle.bitlayout.specs.declared.layout.Layout.{Layout}
use Rattle.bitlayout.specs.declared.layout.Order.{Order}
use Rattle.bitlayout.specs.declared.layout.Order.TheVariants.{Intel, Motorola}
use Rattle.bitlayout.proofs.Walks.{bit_within}
use Rattle.page_messages.specs.Bits.{bit_at, held_of, is_held, start_of_byte, turned}
use Rattle.page_messages.specs.Layouts.{bits_at, holders, place_of}
use Rattle.page_messages.specs.declared.bits.Held.{Held}
use Rattle.page_messages.specs.declared.bits.TheConstants.{REACH}
use Rattle.page_messages.specs.declared.shown.Shown.{Shown}

-- ---- before the end of the payload

all_between : (P : ℕ → Type 0) (a n : ℕ) → ((k : ℕ) → a ≤ k → k < a + n → P k) → All P (range_with_len a n)
all_between P a n each k d lt =
    let below : k < n = omega (arith, length-range_with_len a n) in
    subst P (sym (get_or-range_with_len a n k d below)) (each (a + k) (omega arith) (omega arith))

abbrev IsBefore : ℕ → Held → Type 0
IsBefore end bit = bit.place < end

inside : (end first k : ℕ) → first ≤ k → k < first + (max (min end (first + REACH)) first - first) → k < end
inside end first k low high = omega arith

of_one : (end : ℕ) (by : Shown) → All (IsBefore end) (held_of end by)
of_one end by =
    let first = start_of_byte by.signal.now.layout.start in
    let last = max (min end (first + REACH)) first in
    All-filter is_held (IsBefore end) (map (bit_at by) (range_with_len first (last - first)))
    (All-map (IsBefore end) (bit_at by) (range_with_len first (last - first))
    (all_between (λ k. k < end) first (last - first) (λ k low high. inside end first k low high)))

pub of_all : (end : ℕ) (shown : List Shown) → All (IsBefore end) (flat_map (held_of end) shown)
of_all end [] = All-nil (IsBefore end)
of_all end (by ∷ shown) =
    All-append (IsBefore end) (held_of end by) (flat_map (held_of end) shown) (of_one end by) (of_all end shown)

-- ---- a signal has no bit far from its start

far_in : (order : Order) (start size place : ℕ) → size ≤ size_limit
    → (place < start_of_byte start) ⊎ (start_of_byte start + REACH ≤ place)
    → rank order start ≤ rank order (rank Motorola place) → rank order (rank Motorola place) < rank order start + size
    → false ≡ true
far_in Intel start size place few (inl before) low high = absurd (omega arith)
far_in Intel start size place few (inr after) low high = absurd (omega arith)
far_in Motorola start size place few (inl before) low high = absurd (omega arith)
far_in Motorola start size place few (inr after) low high = absurd (omega arith)

far : (layout : Layout) (place : ℕ) → layout.size ≤ size_limit
    → (place < start_of_byte layout.start) ⊎ (start_of_byte layout.start + REACH ≤ place)
    → is_bit layout (turned place) ≡ false
far layout place few outside =
    elim (cases_Bool (is_bit layout (turned place))) [
      | inl bit ↦ let within = bit_within layout (turned place) ((is_bit_decides layout (turned place)).0 bit) in
          bit ∙ sym (far_in layout.order layout.start layout.size place few outside within.0 within.1)
      | inr never ↦ never
    ]

-- ---- one signal

module _ (by : Shown) (place : ℕ) where
  abbrev here : Held → Bool
  here bit = bit.place == place

  abbrev one : List Held
  one = cond (is_held (bit_at by place)) (bit_at by place ∷ []) []

  abbrev found : ℕ → ℕ → List Held
  found a n = filter here (filter is_held (map (bit_at by) (range_with_len a n)))

  first_of : (a n : ℕ) → found a (suc n)
      ≡ cond (is_held (bit_at by a)) (cond (a == place) (bit_at by a ∷ found (a + 1) n) (found (a + 1) n))
      (found (a + 1) n)
  first_of a n =
      elim (is_held (bit_at by a)) as (λ b. filter here (cond b (bit_at by a ∷ filter is_held (map (bit_at by)
      (range_with_len (a + 1) n))) (filter is_held (map (bit_at by) (range_with_len (a + 1) n))))
      ≡ cond b (cond (a == place) (bit_at by a ∷ found (a + 1) n) (found (a + 1) n)) (found (a + 1) n)) [
        | true ↦ refl
        | false ↦ refl
      ]

  both_alike : (b : Bool) (v : List Held) → cond b v v ≡ v
  both_alike true v = refl
  both_alike false v = refl

  apart : (a : ℕ) → (a < place) ⊎ (place < a) → (a == place) ≡ false
  apart a (inl less) = grind (arith, nat_tests)
  apart a (inr more) = grind (arith, nat_tests)

  passed : (a n : ℕ) → (a == place) ≡ false → found a (suc n) ≡ found (a + 1) n
  passed a n e =
      first_of a n
      ∙ ap (λ b. cond (is_held (bit_at by a)) (cond b (bit_at by a ∷ found (a + 1) n) (found (a + 1) n))
      (found (a + 1) n)) e
      ∙ both_alike (is_held (bit_at by a)) (found (a + 1) n)

  outside_range : (a n : ℕ) → (place < a) ⊎ (a + n ≤ place) → found a n ≡ []
  outside_range a zero out = refl
  outside_range a (suc n) (inl before) = passed a n (apart a (inr before)) ∙ outside_range (a + 1) n (inl (omega arith))
  outside_range a (suc n) (inr after) =
      passed a n (apart a (inl (omega arith))) ∙ outside_range (a + 1) n (inr (omega arith))

  reached : (a n : ℕ) → a ≡ place → found a (suc n) ≡ one
  reached a n e =
      let none : found (a + 1) n ≡ [] = outside_range (a + 1) n (inl (omega arith)) in
      let same : (a == place) ≡ true = grind (arith, nat_tests) in
      first_of a n
      ∙ ap (λ b. cond (is_held (bit_at by a)) (cond b (bit_at by a ∷ found (a + 1) n) (found (a + 1) n))
      (found (a + 1) n)) same
      ∙ ap (λ v. cond (is_held (bit_at by a)) (bit_at by a ∷ v) v) none
      ∙ ap (λ k. cond (is_held (bit_at by k)) (bit_at by k ∷ []) []) e

  inside_range : (a n : ℕ) → a ≤ place → place < a + n → found a n ≡ one
  inside_range a zero low high = absurd (omega arith)
  inside_range a (suc n) low high =
      elim (cases_lt a place) [
        | inl less ↦ passed a n (apart a (inl less)) ∙ inside_range (a + 1) n (omega arith) (omega arith)
        | inr not_less ↦ reached a n (omega arith)
      ]

  no_one : is_held (bit_at by place) ≡ false → one ≡ []
  no_one e = ap (λ b. cond b (bit_at by place ∷ []) []) e

  pub of_signal : (end : ℕ) → place < end → by.signal.now.layout.size ≤ size_limit
      → filter here (held_of end by) ≡ one
  of_signal end within few =
      let first = start_of_byte by.signal.now.layout.start in
      let last = max (min end (first + REACH)) first in
      elim (cases_lt place first) [
        | inl before ↦ outside_range first (last - first) (inl before)
            ∙ sym (no_one (far by.signal.now.layout place few (inl before)))
        | inr from ↦ elim (cases_lt place (first + (last - first))) [
          | inl below ↦ inside_range first (last - first) from below
          | inr past ↦ outside_range first (last - first) (inr past)
              ∙ sym (no_one (far by.signal.now.layout place few (inr (omega arith))))
        ]
      ]

-- ---- all signals

abbrev pub IsSmall : Shown → Type 0
IsSmall by = by.signal.now.layout.size ≤ size_limit

before_rest : (b : Bool) (bit : Held) (rest : List Held) → cond b (bit ∷ []) [] ++ rest ≡ cond b (bit ∷ rest) rest
before_rest true bit rest = refl
before_rest false bit rest = refl

pub of_signals : (end place : ℕ) (signals : List Shown) → place < end → All IsSmall signals
    → bits_at (flat_map (held_of end) signals) place ≡ holders signals place
of_signals end place [] within few = refl
of_signals end place (by ∷ signals) within few =
    let test : Held → Bool = λ (bit : Held). bit.place == place in
    filter-append test (held_of end by) (flat_map (held_of end) signals)
    ∙ ap (λ v. v ++ filter test (flat_map (held_of end) signals))
    (of_signal by place end within (All-head IsSmall by signals few))
    ∙ ap (λ v. cond (is_held (bit_at by place)) (bit_at by place ∷ []) [] ++ v)
    (of_signals end place signals within (All-tail IsSmall by signals few))
    ∙ before_rest (is_held (bit_at by place)) (bit_at by place) (holders signals place)

-- ---- those that a stable sort by the places leaves

tied : (a b : ℕ) → (not (is_lt (nat_cmp a b)) && not (is_lt (nat_cmp b a))) ≡ (b == a)
tied a b = grind (arith, nat_tests)

pub kept : (place : ℕ) (found sorted : List Held) → IsStableByKey place_of nat_cmp found sorted
    → length sorted ≡ length found → bits_at sorted place ≡ bits_at found place
kept place [] [] stable same = refl
kept place [] (y ∷ ys) stable same = absurd (omega arith)
kept place (x ∷ xs) sorted stable same =
    let test : Held → Bool = λ (bit : Held). bit.place == place in
    let one : Held = record x { place = place } in
    sym (filter_agree _ test (λ y. tied place y.place) sorted) ∙ stable one
    ∙ filter_agree _ test (λ y. tied place y.place) (x ∷ xs)

-- ---- in a loop over the signals

pub held_more : (f : Shown → List Held) (signals : List Shown) (i : ℕ) (by : Shown) (held new : List Held)
    → i < length signals → by ≡ get_or signals i by → held ≡ flat_map f (take i signals) → new ≡ held ++ f by
    → new ≡ flat_map f (take (i + 1) signals)
held_more f signals i by held new within is before pushed =
    pushed ∙ ap (λ v. v ++ f by) before
    ∙ sym (ap (flat_map f) (take_more signals i by within ∙ ap (λ y. take i signals ++ y ∷ []) (sym is))
    ∙ flat_map-append f (take i signals) (by ∷ []) ∙ ap (λ v. flat_map f (take i signals) ++ v) (append-nil (f by)))
