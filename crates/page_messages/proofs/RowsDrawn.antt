-- The rows of a layout, one after another.
use Rattle.page_messages.proofs.Common.{◌≡◌, ◌+◌, ◌-◌, ◌*◌, ◌/◌, ◌<◌, ◌≤◌, ◌⊎◌, ◌==◌, ◌&&◌, ◌++◌, ◌∙◌, ℕ, zero, suc}
use Rattle.page_messages.proofs.Common.{Bool, true, false, List, [], ◌∷◌, All, cond, filter, get_or, length, nat_lt}
use Rattle.page_messages.proofs.Common.{inl, inr, refl, sym, ap, subst, arith, append-nil, append_assoc, flat_map}
use Rattle.page_messages.proofs.Common.{list_all, range_with_len, cases_lt, nat_tests, All-head, All-tail}
use Rattle.page_messages.proofs.Common.{get_or-range_with_len, length-range_with_len, Becomes, Writing, adding, added}
use Rattle.std.proofs.Common.{true≢false}
use Rattle.std.proofs.lemmas.List.{get_or_default}
use Rattle.std.proofs.lemmas.List.Folds.{list_all_at}
use Rattle.page_messages.specs.Layouts.{AreInOrder, are_free, bits_at, byte_row, free_row, free_rows, is_free}
use Rattle.page_messages.specs.Layouts.{is_unheld, row_html, rows_html, runs_of}
use Rattle.page_messages.specs.declared.bits.Held.{Held}
use Rattle.page_messages.proofs.Adding.{added_as, remains}
use Rattle.page_messages.proofs.Runs.{cut, none, run}

-- ---- numbers

below_apart : (a n : ℕ) → a < n → (a == n) ≡ false
below_apart a n h = grind (arith, nat_tests)

above_apart : (a n : ℕ) → n < a → (a == n) ≡ false
above_apart a n h = grind (arith, nat_tests)

same_true : (a n : ℕ) → a ≡ n → (a == n) ≡ true
same_true a n h = grind (arith, nat_tests)

pub less_true : (a n : ℕ) → a < n → nat_lt a n ≡ true
less_true a n h = grind (arith, nat_tests)

less_false : (a n : ℕ) → n ≤ a → nat_lt a n ≡ false
less_false a n h = grind (arith, nat_tests)

-- two numbers of which one is divided by 8
other_place : (q byte place : ℕ) → 8 * byte ≤ place → place < 8 * byte + 8 → (q / 8 == byte) ≡ false
    → (q == place) ≡ false
other_place q byte place low high e = grind (arith, nat_tests)

list_all-from : (p : ℕ → Bool) (a n : ℕ) → ((k : ℕ) → a ≤ k → k < a + n → p k ≡ true)
    → list_all p (range_with_len a n) ≡ true
list_all-from p a zero each = refl
list_all-from p a (suc n) each =
    ap (λ b. b && list_all p (range_with_len (a + 1) n)) (each a (omega arith) (omega arith))
    ∙ list_all-from p (a + 1) n (λ k low high. each k (omega arith) (omega arith))

-- ---- bytes that are free

none_at : (held : List Held) (place : ℕ) → All (λ (bit : Held). (bit.place == place) ≡ false) held
    → bits_at held place ≡ []
none_at [] place none = refl
none_at (bit ∷ held) place none =
    let test : Held → Bool = λ (b : Held). b.place == place in
    ap (λ b. cond b (bit ∷ filter (λ (b : Held). b.place == place) held) (filter (λ (b : Held). b.place == place) held)) (All-head (λ (b : Held). test b ≡ false) bit held none)
    ∙ none_at held place (All-tail (λ (b : Held). test b ≡ false) bit held none)

-- how many bits are at the place, where the first one may be
abbrev counted : Held → List Held → ℕ → Bool → Bool
counted bit held place here = length (cond here (bit ∷ bits_at held place) (bits_at held place)) == 0

some_at : (held : List Held) (place i : ℕ) (d : Held) → i < length held → (get_or held i d).place ≡ place
    → is_unheld (bits_at held) place ≡ false
some_at [] place i d within e = absurd (omega arith)
some_at (bit ∷ held) place i d within e =
    by_test i (bit.place == place) refl within e (λ j h g. some_at held place j d h g)
  where
    by_test : (i : ℕ) (b : Bool) → (bit.place == place) ≡ b → i < length (bit ∷ held)
        → (get_or (bit ∷ held) i d).place ≡ place
        → ((j : ℕ) → j < length held → (get_or held j d).place ≡ place → is_unheld (bits_at held) place ≡ false)
        → counted bit held place (bit.place == place) ≡ false
    by_test i true t h e later =
        ap (counted bit held place) t ∙ above_apart (suc (length (bits_at held place))) 0 (omega arith)
    by_test zero false t h e later = absurd (true≢false (sym (same_true bit.place place e) ∙ t))
    by_test (suc i) false t h e later = ap (counted bit held place) t ∙ later i (omega arith) e

-- no bit is in the byte
apart_free : (held : List Held) (byte : ℕ) → All (λ (bit : Held). (bit.place / 8 == byte) ≡ false) held
    → is_free (bits_at held) byte ≡ true
unfolding is_free
apart_free held byte none =
    list_all-from (is_unheld (bits_at held)) (8 * byte) 8 (λ place low high.
    ap (λ (v : List Held). length v == 0) (none_at held place (λ k d h. apart k d place low high (none k d h))))
  where
    apart : (k : ℕ) (d : Held) (place : ℕ) → 8 * byte ≤ place → place < 8 * byte + 8
        → ((get_or held k d).place / 8 == byte) ≡ false → ((get_or held k d).place == place) ≡ false
    apart k d place low high e = other_place (get_or held k d).place byte place low high e

-- some bit is in it
held_full : (held : List Held) (byte i : ℕ) (bit : Held) → i < length held → bit ≡ get_or held i bit
    → bit.place / 8 ≡ byte → is_free (bits_at held) byte ≡ false
unfolding is_free
held_full held byte i bit within is e =
    let j : ℕ = bit.place - 8 * byte in
    let low : 8 * byte ≤ bit.place = omega arith in
    let below : j < 8 = omega arith in
    let there : 8 * byte + j ≡ bit.place = omega arith in
    let inside : j < length (range_with_len (8 * byte) 8) = omega (arith, length-range_with_len (8 * byte) 8) in
    list_all_at (is_unheld (bits_at held)) (range_with_len (8 * byte) 8) j 0 inside
    (ap (is_unheld (bits_at held)) (get_or-range_with_len (8 * byte) 8 j 0 below ∙ there)
    ∙ some_at held bit.place i bit within (ap (λ (b : Held). b.place) (sym is)))

-- ---- the rows of so many bytes from one on

abbrev pub rows_from : (ℕ → List Held) → ℕ → ℕ → List ℕ
rows_from at from count = flat_map (row_html at) (runs_of (are_free at) from count)

module _ (at : ℕ → List Held) where
  -- a byte that isn't free is a row
  byte_first : (byte m count next : ℕ) → count ≡ suc m → next ≡ byte + 1 → is_free at byte ≡ false
      → rows_from at byte count ≡ byte_row at (8 * byte) ++ rows_from at next m
  byte_first byte m count next e f full =
      let many : count ≡ suc (0 + m) = omega arith in
      let there : byte ≡ byte + 0 = omega arith in
      ap (flat_map (row_html at)) (cut (are_free at) byte 0 m count byte next many there f
      (λ k above below. absurd (omega arith)) (inl (ap (λ b. b && is_free at (byte + 1)) full)))
      ∙ ap (λ b. cond b (free_row (run byte byte)) (byte_row at (8 * byte)) ++ rows_from at next m) full

  -- bytes that are free are a row, where the next one isn't, or there is none
  free_first : (from end m count : ℕ) → from < end → count ≡ end - from + m
      → ((k : ℕ) → from ≤ k → k < end → is_free at k ≡ true) → (is_free at end ≡ false) ⊎ (m ≡ 0)
      → rows_from at from count ≡ free_row (run from (end - 1)) ++ rows_from at end m
  free_first from end m count some e free ends =
      let many : count ≡ suc (end - 1 - from + m) = omega arith in
      let there : end - 1 ≡ from + (end - 1 - from) = omega arith in
      let next : end ≡ end - 1 + 1 = omega arith in
      let last : is_free at (end - 1) ≡ true = free (end - 1) (omega arith) (omega arith) in
      let stops : (are_free at (end - 1) (end - 1 + 1) ≡ false) ⊎ (m ≡ 0) =
      elim ends [
        | inl full ↦ inl (ap (λ b. b && is_free at (end - 1 + 1)) last ∙ ap (is_free at) (sym next) ∙ full)
        | inr h ↦ inr h
      ] in
      ap (flat_map (row_html at)) (cut (are_free at) from (end - 1 - from) m count (end - 1) end many there next
      (λ k above below. ap (λ b. b && is_free at (k + 1)) (free k above (omega arith))
      ∙ free (k + 1) (omega arith) (omega arith)) stops)
      ∙ ap (λ b. cond b (free_row (run from (end - 1))) (byte_row at (8 * from)) ++ rows_from at end m)
      (free from (omega arith) some)

  -- free ones up to one that isn't, or all, if there are some
  free_up_to : (from end m count : ℕ) → from ≤ end → count ≡ end - from + m
      → ((k : ℕ) → from ≤ k → k < end → is_free at k ≡ true) → (is_free at end ≡ false) ⊎ (m ≡ 0)
      → rows_from at from count ≡ free_rows from end ++ rows_from at end m
  free_up_to from end m count order e free ends =
      elim (cases_lt from end) [
        | inl some ↦ free_first from end m count some e free ends
            ∙ sym (ap (λ b. cond b (free_row (run from (end - 1))) [] ++ rows_from at end m) (less_true from end some))
        | inr past ↦ let same : from ≡ end = omega arith in
            let many : count ≡ m = omega arith in
            ap (λ k. rows_from at k count) same ∙ ap (rows_from at end) many
            ∙ sym (ap (λ b. cond b (free_row (run from (end - 1))) [] ++ rows_from at end m) (less_false from end past))
      ]

-- the rows of the bytes before `next` are drawn, and the first so many bits are in them
pub record RowsLeft (held : List Held) (bytes done next : ℕ) (began page : Writing) : Type 0 where
  pub below : (k : ℕ) (d : Held) → k < done → (get_or held k d).place / 8 < next
  pub inside : next ≤ bytes
  pub rest : (w : Writing) → Becomes w (adding (rows_from (bits_at held) next (bytes - next)) page)
      → Becomes w (adding (rows_html (bits_at held) bytes) began)

pub begun : (held : List Held) (bytes : ℕ) (page : Writing) → RowsLeft held bytes 0 0 page page
begun held bytes page =
    let all : bytes - 0 ≡ bytes = omega arith in
    record {
      below = λ k d h. absurd (omega arith);
      inside = omega arith;
      rest = λ w. subst (λ n. Becomes w (adding (rows_from (bits_at held) 0 n) page)) all;
    }

module _ (held : List Held) (bytes done next : ℕ) (began page : Writing) (order : AreInOrder held bytes)
    (left : RowsLeft held bytes done next began page) where
  -- a bit of a byte that is drawn
  pub goes_on : (bit : Held) → done < length held → bit ≡ get_or held done bit → bit.place / 8 < next
      → RowsLeft held bytes (done + 1) next began page
  goes_on bit within is drawn = record {
    below = λ k d h. elim (cases_lt k done) [
      | inl less ↦ left.below k d less
      | inr not_less ↦ let same : k ≡ done = omega arith in
          subst (λ (b : Held). b.place / 8 < next)
          (is ∙ get_or_default held done bit d within ∙ ap (λ j. get_or held j d) (sym same)) drawn
    ];
    inside = left.inside;
    rest = left.rest;
  }

  -- the byte of the next bit is drawn, and the free ones before it
  pub draws : (bit : Held) (new newer : Writing) → done < length held → bit ≡ get_or held done bit
      → next ≤ bit.place / 8 → Becomes new (adding (free_rows next (bit.place / 8)) page)
      → Becomes newer (adding (byte_row (bits_at held) (8 * (bit.place / 8))) new)
      → RowsLeft held bytes (done + 1) (bit.place / 8 + 1) began newer
  draws bit new newer within is past first second =
      let byte = bit.place / 8 in
      let place : bit.place < 8 * bytes =
      subst (λ (b : Held). b.place < 8 * bytes) (sym is) (order.within done bit within) in
      let inside : byte < bytes = omega arith in
      let rises = order.rising in
      let full : is_free (bits_at held) byte ≡ false = held_full held byte done bit within is refl in
      let free : (k : ℕ) → next ≤ k → k < byte → is_free (bits_at held) k ≡ true = λ k above below.
      apart_free held k (λ j d h. elim (cases_lt j done) [
        | inl less ↦ let drawn = left.below j d less in below_apart _ k (omega arith)
        | inr later ↦ let higher : bit.place ≤ (get_or held j d).place =
            subst (λ (b : Held). b.place ≤ (get_or held j d).place)
            (sym (is ∙ get_or_default held done bit d within)) (rises done j d later h) in
            above_apart _ k (omega arith)
      ]) in
      let many : bytes - next ≡ byte - next + (bytes - byte) = omega arith in
      let more : bytes - byte ≡ suc (bytes - (byte + 1)) = omega arith in
      let row = byte_row (bits_at held) (8 * byte) in
      record {
        below = λ k d h. elim (cases_lt k done) [
          | inl less ↦ let drawn = left.below k d less in omega arith
          | inr not_less ↦ let same : k ≡ done = omega arith in
              let it : (get_or held k d).place ≡ bit.place = ap (λ (b : Held). b.place)
              (ap (λ j. get_or held j d) same ∙ sym (is ∙ get_or_default held done bit d within)) in
              omega arith
        ];
        inside = omega arith;
        rest = remains (free_rows next byte ++ row) (rows_from (bits_at held) next (bytes - next))
            (rows_from (bits_at held) (byte + 1) (bytes - (byte + 1))) (rows_html (bits_at held) bytes) began page newer left.rest
            (added page (free_rows next byte) row first second)
            (free_up_to (bits_at held) next byte (bytes - byte) (bytes - next) past many free (inl full)
            ∙ ap (λ v. free_rows next byte ++ v) (byte_first (bits_at held) byte (bytes - (byte + 1)) (bytes - byte) (byte + 1) more
            refl full)
            ∙ sym (append_assoc (free_rows next byte) row (rows_from (bits_at held) (byte + 1) (bytes - (byte + 1)))));
      }

  -- those after the last bit
  pub ends : (new : Writing) → length held ≤ done → Becomes new (adding (free_rows next bytes) page)
      → Becomes new (adding (rows_html (bits_at held) bytes) began)
  ends new all last =
      let free : (k : ℕ) → next ≤ k → k < bytes → is_free (bits_at held) k ≡ true = λ k above below.
      apart_free held k (λ j d h. let drawn = left.below j d (omega arith) in below_apart _ k (omega arith)) in
      let many : bytes - next ≡ bytes - next + 0 = omega arith in
      left.rest new (added_as (free_rows next bytes) (rows_from (bits_at held) next (bytes - next)) page new
      (sym (free_up_to (bits_at held) next bytes 0 (bytes - next) left.inside many free (inr refl)
      ∙ ap (λ v. free_rows next bytes ++ flat_map (row_html (bits_at held)) v) (none (are_free (bits_at held)) bytes 0 refl)
      ∙ append-nil (free_rows next bytes)))
      last)
