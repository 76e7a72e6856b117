-- The cells of a byte, one after another.
use Rattle.page_messages.proofs.Common.{◌≡◌, ◌+◌, ◌-◌, ◌<◌, ◌≤◌, ◌⊎◌, ◌++◌, ◌∙◌, ℕ, suc, true, false, List, inl, inr}
use Rattle.page_messages.proofs.Common.{refl, sym, ap, subst, arith, append-nil, Bool, flat_map, cases_lt, Becomes}
use Rattle.page_messages.proofs.Common.{Writing, adding}
use Rattle.page_messages.specs.Layouts.{are_alike, cell_html, cells_html, have_same, run_cell, runs_of}
use Rattle.page_messages.specs.declared.bits.Held.{Held}
use Rattle.page_messages.proofs.Adding.{added_as, remains}
use Rattle.page_messages.proofs.Runs.{cut, none}

-- the cells of so many places from one on
abbrev pub cells_from : (ℕ → List Held) → ℕ → ℕ → List ℕ
cells_from at from count = flat_map (run_cell at) (runs_of (have_same at) from count)

-- the cells before `from` are drawn, and all places from there up to `place` are of one cell, which isn't
pub record CellsLeft (at : ℕ → List Held) (start from place : ℕ) (high low : List Held) (began page : Writing) : Type 0 where
  pub alike : (k : ℕ) → from ≤ k → k + 1 < place → have_same at k (k + 1) ≡ true
  pub after : from < place
  pub inside : place ≤ start + 8
  pub first : high ≡ at from
  pub last : low ≡ at (place - 1)
  pub rest : (w : Writing) → Becomes w (adding (cells_from at from (start + 8 - from)) page)
      → Becomes w (adding (cells_html at start) began)

pub begun : (at : ℕ → List Held) (start place : ℕ) (bits : List Held) (page : Writing) → place ≡ start + 1
    → bits ≡ at start → CellsLeft at start start place bits bits page page
begun at start place bits page e is =
    let here : start ≡ place - 1 = omega arith in
    let all : start + 8 - start ≡ 8 = omega arith in
    record {
      alike = λ k low high. absurd (omega arith);
      after = omega arith;
      inside = omega arith;
      first = is;
      last = is ∙ ap at here;
      rest = λ w. subst (λ n. Becomes w (adding (cells_from at start n) page)) all;
    }

module _ (at : ℕ → List Held) (start from place : ℕ) (high low here : List Held) (began page : Writing)
    (left : CellsLeft at start from place high low began page) where
  -- what is alike at two places
  at_places : (k : ℕ) (b : Bool) → k + 1 ≡ place → here ≡ at place → are_alike low here ≡ b
      → have_same at k (k + 1) ≡ b
  at_places k b e is test =
      let before : k ≡ place - 1 = omega arith in
      ap (λ v. are_alike (at v) (at (k + 1))) before
      ∙ ap (λ v. are_alike (at (place - 1)) (at v)) e
      ∙ ap (λ v. are_alike v (at place)) (sym left.last)
      ∙ ap (are_alike low) (sym is) ∙ test

  pub goes_on : place < start + 8 → here ≡ at place → are_alike low here ≡ true
      → CellsLeft at start from (place + 1) high here began page
  goes_on within is test =
      let last : place ≡ place + 1 - 1 = omega arith in
      let after = left.after in
      record {
        alike = λ k above below. elim (cases_lt (k + 1) place) [
          | inl less ↦ left.alike k above less
          | inr not_less ↦ at_places k true (omega arith) is test
        ];
        after = omega arith;
        inside = omega arith;
        first = left.first;
        last = is ∙ ap at last;
        rest = left.rest;
      }

  -- the cell that ends before the place, and what remains
  ended : (count m : ℕ) → count ≡ suc (place - 1 - from + m) → (have_same at (place - 1) (place - 1 + 1) ≡ false) ⊎ (m ≡ 0)
      → cells_from at from count ≡ cell_html (place - from) high low ++ cells_from at place m
  ended count m e end =
      let after = left.after in
      let there : place - 1 ≡ from + (place - 1 - from) = omega arith in
      let next : place ≡ place - 1 + 1 = omega arith in
      let columns : place - 1 + 1 - from ≡ place - from = omega arith in
      ap (flat_map (run_cell at)) (cut (have_same at) from (place - 1 - from) m count (place - 1) place e there next
      (λ k above below. left.alike k above (omega arith)) end)
      ∙ ap (λ n. cell_html n (at from) (at (place - 1)) ++ cells_from at place m) columns
      ∙ ap (λ v. cell_html (place - from) v (at (place - 1)) ++ cells_from at place m) (sym left.first)
      ∙ ap (λ v. cell_html (place - from) high v ++ cells_from at place m) (sym left.last)

  pub begins : (new : Writing) → place < start + 8 → here ≡ at place → are_alike low here ≡ false
      → Becomes new (adding (cell_html (place - from) high low) page)
      → CellsLeft at start place (place + 1) here here began new
  begins new within is test first =
      let after = left.after in
      let last : place ≡ place + 1 - 1 = omega arith in
      let many : start + 8 - from ≡ suc (place - 1 - from + (start + 8 - place)) = omega arith in
      let next : place - 1 + 1 ≡ place = omega arith in
      record {
        alike = λ k above below. absurd (omega arith);
        after = omega arith;
        inside = omega arith;
        first = is;
        last = is ∙ ap at last;
        rest = remains (cell_html (place - from) high low) (cells_from at from (start + 8 - from))
            (cells_from at place (start + 8 - place)) (cells_html at start) began page new left.rest first
            (ended (start + 8 - from) (start + 8 - place) many (inl (at_places (place - 1) false next is test)));
      }

  pub ends : (new : Writing) → start + 8 ≤ place → Becomes new (adding (cell_html (start + 8 - from) high low) page)
      → Becomes new (adding (cells_html at start) began)
  ends new past last =
      let after = left.after in
      let inside = left.inside in
      let end : start + 8 - from ≡ place - from = omega arith in
      let many : start + 8 - from ≡ suc (place - 1 - from + 0) = omega arith in
      let all : cell_html (start + 8 - from) high low ≡ cells_from at from (start + 8 - from) =
      ap (λ n. cell_html n high low) end ∙ sym (ended (start + 8 - from) 0 many (inr refl)
      ∙ ap (λ v. cell_html (place - from) high low ++ flat_map (run_cell at) v) (none (have_same at) place 0 refl)
      ∙ append-nil (cell_html (place - from) high low)) in
      left.rest new (added_as (cell_html (start + 8 - from) high low) (cells_from at from (start + 8 - from)) page new
      all last)
