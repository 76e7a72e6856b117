-- Each skipped statement is in the kept text once.
use Rattle.dbc_keep_law.proofs.Common.{◌≡◌, ◌==◌, ◌+◌, ◌++◌, ℕ, Bool, true, false, List, [], ◌∷◌, filter, refl, sym, ap}
use Rattle.dbc_keep_law.proofs.Common.{subst, ◌∙◌, append-nil, append_assoc, arith, IsPermutation, nat_tests, Keyword}
use Rattle.dbc_keep_law.proofs.Common.{Message}
use Rattle.std.specs.Prelude.{nat_le}
use Rattle.std.proofs.lemmas.List.Sorted.{
  IsPermutation-append_comm,
  IsPermutation-append_left,
  IsPermutation-append_right,
  IsPermutation-cons,
  IsPermutation-middle,
  IsPermutation-refl,
  IsPermutation-sym,
  IsPermutation-trans,
}
use Rattle.dbc_keep_law.specs.Kept.{at_place, completed, declarations, default_passage, defaults_spn, defines_spn}
use Rattle.dbc_keep_law.specs.Kept.{definition_passage, lines_at, place_of, said}
use Rattle.dbc_keep_law.specs.Law.{EachOnce}
use Rattle.dbc_keep_law.specs.Passages.{Passage}

-- those of a place and of all after it
abbrev from_place : ℕ → List Passage → List Passage
from_place n ps = filter (λ (p : Passage). nat_le n (place_of p.keyword)) ps

-- ---- one place after the other

-- whether a place is n or after it, n itself, or after it
record IsSorted (n place : ℕ) (from is after : Bool) : Type 0 where
  from_is : nat_le n place ≡ from
  is_is : (place == n) ≡ is
  after_is : nat_le (n + 1) place ≡ after

module _ (n : ℕ) (p : Passage) (ps : List Passage) where
  abbrev Step : List Passage → Type 0
  Step qs = IsPermutation (from_place n qs) (at_place n qs ++ from_place (n + 1) qs)

  step_by : (from is after : Bool) → IsSorted n (place_of p.keyword) from is after → Step ps → Step (p ∷ ps)
  step_by true true false h more = rw (h.from_is, h.is_is, h.after_is) (IsPermutation-cons p _ _ more)
  step_by true false true h more =
      rw (h.from_is, h.is_is, h.after_is)
      (IsPermutation-trans _ _ _ (IsPermutation-cons p _ _ more)
      (IsPermutation-sym _ _ (IsPermutation-middle (at_place n ps) p (from_place (n + 1) ps))))
  step_by false false false h more = rw (h.from_is, h.is_is, h.after_is) more
  step_by true true true h more = absurd (no (place_of p.keyword) h.is_is h.after_is)
    where
      no : (place : ℕ) → (place == n) ≡ true → nat_le (n + 1) place ≡ true → ⊥
      no place e f = grind (arith, nat_tests, e, f)
  step_by true false false h more = absurd (no (place_of p.keyword) h.from_is h.is_is h.after_is)
    where
      no : (place : ℕ) → nat_le n place ≡ true → (place == n) ≡ false → nat_le (n + 1) place ≡ false → ⊥
      no place e f g = grind (arith, nat_tests, e, f, g)
  step_by false true after h more = absurd (no (place_of p.keyword) h.from_is h.is_is)
    where
      no : (place : ℕ) → nat_le n place ≡ false → (place == n) ≡ true → ⊥
      no place e f = grind (arith, nat_tests, e, f)
  step_by false false true h more = absurd (no (place_of p.keyword) h.from_is h.after_is)
    where
      no : (place : ℕ) → nat_le n place ≡ false → nat_le (n + 1) place ≡ true → ⊥
      no place e f = grind (arith, nat_tests, e, f)

step : (n : ℕ) (ps : List Passage) → IsPermutation (from_place n ps) (at_place n ps ++ from_place (n + 1) ps)
step n [] = IsPermutation-refl []
step n (p ∷ ps) =
    let place = place_of p.keyword in
    step_by n p ps (nat_le n place) (place == n) (nat_le (n + 1) place)
    (record { from_is = refl; is_is = refl; after_is = refl }) (step n ps)

-- ---- all places

-- the statements and the others are those that are done, and those of the places that are left
record Splits (ps others done : List Passage) (n : ℕ) : Type 0 where
  is : IsPermutation (ps ++ others) (done ++ from_place n ps)

module _ {ps : List Passage} where
  next : {others done : List Passage} {n : ℕ} → Splits ps others done n
      → Splits ps others (done ++ at_place n ps) (n + 1)
  next {others} {done} {n} h = record {
    is = subst (IsPermutation (ps ++ others)) (sym (append_assoc done (at_place n ps) (from_place (n + 1) ps)))
        (IsPermutation-trans _ _ _ h.is (IsPermutation-append_right done _ _ (step n ps)));
  }

  with_more : {others done : List Passage} {n : ℕ} (more : List Passage) → Splits ps others done n
      → Splits ps (others ++ more) (done ++ more) n
  with_more {others} {done} {n} more h =
      let rest = from_place n ps in
      let front : IsPermutation ((ps ++ others) ++ more) ((done ++ rest) ++ more) =
      IsPermutation-append_left more (ps ++ others) (done ++ rest) h.is in
      let swapped : IsPermutation (done ++ (rest ++ more)) (done ++ (more ++ rest)) =
      IsPermutation-append_right done (rest ++ more) (more ++ rest) (IsPermutation-append_comm rest more) in
      let left : IsPermutation (ps ++ (others ++ more)) (done ++ (rest ++ more)) =
      subst (λ (l : List Passage). IsPermutation l (done ++ (rest ++ more))) (append_assoc ps others more)
      (subst (IsPermutation ((ps ++ others) ++ more)) (append_assoc done rest more) front) in
      record {
        is = subst (IsPermutation (ps ++ (others ++ more))) (sym (append_assoc done more rest))
            (IsPermutation-trans (ps ++ (others ++ more)) (done ++ (rest ++ more))
            (done ++ (more ++ rest)) left swapped);
      }

first_place : (k : Keyword) → nat_le 0 (place_of k) ≡ true
first_place Message = refl
first_place k = refl

all_from : (ps : List Passage) → from_place 0 ps ≡ ps
all_from [] = refl
all_from (p ∷ ps) = rw (first_place p.keyword) (ap (λ (l : List Passage). p ∷ l) (all_from ps))

last_place : (k : Keyword) → nat_le 17 (place_of k) ≡ false
last_place Message = refl
last_place k = refl

none_after : (ps : List Passage) → from_place 17 ps ≡ []
none_after [] = refl
none_after (p ∷ ps) = rw (last_place p.keyword) (none_after ps)

begin : (ps : List Passage) → Splits ps [] [] 0
begin ps = record {
  is = subst (IsPermutation (ps ++ [])) (append-nil ps ∙ sym (all_from ps)) (IsPermutation-refl (ps ++ []));
}

pub each_once : EachOnce
each_once s ps =
    let d6 = said s defines_spn (lines_at 6 ps) definition_passage in
    let d7 = said s defaults_spn (lines_at 7 ps) default_passage in
    let to_six = next (next (next (next (next (next (next (begin ps))))))) in
    let to_seven = with_more d7 (next (with_more d6 to_six)) in
    let all = next (next (next (next (next (next (next (next (next to_seven)))))))) in
    subst (IsPermutation (ps ++ declarations s ps))
    (ap (λ (l : List Passage). completed s ps ++ l) (none_after ps) ∙ append-nil (completed s ps)) all.is
