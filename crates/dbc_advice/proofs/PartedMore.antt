-- One more skipped statement, reported by itself or left.
use Rattle.dbc_advice.proofs.Common.{◌≡◌, ◌+◌, ◌<◌, ◌≤◌, ℕ, Bool, true, false, List, [], ◌∷◌, ◌++◌, Option, Some, None}
use Rattle.dbc_advice.proofs.Common.{length, take, get_or, refl, sym, ap, subst, ◌∙◌, arith, append-nil, length-append}
use Rattle.dbc_advice.proofs.Common.{if◌then◌else◌, flat_map, nat_tests, flat_map-append, take-append-le, take_all}
use Rattle.dbc_advice.proofs.Common.{take_more, Passed}
use Rattle.std.specs.Prelude.{nat_lt}
use Rattle.dbc_sheet.specs.declared.sheet.Sheet.{Sheet}
use Rattle.dbc_advice.specs.Citation.{Cited}
use Rattle.dbc_advice.specs.LeftOut.{Missing, all_missing, all_others, line_after, missing_at, missing_line}
use Rattle.dbc_advice.specs.LeftOut.{missing_lines, with_missing, without_missing}
use Rattle.dbc_advice.specs.Limits.{citations_reported}

-- along a list that is made of what a function gives of each: one more
more_of : {A B : Type 0} (f : A → List B) (xs : List A) (i : ℕ) (d : A) → i < length xs
    → flat_map f (take (i + 1) xs) ≡ flat_map f (take i xs) ++ f (get_or xs i d)
more_of f xs i d lt =
    ap (λ ys. flat_map f ys) (take_more xs i d lt) ∙ flat_map-append f (take i xs) (get_or xs i d ∷ [])
    ∙ ap (λ ys. flat_map f (take i xs) ++ ys) (append-nil (f (get_or xs i d)))

module _ (file text : List ℕ) (s : Sheet) where
  -- one more of those that are reported by themselves
  lines_more : (ms : List Missing) (m : Missing) → missing_lines file text (ms ++ m ∷ []) ≡ missing_lines file text ms
      ++ line_after (length ms) file text m
  lines_more ms m = by_room (nat_lt (length ms) citations_reported) refl
    where
      new : length (ms ++ m ∷ []) ≡ length ms + 1
      new = length-append ms (m ∷ [])

      by_room : (room : Bool) → nat_lt (length ms) citations_reported ≡ room
          → missing_lines file text (ms ++ m ∷ []) ≡ missing_lines file text ms ++ line_after (length ms) file text m
      by_room true is =
          let lt : length ms < citations_reported = grind (arith, nat_tests, is) in
          let all : take citations_reported (ms ++ m ∷ []) ≡ ms ++ m ∷ [] =
          take_all citations_reported (ms ++ m ∷ []) (omega (arith, lt, new)) in
          let before : take citations_reported ms ≡ ms = take_all citations_reported ms (omega (arith, lt)) in
          let line : line_after (length ms) file text m ≡ missing_line file text m =
          ap (λ (b : Bool). if b then missing_line file text m else []) is in
          ap (λ (xs : List Missing). flat_map (missing_line file text) xs) all
          ∙ flat_map-append (missing_line file text) ms (m ∷ [])
          ∙ ap (λ (v : List ℕ). flat_map (missing_line file text) ms ++ v)
          (append-nil (missing_line file text m) ∙ sym line)
          ∙ ap (λ (xs : List Missing). flat_map (missing_line file text) xs ++ line_after (length ms) file text m)
          (sym before)
      by_room false is =
          let ge : citations_reported ≤ length ms = grind (arith, nat_tests, is) in
          let same : take citations_reported (ms ++ m ∷ []) ≡ take citations_reported ms =
          take-append-le citations_reported ms (m ∷ []) ge in
          let line : line_after (length ms) file text m ≡ [] =
          ap (λ (b : Bool). if b then missing_line file text m else []) is in
          ap (λ (xs : List Missing). flat_map (missing_line file text) xs) same
          ∙ sym (append-nil (missing_lines file text ms))
          ∙ ap (λ (v : List ℕ). missing_lines file text ms ++ v) (sym line)

  -- those of these statements that are reported, and one more of which is known what it cites
  pub missing_more : (ps : List Passed) (i : ℕ) (d : Passed) (o : Option Cited) → i < length ps
      → o ≡ missing_at s text (get_or ps i d)
      → all_missing s text (take (i + 1) ps) ≡ all_missing s text (take i ps) ++ with_missing (get_or ps i d) o
  missing_more ps i d o lt is =
      more_of (λ (p : Passed). with_missing p (missing_at s text p)) ps i d lt
      ∙ ap (λ (c : Option Cited). all_missing s text (take i ps) ++ with_missing (get_or ps i d) c) (sym is)

  pub others_more : (ps : List Passed) (i : ℕ) (d : Passed) (o : Option Cited) → i < length ps
      → o ≡ missing_at s text (get_or ps i d)
      → all_others s text (take (i + 1) ps) ≡ all_others s text (take i ps) ++ without_missing (get_or ps i d) o
  others_more ps i d o lt is =
      more_of (λ (p : Passed). without_missing p (missing_at s text p)) ps i d lt
      ∙ ap (λ (c : Option Cited). all_others s text (take i ps) ++ without_missing (get_or ps i d) c) (sym is)

  -- the invariant of reporting them: the lines of these, how many cite what is missing, and the others
  pub record Reported (ps : List Passed) (reported : List ℕ) (count : ℕ) (left : List Passed) : Type 0 where
    pub lines : reported ≡ missing_lines file text (all_missing s text ps)
    pub missing : count ≡ length (all_missing s text ps)
    pub others : left ≡ all_others s text ps

  pub reported_cited : (ps : List Passed) (i : ℕ) (d : Passed) (c : Cited) (lines new : List ℕ) (missing : ℕ)
      (others : List Passed) → i < length ps → Some c ≡ missing_at s text (get_or ps i d)
      → Reported (take i ps) lines missing others → new ≡ lines ++ line_after missing file text (get_or ps i d, c)
      → Reported (take (i + 1) ps) new (missing + 1) others
  reported_cited ps i d c lines new missing others lt is reported e =
      let before : List Missing = all_missing s text (take i ps) in
      let m : Missing = (get_or ps i d, c) in
      let more : all_missing s text (take (i + 1) ps) ≡ before ++ m ∷ [] = missing_more ps i d (Some c) lt is in
      let n : length (before ++ m ∷ []) ≡ length before + 1 = length-append before (m ∷ []) in
      record {
        lines = e ∙ ap (λ (v : List ℕ). v ++ line_after missing file text m) reported.lines
            ∙ ap (λ (k : ℕ). missing_lines file text before ++ line_after k file text m) reported.missing
            ∙ sym (lines_more before m) ∙ ap (λ (ms : List Missing). missing_lines file text ms) (sym more);
        missing = ap (λ (k : ℕ). k + 1) reported.missing ∙ sym n ∙ ap (λ (ms : List Missing). length ms) (sym more);
        others = reported.others ∙ sym (append-nil (all_others s text (take i ps)))
            ∙ sym (others_more ps i d (Some c) lt is);
      }

  pub reported_other : (ps : List Passed) (i : ℕ) (d : Passed) (lines : List ℕ) (missing : ℕ) (others new : List Passed)
      → i < length ps → None ≡ missing_at s text (get_or ps i d)
      → Reported (take i ps) lines missing others → new ≡ others ++ get_or ps i d ∷ []
      → Reported (take (i + 1) ps) lines missing new
  reported_other ps i d lines missing others new lt is reported e =
      let more : all_missing s text (take (i + 1) ps) ≡ all_missing s text (take i ps) = missing_more ps i d None lt is
      ∙ append-nil (all_missing s text (take i ps)) in
      record {
        lines = reported.lines ∙ ap (λ (ms : List Missing). missing_lines file text ms) (sym more);
        missing = reported.missing ∙ ap (λ (ms : List Missing). length ms) (sym more);
        others = e ∙ ap (λ (xs : List Passed). xs ++ get_or ps i d ∷ []) reported.others
            ∙ sym (others_more ps i d None lt is);
      }

  -- the same along a list that is shown
  pub cited_after : (passed shown : List Passed) (i : ℕ) (d : Passed) (c : Cited) (lines new : List ℕ) (missing : ℕ)
      (others : List Passed) → shown ≡ passed → i < length shown
      → Some c ≡ missing_at s text (get_or shown i d) → Reported (take i passed) lines missing others
      → new ≡ lines ++ line_after missing file text (get_or shown i d, c)
      → Reported (take (i + 1) passed) new (missing + 1) others
  cited_after passed shown i d c lines new missing others same lt is reported e =
      let P : List Passed → Type 0 = λ (ps : List Passed). Reported (take i ps) lines missing others
      → Reported (take (i + 1) ps) new (missing + 1) others in
      let here : P shown = λ before. reported_cited shown i d c lines new missing others lt is before e in
      subst P same here reported

  pub other_after : (passed shown : List Passed) (i : ℕ) (d : Passed) (lines : List ℕ) (missing : ℕ)
      (others new : List Passed) → shown ≡ passed → i < length shown
      → None ≡ missing_at s text (get_or shown i d) → Reported (take i passed) lines missing others
      → new ≡ others ++ get_or shown i d ∷ []
      → Reported (take (i + 1) passed) lines missing new
  other_after passed shown i d lines missing others new same lt is reported e =
      let P : List Passed → Type 0 = λ (ps : List Passed). Reported (take i ps) lines missing others
      → Reported (take (i + 1) ps) lines missing new in
      let here : P shown = λ before. reported_other shown i d lines missing others new lt is before e in
      subst P same here reported
