-- Lines of things, one more after the other.
use Rattle.dbc_advice.proofs.Common.{◌≡◌, ◌+◌, ◌<◌, ◌≤◌, ℕ, List, [], ◌∷◌, ◌++◌, length, map, take, get_or, refl, sym}
use Rattle.dbc_advice.proofs.Common.{ap, ◌∙◌, subst, arith, append_assoc, append-nil, nat_tests, take_more}
use Rattle.dbc_advice.specs.ReportedLine.{AreLinesOf, more_line, more_text}

module _ {A : Type 0} (Is : A → List ℕ → Type 0) where
  -- after these lines, those of others
  pub lines_append : (xs ys : List A) (a b : List ℕ) → AreLinesOf Is xs a → AreLinesOf Is ys b
      → AreLinesOf Is (xs ++ ys) (a ++ b)
  lines_append [] ys a b same bs = subst (AreLinesOf Is ys) (ap (λ v. v ++ b) same) bs
  lines_append (x ∷ xs) ys a b are bs = (
    are.0,
    are.1 ++ b,
    are.2,
    lines_append xs ys are.1 b are.3 bs,
    sym (append_assoc are.0 are.1 b)
        ∙ ap (λ v. v ++ b) are.4,
  )

  one_line : (x : A) (line : List ℕ) → Is x line → AreLinesOf Is (x ∷ []) line
  one_line x line is = (line, [], is, refl, append-nil line)

  -- after the lines of the first, that of one more
  pub line_after : (xs : List A) (i : ℕ) (d : A) (old line new : List ℕ) → i < length xs → AreLinesOf Is (take i xs) old
      → Is (get_or xs i d) line → new ≡ old ++ line
      → AreLinesOf Is (take (i + 1) xs) new
  line_after xs i d old line new lt are is e =
      let x : A = get_or xs i d in
      let P : List A → Type 0 = λ ys. AreLinesOf Is ys new in
      let Q : List ℕ → Type 0 = λ v. AreLinesOf Is (take i xs ++ x ∷ []) v in
      subst P (sym (take_more xs i d lt))
      (subst Q (sym e) (lines_append (take i xs) (x ∷ []) old line are (one_line x line is)))

-- lines of what a function makes of things
pub lines_map : {A B : Type 0} (Is : B → List ℕ → Type 0) (f : A → B) (xs : List A) (lines : List ℕ)
    → AreLinesOf (λ x. Is (f x)) xs lines → AreLinesOf Is (map f xs) lines
lines_map Is f [] lines same = same
lines_map Is f (x ∷ xs) lines are = (are.0, are.1, are.2, lines_map Is f xs are.1 are.3, are.4)

-- whether there are more than are reported
pub is_more : (file : List ℕ) (limit count : ℕ) (what : List ℕ) → limit < count
    → more_text file limit count what ≡ more_line file limit what
is_more file limit count what lt = grind (arith, nat_tests, lt)

pub no_more : (file : List ℕ) (limit count : ℕ) (what : List ℕ) → count ≤ limit → more_text file limit count what ≡ []
no_more file limit count what le = grind (arith, nat_tests, le)
