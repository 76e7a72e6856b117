-- The last of a list, which is the first of it reversed.
use Rattle.std.proofs.Common.{◌≡◌, ◌+◌, ◌<◌, ◌++◌, ℕ, List, [], ◌∷◌, length, take, set, get_or, reverse, sym, ap, ◌∙◌}
use Rattle.std.proofs.Common.{arith, get_or-set_same, length-set}
use Rattle.std.proofs.Math.Seq.{take-length}
use Rattle.std.proofs.lemmas.List.{reverse-append, take_more, take-set}
use Rattle.columns.specs.Run.{joined}
use Rattle.columns.specs.declared.run.Run.{Run}

last_first : (runs : List Run) (i : ℕ) (d : Run) → i + 1 ≡ length runs
    → reverse runs ≡ get_or runs i d ∷ reverse (take i runs)
last_first runs i d last =
    let below : i < length runs = omega arith in
    let whole : runs ≡ take i runs ++ get_or runs i d ∷ [] =
    sym (take-length runs) ∙ ap (λ k. take k runs) (sym last) ∙ take_more runs i d below in
    ap reverse whole ∙ reverse-append (take i runs) (get_or runs i d ∷ [])

last_set : (runs : List Run) (i : ℕ) (r : Run) → i + 1 ≡ length runs
    → reverse (set runs i r) ≡ r ∷ reverse (take i runs)
last_set runs i r last =
    let below : i < length runs = omega arith in
    let lasts : i + 1 ≡ length (set runs i r) = omega (arith, length-set {A = Run}) in
    last_first (set runs i r) i r lasts
    ∙ ap (λ x. x ∷ reverse (take i (set runs i r))) (get_or-set_same runs i r r below)
    ∙ ap (λ v. r ∷ reverse v) (take-set runs i r)

-- the last run begins one step above the number, and so the number joins it
pub joins_last : (runs : List Run) (i step n : ℕ) (r : Run) → i + 1 ≡ length runs → r ≡ get_or runs i r
    → r.first ≡ n + step
    → reverse (set runs i (record { first = n; last = r.last })) ≡ joined step n (reverse runs)
joins_last runs i step n r last is above =
    last_set runs i (record { first = n; last = r.last }) last
    ∙ (rw (last_first runs i r last) (rw (← is) (grind (arith, above))))
