-- Ascending numbers as runs: `1-3,5`.
use Rattle.std.specs.Prelude.{ℕ, ◌+◌, ◌==◌, List, [], ◌∷◌, ◌++◌, codes, decimal, if◌then◌else◌}
use Rattle.std.specs.List.{flat_map}
use Rattle.columns.specs.declared.run.Run.{Run}

-- the number before the runs of those after it: it joins the first of them where that begins one step above it
abbrev pub joined : ℕ → ℕ → List Run → List Run
joined step n [] = record { first = n; last = n } ∷ []
joined step n (r ∷ runs) = if r.first == n + step then record { first = n; last = r.last } ∷ runs
    else record { first = n; last = n } ∷ r ∷ runs

-- the runs of ascending numbers in which neighbours are one step apart
abbrev pub runs_of : ℕ → List ℕ → List Run
runs_of step [] = []
runs_of step (n ∷ numbers) = joined step n (runs_of step numbers)

-- `5`, or `1-3`
abbrev pub run_text : Run → List ℕ
run_text r = if r.first == r.last then decimal r.first else decimal r.first ++ (codes "-" ++ decimal r.last)

-- a comma and the text for each
abbrev pub later_runs : List Run → List ℕ
later_runs runs = flat_map (λ r. codes "," ++ run_text r) runs

-- with commas between; none as `-`
abbrev pub runs_text : List Run → List ℕ
runs_text [] = codes "-"
runs_text (r ∷ runs) = run_text r ++ later_runs runs
