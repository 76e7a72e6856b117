-- Where one more signal can start.
use Rattle.std.specs.Prelude.{ℕ, ◌+◌, ◌*◌, ◌≤◌, min, List, [], ◌∷◌, ◌++◌, Option, Some, None, if◌then◌else◌, is_none}
use Rattle.bitlayout.specs.declared.layout.Order.{Order}
use Rattle.bitlayout.specs.declared.place.Mux.{Mux}
use Rattle.bitlayout.specs.declared.place.Place.{Place}
use Rattle.bitlayout.specs.Clash.{first_clash_of}
use Rattle.bitlayout.specs.Clear.{IsClear}
use Rattle.bitlayout.specs.First.{first_answer}
use Rattle.bitlayout.specs.Limits.{start_limit}

-- the place of a signal from a start
abbrev pub place_from : ℕ → Order → Mux → ℕ → Place
place_from size order mux start = record { layout = record { start = start; size = size; order = order }; mux = mux }

-- a signal from this start, added last, leaves the list clear
abbrev pub CanStartAt : List Place → ℕ → ℕ → Order → Mux → ℕ → Type 0
CanStartAt places bytes size order mux start = IsClear (places ++ place_from size order mux start ∷ []) bytes

-- the least start from which the signal leaves the list clear
abbrev pub IsLeastStart : List Place → ℕ → ℕ → Order → Mux → ℕ → Type 0
IsLeastStart places bytes size order mux start =
    CanStartAt places bytes size order mux start
    × ((other : ℕ) → CanStartAt places bytes size order mux other → start ≤ other)

-- there is no start from which the signal leaves the list clear
abbrev pub HasNoStart : List Place → ℕ → ℕ → Order → Mux → Type 0
HasNoStart places bytes size order mux = (start : ℕ) → start ≤ start_limit
    → ¬ (CanStartAt places bytes size order mux start)

-- The same computed.

-- the start, if the list stays clear
abbrev pub start_if_clear : List Place → ℕ → ℕ → Order → Mux → ℕ → Option ℕ
start_if_clear places bytes size order mux start =
    if is_none (first_clash_of (places ++ place_from size order mux start ∷ []) bytes) then Some start else None

-- the least start; past the end of the payload there is none
abbrev pub least_start_of : List Place → ℕ → ℕ → Order → Mux → Option ℕ
least_start_of places bytes size order mux =
    first_answer (start_if_clear places bytes size order mux) (min (8 * bytes) (start_limit + 1))
