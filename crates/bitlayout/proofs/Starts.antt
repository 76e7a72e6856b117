-- The search for a start.
use Rattle.bitlayout.proofs.Common.{◌≡◌, ℕ, ◌+◌, ◌*◌, ◌<◌, ◌≤◌, List, [], ◌∷◌, ◌++◌, Option, Some, None, refl, sym, ap}
use Rattle.bitlayout.proofs.Common.{arith, IfSome, is_none, if◌then◌else◌}
use Rattle.std.proofs.Common.{min}
use Rattle.std.specs.Prelude.{IfNone}
use Rattle.bitlayout.specs.declared.layout.Order.{Order}
use Rattle.bitlayout.specs.declared.place.Mux.{Mux}
use Rattle.bitlayout.specs.declared.place.Place.{Place}
use Rattle.bitlayout.specs.declared.clash.Clash.{Clash}
use Rattle.bitlayout.specs.Clash.{first_clash_of}
use Rattle.bitlayout.specs.Limits.{start_limit}
use Rattle.bitlayout.specs.Start.{place_from, CanStartAt, HasNoStart, IsLeastStart, start_if_clear, least_start_of}
use Rattle.bitlayout.proofs.Adding.{inside_from_added}
use Rattle.bitlayout.proofs.Clearance.{clear_from_none, none_from_clear}
use Rattle.bitlayout.proofs.Search.{first_at, none_if_none}
use Rattle.bitlayout.proofs.Walks.{bit_from_within, end_from_inside}

-- a signal fits and starts in the payload
pub fits_payload : (places : List Place) (bytes size : ℕ) (order : Order) (mux : Mux) (start : ℕ) → 0 < size
    → CanStartAt places bytes size order mux start → size ≤ 8 * bytes
fits_payload places bytes size order mux start some can =
    let end = end_from_inside (place_from size order mux start).layout bytes some
    (inside_from_added places bytes (place_from size order mux start) can) in
    omega arith

pub starts_in_payload : (places : List Place) (bytes size : ℕ) (order : Order) (mux : Mux) (start : ℕ) → 0 < size
    → CanStartAt places bytes size order mux start → start < 8 * bytes
starts_in_payload places bytes size order mux start some can =
    inside_from_added places bytes (place_from size order mux start) can start
    (bit_from_within (place_from size order mux start).layout start (omega arith) (omega arith))

start_if_can : (places : List Place) (bytes size : ℕ) (order : Order) (mux : Mux) (start : ℕ)
    → CanStartAt places bytes size order mux start → start_if_clear places bytes size order mux start ≡ Some start
start_if_can places bytes size order mux start can =
    ap (λ (o : Option Clash). if is_none o then Some start else None)
    (none_from_clear (places ++ place_from size order mux start ∷ []) bytes can)

none_if_cannot : (places : List Place) (bytes size : ℕ) (order : Order) (mux : Mux) (start : ℕ)
    → (CanStartAt places bytes size order mux start → ⊥) → start_if_clear places bytes size order mux start ≡ None
none_if_cannot places bytes size order mux start cannot =
    by_clash (first_clash_of (places ++ place_from size order mux start ∷ []) bytes) refl
  where
    by_clash : (o : Option Clash) → first_clash_of (places ++ place_from size order mux start ∷ []) bytes ≡ o
        → start_if_clear places bytes size order mux start ≡ None
    by_clash None e = absurd (cannot (clear_from_none (places ++ place_from size order mux start ∷ []) bytes e))
    by_clash (Some clash) e = ap (λ (o : Option Clash). if is_none o then Some start else None) e

-- the answer that the clauses describe is the one that is computed
pub least_start_is : (places : List Place) (bytes size : ℕ) (order : Order) (mux : Mux) (answer : Option ℕ)
    → IfSome answer (IsLeastStart places bytes size order mux) → IfNone answer (HasNoStart places bytes size order mux)
    → IfSome answer (λ start. start < min (8 * bytes) (start_limit + 1))
    → answer ≡ least_start_of places bytes size order mux
least_start_is places bytes size order mux None least none payload =
    sym (none_if_none (start_if_clear places bytes size order mux) (min (8 * bytes) (start_limit + 1))
    (λ k below. none_if_cannot places bytes size order mux k (none k (omega arith))))
least_start_is places bytes size order mux (Some start) (can, least) none payload =
    sym (first_at (start_if_clear places bytes size order mux) (min (8 * bytes) (start_limit + 1)) start start payload
    (start_if_can places bytes size order mux start can)
    (λ k below. none_if_cannot places bytes size order mux k (λ other. let above : start ≤ k = least k other in
    absurd (omega arith))))
