-- Runs of bytes that pass a test.
use Rattle.dbc_grammar.proofs.Common.{◌≡◌, ◌+◌, ◌≤◌, ℕ, suc, Bool, true, false, cond, List, [], ◌∷◌, ◌++◌, length, drop}
use Rattle.dbc_grammar.proofs.Common.{refl, arith, prefix_len, list_all, and_parts, Stops}

-- bytes that pass the test, before any others
pub prefix_le : (p : ℕ → Bool) (ds more : List ℕ) → list_all p ds ≡ true → length ds ≤ prefix_len p (ds ++ more)
prefix_le p [] more h = omega arith
prefix_le p (d ∷ ds) more h =
    let a = and_parts (p d) (list_all p ds) h in
    rw a.0 (omega (arith, prefix_le p ds more a.1))

prefix_stops_at : (p : ℕ → Bool) (b : ℕ) (bytes : List ℕ) (passes : Bool) → p b ≡ passes
    → Stops p (drop (prefix_len p bytes) bytes)
    → Stops p (drop (cond passes (1 + prefix_len p bytes) 0) (b ∷ bytes))
prefix_stops_at p b bytes true e h =
    let next : 1 + prefix_len p bytes ≡ suc (prefix_len p bytes) = omega arith in
    rw next h
prefix_stops_at p b bytes false e h = e

-- after the longest run
pub prefix_stops : (p : ℕ → Bool) (bytes : List ℕ) → Stops p (drop (prefix_len p bytes) bytes)
prefix_stops p [] = tt
prefix_stops p (b ∷ bytes) = prefix_stops_at p b bytes (p b) refl (prefix_stops p bytes)
