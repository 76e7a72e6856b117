-- Suspect parameter numbers that were used.
use Rattle.std.proofs.Common.{◌≡◌, ◌||◌, Bool, true, false, ℕ, List, [], ◌∷◌, refl, subst, eqb-true}
use Rattle.std.specs.Prelude.{◌==◌}
use Rattle.std.proofs.lemmas.Bool.{and_parts, false≢true}
use Rattle.office_types.specs.Book.{are_spns, is_spn_number}
use Rattle.office_types.specs.Free.{is_taken}

first_or_later : (n m : ℕ) (later : Bool) (here : Bool) → (m == n) ≡ here → (here || later) ≡ true
    → is_spn_number m ≡ true
    → (later ≡ true → is_spn_number n ≡ true) → is_spn_number n ≡ true
first_or_later n m later true e h usable rest = subst (λ k. is_spn_number k ≡ true) (eqb-true m n e) usable
first_or_later n m later false e h usable rest = rest h

-- a number that was used is one that a signal may be given
pub used_is_usable : (n : ℕ) (used : List ℕ) → is_taken n used ≡ true → are_spns used ≡ true → is_spn_number n ≡ true
used_is_usable n [] h k = absurd (false≢true h)
used_is_usable n (m ∷ used) h k =
    let parts = and_parts (is_spn_number m) (are_spns used) k in
    first_or_later n m (is_taken n used) (m == n) refl h parts.0 (λ later. used_is_usable n used later parts.1)
