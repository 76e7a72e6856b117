-- A list with one more place.
use Rattle.bitlayout.proofs.Common.{◌≡◌, ℕ, ◌+◌, ◌<◌, Bool, true, false, List, [], ◌∷◌, ◌++◌, length, get_or, Some}
use Rattle.bitlayout.proofs.Common.{None, refl, sym, ap, subst, ◌∙◌, arith, inl, inr, cases_lt, slice_get}
use Rattle.bitlayout.proofs.Common.{get_or-append, get_or-append_seam, length-append, slice_get-get_or}
use Rattle.std.proofs.Common.{◌||◌}
use Rattle.std.proofs.Math.Seq.{take-append_seam}
use Rattle.std.proofs.lemmas.List.{take-append-le}
use Rattle.std.proofs.lemmas.List.Folds.{list_any-append}
use Rattle.bitlayout.specs.declared.place.Place.{Place}
use Rattle.bitlayout.specs.Bits.{IsInside}
use Rattle.bitlayout.specs.Mux.{is_multiplexor}
use Rattle.bitlayout.specs.Clear.{IsClear}
use Rattle.bitlayout.specs.Clash.{has_multiplexor, clash_after, clash_at, first_clash_among}
use Rattle.bitlayout.proofs.Clearance.{clear_from_none, none_from_clear}
use Rattle.bitlayout.proofs.Faults.{clash_at_place}
use Rattle.bitlayout.proofs.Search.{none_before, none_if_none}

or_swapped : (a b : Bool) → (a || (b || false)) ≡ (b || a)
or_swapped true true = refl
or_swapped true false = refl
or_swapped false true = refl
or_swapped false false = refl

pub has_multiplexor-added : (places : List Place) (place : Place)
    → has_multiplexor (places ++ place ∷ []) ≡ (is_multiplexor place.mux || has_multiplexor places)
has_multiplexor-added places place = list_any-append (λ p. is_multiplexor p.mux) places (place ∷ [])
    ∙ or_swapped (has_multiplexor places) (is_multiplexor place.mux)

length-added : (places : List Place) (place : Place) → length (places ++ place ∷ []) ≡ length places + 1
length-added places place = length-append places (place ∷ [])

-- the earlier places are as before, and the added one comes after them all
clash_at_earlier : (bytes : ℕ) (multiplexed : Bool) (places : List Place) (place : Place) (k : ℕ) → k < length places
    → clash_at bytes multiplexed (places ++ place ∷ []) k ≡ clash_at bytes multiplexed places k
clash_at_earlier bytes multiplexed places place k below =
    let many = length-added places place in
    let there : slice_get (places ++ place ∷ []) k ≡ Some (get_or places k place) =
    slice_get-get_or (places ++ place ∷ []) k place (omega arith)
    ∙ ap Some (get_or-append places (place ∷ []) place k below) in
    clash_at_place bytes multiplexed (places ++ place ∷ []) k (get_or places k place) there
    ∙ ap (λ earlier. clash_after bytes multiplexed earlier (get_or places k place))
    (take-append-le k places (place ∷ []) (omega arith))
    ∙ sym (clash_at_place bytes multiplexed places k (get_or places k place) (slice_get-get_or places k place below))

clash_at_added : (bytes : ℕ) (multiplexed : Bool) (places : List Place) (place : Place)
    → clash_at bytes multiplexed (places ++ place ∷ []) (length places) ≡ clash_after bytes multiplexed places place
clash_at_added bytes multiplexed places place =
    let many = length-added places place in
    let there : slice_get (places ++ place ∷ []) (length places) ≡ Some place =
    slice_get-get_or (places ++ place ∷ []) (length places) place (omega arith)
    ∙ ap Some (get_or-append_seam places place [] place) in
    clash_at_place bytes multiplexed (places ++ place ∷ []) (length places) place there
    ∙ ap (λ earlier. clash_after bytes multiplexed earlier place) (take-append_seam places (place ∷ []))

-- a list with one more place is clear if neither the list nor the added place has a clash
pub clear_added : (places : List Place) (bytes : ℕ) (place : Place) (multiplexed : Bool)
    → multiplexed ≡ has_multiplexor (places ++ place ∷ [])
    → first_clash_among bytes multiplexed places ≡ None → clash_after bytes multiplexed places place ≡ None
    → IsClear (places ++ place ∷ []) bytes
clear_added places bytes place multiplexed is list last =
    let all = places ++ place ∷ [] in
    let many = length-added places place in
    clear_from_none all bytes (subst (λ m. first_clash_among bytes m all ≡ None) is
    (none_if_none (clash_at bytes multiplexed all) (length all) (λ k below. elim (cases_lt k (length places)) [
      | inl earlier ↦ clash_at_earlier bytes multiplexed places place k earlier
          ∙ none_before (clash_at bytes multiplexed places) (length places) list k earlier
      | inr past ↦ let here : length places ≡ k = omega arith in
          subst (λ n. clash_at bytes multiplexed all n ≡ None) here
          (clash_at_added bytes multiplexed places place ∙ last)
    ])))

pub list_from_added : (places : List Place) (bytes : ℕ) (place : Place) (multiplexed : Bool)
    → multiplexed ≡ has_multiplexor (places ++ place ∷ []) → IsClear (places ++ place ∷ []) bytes
    → first_clash_among bytes multiplexed places ≡ None
list_from_added places bytes place multiplexed is clear =
    let all = places ++ place ∷ [] in
    let many = length-added places place in
    let none = subst (λ m. first_clash_among bytes m all ≡ None) (sym is) (none_from_clear all bytes clear) in
    none_if_none (clash_at bytes multiplexed places) (length places) (λ k below.
    let within : k < length all = omega arith in
    sym (clash_at_earlier bytes multiplexed places place k below)
    ∙ none_before (clash_at bytes multiplexed all) (length all) none k within)

pub last_from_added : (places : List Place) (bytes : ℕ) (place : Place) (multiplexed : Bool)
    → multiplexed ≡ has_multiplexor (places ++ place ∷ []) → IsClear (places ++ place ∷ []) bytes
    → clash_after bytes multiplexed places place ≡ None
last_from_added places bytes place multiplexed is clear =
    let all = places ++ place ∷ [] in
    let many = length-added places place in
    let within : length places < length all = omega arith in
    let none = subst (λ m. first_clash_among bytes m all ≡ None) (sym is) (none_from_clear all bytes clear) in
    sym (clash_at_added bytes multiplexed places place) ∙ none_before (clash_at bytes multiplexed all) (length all) none
    (length places) within

pub inside_from_added : (places : List Place) (bytes : ℕ) (place : Place) → IsClear (places ++ place ∷ []) bytes
    → IsInside place.layout bytes
inside_from_added places bytes place clear =
    let many = length-added places place in
    subst (λ p. IsInside p.layout bytes) (get_or-append_seam places place [] place)
    (clear.inside (length places) place (omega arith))
