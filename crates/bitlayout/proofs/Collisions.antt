-- A place that collides with none of the earlier ones has no partner, and one that collides has a clash.
use Rattle.bitlayout.proofs.Common.{◌≡◌, ℕ, ◌↔◌, Bool, true, false, List, length, take, get_or, Option, Some, None}
use Rattle.bitlayout.proofs.Common.{refl, sym, ap, subst, ◌∙◌, arith, IsTrue, slice_get, position, is_none, is_some}
use Rattle.bitlayout.proofs.Common.{false_from_ne_true, false≢true, take_all, position-Some, slice_get-get_or}
use Rattle.bitlayout.proofs.Common.{get_or_from_slice_get}
use Rattle.bitlayout.specs.declared.clash.Clash.{Clash}
use Rattle.bitlayout.specs.declared.place.Place.{Place}
use Rattle.bitlayout.specs.Mux.{meets}
use Rattle.bitlayout.specs.Bits.{SharesBit}
use Rattle.bitlayout.specs.Clash.{collide, clash_after}
use Rattle.bitlayout.specs.Taken.{Collides}
use Rattle.bitlayout.proofs.Presence.{meets_decides}
use Rattle.bitlayout.proofs.Faults.{at_position, collide_decides, fits_from_none, no_position}

-- one of the places collides, by the test
pub collides_tested : (a b : Place) → collide a b ≡ true → (meets a.mux b.mux ≡ true) × SharesBit a.layout b.layout
collides_tested a b t = let (meet, share) = (collide_decides a b).0 t in ((meets_decides a.mux b.mux).1 meet, share)

pub tested_collides : (a b : Place) → (meets a.mux b.mux ≡ true) × SharesBit a.layout b.layout → collide a b ≡ true
tested_collides a b (meet, share) = (collide_decides a b).1 ((meets_decides a.mux b.mux).0 meet, share)

pub no_partner : (places : List Place) (place : Place) → (Collides places place.mux place.layout → ⊥)
    → position (λ other. collide other place) places ≡ None
no_partner places place none =
    no_position (λ other. collide other place) places (position (λ other. collide other place) places) refl place
    (λ k below.
    let other = get_or places k place in
    let at : get_or places k other ≡ other =
    get_or_from_slice_get places k other other (slice_get-get_or places k place below) in
    false_from_ne_true _ (λ t. none (k, other, below, at, collides_tested other place t)))

-- a place that collides has a clash
pub clash_from_collision : (bytes : ℕ) (multiplexed : Bool) (places : List Place) (place : Place)
    → Collides places place.mux place.layout → is_none (clash_after bytes multiplexed places place) ≡ false
clash_from_collision bytes multiplexed places place (k, other, below, at, (meet, share)) =
    by_answer (clash_after bytes multiplexed places place) refl
  where
    by_answer : (o : Option Clash) → clash_after bytes multiplexed places place ≡ o → is_none o ≡ false
    by_answer (Some clash) e = refl
    by_answer None e =
        let all : take (length places) places ≡ places = take_all (length places) places (omega arith) in
        let fits = fits_from_none places bytes multiplexed (length places) place (omega arith)
        (subst (λ earlier. clash_after bytes multiplexed earlier place ≡ None) (sym all) e) in
        let there : slice_get places k ≡ Some other = slice_get-get_or places k other below ∙ ap Some at in
        absurd (fits.apart k other below there ((meets_decides other.mux place.mux).0 meet, share))

pub none_from_test : {A : Type 0} (o : Option A) → is_none o ≡ true → o ≡ None
none_from_test None t = refl
none_from_test (Some a) t = absurd (false≢true t)

pub test_from_none : {A : Type 0} (o : Option A) → is_none o ≡ false → o ≡ None → ⊥
test_from_none None t e = false≢true (sym t)
test_from_none (Some a) t e = cc

pub some_partner : (places : List Place) (place : Place) → is_some (position (λ other. collide other place) places)
    ≡ true → Collides places place.mux place.layout
some_partner places place t = by_index (position (λ other. collide other place) places) refl
  where
    by_index : (o : Option ℕ) → position (λ other. collide other place) places ≡ o
        → Collides places place.mux place.layout
    by_index None e = absurd (false≢true (sym (ap is_some e) ∙ t))
    by_index (Some k) e =
        let (below, passes, before) = position-Some (λ other. collide other place) places k place e in
        let other = get_or places k place in
        let at : get_or places k other ≡ other =
        get_or_from_slice_get places k other other (slice_get-get_or places k place below) in
        (k, other, below, at, collides_tested other place passes)

pub partner_tested : (places : List Place) (place : Place) (o : Option ℕ)
    → o ≡ position (λ other. collide other place) places → IsTrue (is_some o) ↔ Collides places place.mux place.layout
partner_tested places place o is = (
  λ t. some_partner places place (sym (ap is_some is) ∙ t),
  λ some. by_answer o refl some,
)
  where
    by_answer : (p : Option ℕ) → o ≡ p → Collides places place.mux place.layout → is_some o ≡ true
    by_answer (Some k) e some = ap is_some e
    by_answer None e (k, other, below, at, both) =
        let fails = at_position (λ other. collide other place) places (sym is ∙ e) k other below in
        absurd (false≢true (sym fails ∙ ap (λ p. collide p place) at ∙ tested_collides other place both))
