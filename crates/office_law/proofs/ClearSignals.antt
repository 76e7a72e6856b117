-- Messages that stay clear where their signals change.
use Rattle.office_law.proofs.Common.{◌≡◌, ℕ, Bool, true, false, ◌&&◌, not, List, [], ◌∷◌, refl, sym, ◌∙◌, arith, filter}
use Rattle.office_law.proofs.Common.{list_any, bytes_eq, false≢true, cond_both, All-nil, list_any-from_Any}
use Rattle.office_law.proofs.Common.{Any-from_list_any, IsClear, IsMultiplexor, is_multiplexor, is_under, Place}
use Rattle.office_law.proofs.Common.{is_multiplexor_decides, place_of, signal_is_multiplexor, places_of, at_signal}
use Rattle.office_law.proofs.Common.{Signal, is_needed}
use Rattle.std.specs.List.{Any}
use Rattle.bitlayout.specs.Bits.{IsInside}
use Rattle.bitlayout.specs.Clear.{CollideAt}
use Rattle.bitlayout.specs.Mux.{IsUnder}
use Rattle.bitlayout.proofs.Presence.{is_under_decides}
use Rattle.office_law.proofs.Places.{All-kept, AllPairs-kept, list_any-map, any_from_kept, any_kept}

-- no signals at all
pub IsClear-none : (bytes : ℕ) → IsClear [] bytes
IsClear-none bytes = record {
  inside = All-nil _;
  one_multiplexor = λ i j d l w. absurd (omega arith);
  multiplexor = λ w. absurd (omega (arith, w.2));
  apart = λ value i j d l w. absurd (omega arith);
}

-- signals that change in other things than their places
pub places-at_signal : (change : Signal → Signal) (name : List ℕ) → ((s : Signal) → place_of (change s) ≡ place_of s)
    → (signals : List Signal)
    → places_of (at_signal change name signals) ≡ places_of signals
places-at_signal change name same [] = refl
places-at_signal change name same (s ∷ signals) =
    let first = cond_both (bytes_eq s.name name) (change s) s (λ (t : Signal). place_of t ≡ place_of s) (λ _. same s)
    (λ _. refl) in
    let later = places-at_signal change name same signals in
    λ i. first i ∷ later i

-- some place hangs on the multiplexor exactly where a signal does
under_there : (signals : List Signal) → Any (λ place. IsUnder place.mux) (places_of signals)
    → list_any (λ s. is_under s.mux) signals ≡ true
under_there signals w =
    sym (list_any-map (λ place. is_under place.mux) place_of signals)
    ∙ list_any-from_Any (λ (place : Place). is_under place.mux) (places_of signals)
    (w.0, w.1, w.2, w.3, (is_under_decides w.1.mux).1 w.4)

switch_there : (signals : List Signal) → Any IsMultiplexor (places_of signals)
    → list_any signal_is_multiplexor signals ≡ true
switch_there signals w =
    sym (list_any-map (λ place. is_multiplexor place.mux) place_of signals)
    ∙ list_any-from_Any (λ (place : Place). is_multiplexor place.mux) (places_of signals)
    (w.0, w.1, w.2, w.3, (is_multiplexor_decides w.1.mux).1 w.4)

switch_back : (signals : List Signal) → list_any signal_is_multiplexor signals ≡ true
    → Any IsMultiplexor (places_of signals)
switch_back signals h =
    let w = Any-from_list_any (λ (place : Place). is_multiplexor place.mux) (places_of signals)
    (list_any-map (λ place. is_multiplexor place.mux) place_of signals ∙ h) in
    (w.0, w.1, w.2, w.3, (is_multiplexor_decides w.1.mux).0 w.4)

-- without a signal that none needs
pub IsClear-removed : (signals : List Signal) (name : List ℕ) (bytes : ℕ) → is_needed signals name ≡ false
    → IsClear (places_of signals) bytes
    → IsClear (places_of (filter (λ s. not (bytes_eq s.name name)) signals)) bytes
IsClear-removed signals name bytes free h =
    let kept : Signal → Bool = λ s. not (bytes_eq s.name name) in
    record {
      inside = All-kept place_of kept (λ place. IsInside place.layout bytes) signals h.inside;
      one_multiplexor = AllPairs-kept place_of kept (λ a b. ¬ (IsMultiplexor a × IsMultiplexor b)) signals
          h.one_multiplexor;
      multiplexor = λ w.
          let under = any_from_kept (λ s. is_under s.mux) kept signals (under_there (filter kept signals) w) in
          let there = switch_there signals (h.multiplexor (under_back signals under)) in
          switch_back (filter kept signals)
          (any_kept signal_is_multiplexor (λ s. bytes_eq s.name name) signals there (unneeded under));
      apart = λ value. AllPairs-kept place_of kept (λ a b. ¬ (CollideAt value a b)) signals (h.apart value);
    }
  where
    under_back : (ss : List Signal) → list_any (λ s. is_under s.mux) ss ≡ true
        → Any (λ place. IsUnder place.mux) (places_of ss)
    under_back ss e =
        let w = Any-from_list_any (λ (place : Place). is_under place.mux) (places_of ss)
        (list_any-map (λ place. is_under place.mux) place_of ss ∙ e) in
        (w.0, w.1, w.2, w.3, (is_under_decides w.1.mux).0 w.4)

    both : (b c : Bool) → (b && c) ≡ false → c ≡ true → b ≡ false
    both false c e t = refl
    both true c e t = absurd (false≢true (sym e ∙ t))

    unneeded : list_any (λ s. is_under s.mux) signals ≡ true
        → list_any (λ s. bytes_eq s.name name && signal_is_multiplexor s) signals ≡ false
    unneeded t = both _ _ free t
