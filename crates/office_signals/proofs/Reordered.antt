-- The places of a message in another order.
use Rattle.std.proofs.Common.{◌≡◌, ℕ, ◌*◌, ◌+◌, Bool, true, false, ◌&&◌, min, List, [], ◌∷◌, ◌++◌, Some, None, is_some}
use Rattle.std.proofs.Common.{not, refl, sym, ◌∙◌, eqb-true, eq-eqb}
use Rattle.std.specs.Prelude.{Any, if◌then◌else◌}
use Rattle.std.specs.Bool.{Decides}
use Rattle.std.specs.List.{AllPairs, list_any}
use Rattle.std.specs.List.Sorted.{IsPermutation}
use Rattle.std.proofs.lemmas.Bool.{both_ways, false_from_ne_true, true_from_ne_false}
use Rattle.std.proofs.lemmas.Bool.Decides.{Decides-and}
use Rattle.std.proofs.lemmas.List.Folds.{list_any-from_Any, Any-from_list_any}
use Rattle.std.proofs.lemmas.List.Sorted.{All-permutation, IsPermutation-append_left, IsPermutation-sym}
use Rattle.std.proofs.lemmas.List.Sorted.{list_any-IsPermutation}
use Rattle.std.proofs.lemmas.Map.Keys.{IsDistinct-from_apart, IsDistinct-IsPermutation, apart_from_distinct}
use Rattle.bitlayout.specs.Bits.{IsInside, shares_bit}
use Rattle.bitlayout.specs.Clash.{first_clash_of}
use Rattle.bitlayout.specs.Clear.{CollideAt, IsClear, IsMultiplexor}
use Rattle.bitlayout.specs.First.{first_answer}
use Rattle.bitlayout.specs.Mux.{IsPresent, IsUnder, is_multiplexor, is_under, meets}
use Rattle.bitlayout.specs.Start.{least_start_of, place_from}
use Rattle.bitlayout.specs.declared.layout.Order.{Order}
use Rattle.bitlayout.specs.declared.layout.TheConstants.{GREATEST_START}
use Rattle.bitlayout.specs.declared.place.Mux.{Mux}
use Rattle.bitlayout.specs.declared.place.Mux.TheVariants.{Always, Multiplexor, Under}
use Rattle.bitlayout.specs.declared.place.Place.{Place}
use Rattle.bitlayout.proofs.Clearance.{clear_law}
use Rattle.bitlayout.proofs.Faults.{has_multiplexor_decides}
use Rattle.bitlayout.proofs.Presence.{is_multiplexor_decides, is_under_decides}
use Rattle.bitlayout.proofs.Walks.{shares_bit_decides}

same_bool : (a b : Bool) → (a ≡ true → b ≡ true) → (b ≡ true → a ≡ true) → a ≡ b
same_bool true b f g = sym (f refl)
same_bool false true f g = g refl
same_bool false false f g = refl

-- Two places that can't be in one message, as tests.

abbrev two_multiplexors : Place → Place → Bool
two_multiplexors a b = is_multiplexor a.mux && is_multiplexor b.mux

abbrev collide_at : ℕ → Place → Place → Bool
collide_at value a b = meets a.mux (Under value) && (meets b.mux (Under value) && shares_bit a.layout b.layout)

two_decides : (a b : Place) → Decides (two_multiplexors a b) (IsMultiplexor a × IsMultiplexor b)
two_decides a b = Decides-and _ _ (is_multiplexor_decides a.mux) (is_multiplexor_decides b.mux)

present_decides : (mux : Mux) (value : ℕ) → Decides (meets mux (Under value)) (IsPresent mux value)
present_decides Always value = (λ t. tt, λ at. refl)
present_decides Multiplexor value = (λ t. tt, λ at. refl)
present_decides (Under v) value = (eqb-true v value, eq-eqb v value)

collide_decides : (value : ℕ) (a b : Place) → Decides (collide_at value a b) (CollideAt value a b)
collide_decides value a b =
    let all = Decides-and _ _ (present_decides a.mux value)
    (Decides-and _ _ (present_decides b.mux value) (shares_bit_decides a.layout b.layout)) in (
      λ t. let (at_a, (at_b, shared)) = all.0 t in
          (at_a, at_b, shared),
      λ (at_a, at_b, shared). all.1 (at_a, (at_b, shared)),
    )

-- No two places are at odds in any order, where it makes no difference which of the two comes first.
pairs_reordered : (test : Place → Place → Bool) (AtOdds : Place → Place → Type 0)
    → ((a b : Place) → Decides (test a b) (AtOdds a b)) → ((a b : Place) → AtOdds a b → AtOdds b a)
    → (ps qs : List Place) → IsPermutation ps qs → AllPairs (λ a b. ¬ (AtOdds a b)) ps
    → AllPairs (λ a b. ¬ (AtOdds a b)) qs
pairs_reordered test AtOdds decides turned ps qs same apart i j d before below odd =
    let flips = λ (a b : Place). same_bool (test a b) (test b a) (λ t. (decides b a).1 (turned a b ((decides a b).0 t)))
    (λ t. (decides a b).1 (turned b a ((decides b a).0 t))) in
    let distinct = IsDistinct-from_apart test ps
    (λ i j d before below. false_from_ne_true _ (λ t. apart i j d before below ((decides _ _).0 t))) in
    both_ways _ (apart_from_distinct test qs i j d (IsDistinct-IsPermutation test flips ps qs same distinct) before
    below) ((decides _ _).1 odd)

under_decides : (ps : List Place) → Decides (list_any (λ (p : Place). is_under p.mux) ps) (Any (λ p. IsUnder p.mux) ps)
under_decides ps = (
  λ t. let (k, p, below, at, under) = Any-from_list_any (λ (p : Place). is_under p.mux) ps t in
      (k, p, below, at, (is_under_decides p.mux).0 under),
  λ (k, p, below, at, under). list_any-from_Any (λ (p : Place). is_under p.mux) ps
      (k, p, below, at, (is_under_decides p.mux).1 under),
)

module _ (ps qs : List Place) (same : IsPermutation ps qs) where
  under_reordered : Any (λ p. IsUnder p.mux) qs → Any (λ p. IsUnder p.mux) ps
  under_reordered under = (under_decides ps).0 (list_any-IsPermutation (λ (p : Place). is_under p.mux) ps qs same
      ∙ (under_decides qs).1 under)

  multiplexor_reordered : Any IsMultiplexor ps → Any IsMultiplexor qs
  multiplexor_reordered is =
      (has_multiplexor_decides qs).0 (sym (list_any-IsPermutation (λ (p : Place). is_multiplexor p.mux) ps qs same)
      ∙ (has_multiplexor_decides ps).1 is)

  -- clear places are clear in every order
  clear_reordered : (bytes : ℕ) → IsClear ps bytes → IsClear qs bytes
  clear_reordered bytes clear = record {
    inside = All-permutation (λ p. IsInside p.layout bytes) ps qs same clear.inside;
    one_multiplexor = pairs_reordered two_multiplexors (λ a b. IsMultiplexor a × IsMultiplexor b) two_decides
        (λ a b (is_a, is_b). (is_b, is_a)) ps qs same clear.one_multiplexor;
    multiplexor = λ under. multiplexor_reordered (clear.multiplexor (under_reordered under));
    apart = λ value.
        pairs_reordered (collide_at value) (CollideAt value) (collide_decides value)
        (λ a b (at_a, at_b, (q, of_a, of_b)). (at_b, at_a, (q, of_b, of_a))) ps qs same (clear.apart value);
  }

-- so they have a clash in one order where they have one in another
clash_reordered : (ps qs : List Place) (bytes : ℕ) → IsPermutation ps qs
    → is_some (first_clash_of ps bytes) ≡ is_some (first_clash_of qs bytes)
clash_reordered ps qs bytes same =
    let back = IsPermutation-sym ps qs same in
    same_bool _ _
    (λ some. true_from_ne_false _
    (λ none. both_ways _ ((clear_law ps bytes).1 (clear_reordered qs ps back bytes ((clear_law qs bytes).0 none)))
    some))
    (λ some. true_from_ne_false _
    (λ none. both_ways _ ((clear_law qs bytes).1 (clear_reordered ps qs same bytes ((clear_law ps bytes).0 none)))
    some))

module _ (ps qs : List Place) (same : IsPermutation ps qs) (bytes : ℕ) where
  -- with one more place
  pub added_reordered : (p : Place)
      → is_some (first_clash_of (ps ++ p ∷ []) bytes) ≡ is_some (first_clash_of (qs ++ p ∷ []) bytes)
  added_reordered p = clash_reordered (ps ++ p ∷ []) (qs ++ p ∷ []) bytes
      (IsPermutation-append_left (p ∷ []) ps qs same)

  -- and there is room for one more signal from the same start
  pub start_reordered : (size : ℕ) (order : Order) (mux : Mux)
      → least_start_of ps bytes size order mux ≡ least_start_of qs bytes size order mux
  start_reordered size order mux =
      λ i. first_answer (λ start. if not (added_reordered (place_from size order mux start) i) then Some start
      else None) (min (8 * bytes) (GREATEST_START + 1))
