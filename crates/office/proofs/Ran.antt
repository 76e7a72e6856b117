-- A list of arrivals, and one more.
use Rattle.office.proofs.Common.{◌≡◌, ℕ, ◌+◌, ◌<◌, List, [], ◌∷◌, ◌++◌, length, take, get_or, refl, sym, ap, subst, ◌∙◌}
use Rattle.office.proofs.Common.{arith, append_assoc, take_more, Answer, Answered}
use Rattle.std.proofs.Common.{append-nil, length-append}
use Rattle.office_history.specs.declared.arrival.Arrival.{Arrival}
use Rattle.office_history.specs.Answering.{reported}
use Rattle.office.specs.Keyed.{HoldsHistory, Keyed}
use Rattle.office.specs.Running.{HasAnswered, reported_each}

reported_more : (xs : List Arrival) (rs : List Answer) (a : Arrival) (answer : Answer) → length rs ≡ length xs
    → reported_each (xs ++ a ∷ []) (rs ++ answer ∷ []) ≡ reported_each xs rs ++ reported a answer ∷ []
reported_more [] [] a answer each = refl
reported_more [] (r ∷ rs) a answer each = absurd (omega (arith, each))
reported_more (x ∷ xs) [] a answer each = absurd (omega (arith, each))
reported_more (x ∷ xs) (r ∷ rs) a answer each =
    ap (◌∷◌ (reported x r)) (reported_more xs rs a answer (omega (arith, each)))

-- no arrival leaves all as it is
pub run_none : (o : Keyed) (earlier : List Answer) → HasAnswered o [] earlier earlier o
run_none o earlier = record {
  new = [];
  added = sym (append-nil earlier);
  each = refl;
  held = λ h holds. subst (λ l. HoldsHistory l o) (sym (append-nil h)) holds;
}

pub run_more : (a b c : Keyed) (arrivals : List Arrival) (i : ℕ) (x : Arrival) (earlier before after : List Answer)
    (r : Answer)
    → i < length arrivals → x ≡ get_or arrivals i x → HasAnswered a (take i arrivals) earlier before b
    → ((h : List Answered) → HoldsHistory h b → HoldsHistory (h ++ reported x r ∷ []) c)
    → after ≡ before ++ r ∷ [] → HasAnswered a (take (i + 1) arrivals) earlier after c
run_more a b c arrivals i x earlier before after r within is ran next more =
    let begun : take i arrivals ++ x ∷ [] ≡ take (i + 1) arrivals = ap (λ (v : Arrival). take i arrivals ++ v ∷ []) is
    ∙ sym (take_more arrivals i x within) in
    record {
      new = ran.new ++ r ∷ [];
      added = more ∙ ap (λ (l : List Answer). l ++ r ∷ []) ran.added ∙ append_assoc earlier ran.new (r ∷ []);
      each =
          let long = length-append ran.new (r ∷ []) in
          let longer = length-append (take i arrivals) (x ∷ []) in
          let same = ap (λ (l : List Arrival). length l) begun in
          let each = ran.each in
          omega (arith, long, longer, same, each);
      held = λ h holds.
          let line : (h ++ reported_each (take i arrivals) ran.new) ++ reported x r ∷ [] ≡ h
          ++ reported_each (take (i + 1) arrivals) (ran.new ++ r ∷ []) =
          append_assoc h (reported_each (take i arrivals) ran.new) (reported x r ∷ [])
          ∙ ap (λ l. h ++ l) (sym (reported_more (take i arrivals) ran.new x r ran.each)
          ∙ ap (λ (l : List Arrival). reported_each l (ran.new ++ r ∷ [])) begun) in
          subst (λ l. HoldsHistory l c) line (next (h ++ reported_each (take i arrivals) ran.new) (ran.held h holds));
    }
