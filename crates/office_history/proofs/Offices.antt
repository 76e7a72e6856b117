-- What legal histories leave.
use Rattle.office_history.proofs.Common.{◌≡◌, not, List, [], ◌∷◌, map, filter, All, sym, subst, ◌∙◌, inl, inr, All-cons}
use Rattle.office_history.proofs.Common.{All-filter, All-head, All-nil, All-tail, Reply, Office, TeamCommand, Run}
use Rattle.office_history.proofs.Common.{opening, StepsAgree, offices_are_kept}
use Rattle.std.proofs.lemmas.List.Elements.{All-map}
use Rattle.office_types.specs.Command.{IsCommand}
use Rattle.office_types.specs.PlainName.{IsPlainName}
use Rattle.office_history.specs.History.{Answered, first_arrivals, request_of, same_pair}
use Rattle.office_history.specs.Laws.{HistoriesLeaveOffices, IsInRange}

firsts_in_range : (h : List Answered) → All IsInRange h → All IsInRange (first_arrivals h)
firsts_in_range [] all = All-nil IsInRange
firsts_in_range (a ∷ h) all =
    All-cons IsInRange a (filter (λ b. not (same_pair a b)) (first_arrivals h)) (All-head IsInRange a h all)
    (All-filter (λ b. not (same_pair a b)) IsInRange (first_arrivals h)
    (firsts_in_range h (All-tail IsInRange a h all)))

-- the same requests lead from one office to one office
pub one_run : StepsAgree → (qs : List TeamCommand) (rs ss : List Reply) (o a b : Office) → Run o qs rs a → Run o qs ss b
    → a ≡ b
one_run agree [] [] [] o a b p q = p ∙ sym q
one_run agree [] [] (s ∷ ss) o a b p q = absurd q
one_run agree [] (r ∷ rs) ss o a b p q = absurd p
one_run agree (c ∷ qs) [] ss o a b p q = absurd p
one_run agree (c ∷ qs) (r ∷ rs) [] o a b p q = absurd q
one_run agree (c ∷ qs) (r ∷ rs) (s ∷ ss) o a b p q =
    let same : p.0 ≡ q.0 = elim (agree c.0 o p.0 q.0 c.1 c.2 r s p.1 q.1)
    [ inl both ↦ both.1 | inr unread ↦ unread.0.left ∙ sym unread.1.left ] in
    one_run agree qs rs ss p.0 a b p.2 (subst (λ mid. Run mid qs ss b) (sym same) q.2)

pub histories_leave_offices : StepsAgree → HistoriesLeaveOffices
histories_leave_offices agree = record {
  kept = λ h office all legal. offices_are_kept.run opening office (map request_of (first_arrivals h)) legal.replies
      offices_are_kept.opening_is
      (All-map (λ q. IsPlainName q.1 × IsCommand q.2) request_of (first_arrivals h) (firsts_in_range h all)) legal.run;
  one = λ h g a b same p q. one_run agree (map request_of (first_arrivals g)) p.replies q.replies opening a b
      (subst (λ requests. Run opening requests p.replies a) same p.run) q.run;
}
