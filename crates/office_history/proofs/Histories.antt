-- How a legal history goes on.
use Rattle.office_history.proofs.Common.{◌≡◌, ℕ, zero, suc, Bool, true, false, cond, not, List, [], ◌∷◌, ◌++◌}
use Rattle.office_history.proofs.Common.{append-nil, map, filter, find, All, Option, Some, None, IfSome, refl, sym, ap}
use Rattle.office_history.proofs.Common.{subst, ◌∙◌, arith, inl, inr, option_or, cases_Bool, false≢true, map-append}
use Rattle.office_history.proofs.Common.{All-nil, filter-append, find-append, bytes_eq-Decides, bytes_eq, Reply, Office}
use Rattle.office_history.proofs.Common.{Run, Step, opening}
use Rattle.std.proofs.Common.{◌<◌, length, get_or}
use Rattle.std.proofs.lemmas.Bool.{and_from}
use Rattle.std.proofs.lemmas.List.Elements.{All-push}
use Rattle.office_rules.proofs.Runs.{run_more}
use Rattle.office_history.specs.declared.arrival.Answer.TheVariants as answer
use Rattle.office_history.specs.declared.arrival.Answer.TheVariants.{KeyReused}
use Rattle.office_history.specs.History.{Answered, IsAnsweredAs, IsLegal, answer_of, first_arrivals, first_of}
use Rattle.office_history.specs.History.{request_of, same_pair}
use Rattle.office_history.specs.Laws.{HistoriesGrow}

-- ---- looking for the first of a list

some_none : {X : Type 0} (x : X) → Some x ≡ None → ⊥
some_none x e = cc

module _ {X : Type 0} (p : X → Bool) where
  -- nothing is found in a list: not its first, nor one of the others
  none_parts : (x : X) (xs : List X) → find p (x ∷ xs) ≡ None → (p x ≡ false) × (find p xs ≡ None)
  none_parts x xs none = elim (cases_Bool (p x)) [
    | inl hit ↦ absurd (some_none x (sym (ap (λ b. cond b (Some x) (find p xs)) hit) ∙ none))
    | inr miss ↦ (miss, sym (ap (λ b. cond b (Some x) (find p xs)) miss) ∙ none)
  ]

  -- something is found where one of the list passes
  found_there : (xs : List X) (k : ℕ) (d : X) → k < length xs → p (get_or xs k d) ≡ true → find p xs ≡ None → ⊥
  found_there [] k d lt hit none = absurd (omega arith)
  found_there (x ∷ xs) zero d lt hit none = false≢true (sym (none_parts x xs none).0 ∙ hit)
  found_there (x ∷ xs) (suc k) d lt hit none = found_there xs k d (omega arith) hit (none_parts x xs none).1

-- ---- the first arrivals

same_bytes : (xs : List ℕ) → bytes_eq xs xs ≡ true
same_bytes xs = (bytes_eq-Decides xs xs).1 refl

same_itself : (a : Answered) → same_pair a a ≡ true
same_itself a = and_from (bytes_eq a.team a.team) (bytes_eq a.key a.key) (same_bytes a.team) (same_bytes a.key)

abbrev pub others : Answered → Answered → Bool
others b c = not (same_pair b c)

-- one of a new pair comes last
pub first_new : (h : List Answered) (a : Answered) → first_of h a ≡ None
    → first_arrivals (h ++ a ∷ []) ≡ first_arrivals h ++ a ∷ []
first_new [] a none = refl
first_new (b ∷ h) a none =
    let parts = none_parts (λ c. same_pair c a) b h none in
    ap (λ rest. b ∷ filter (others b) rest) (first_new h a parts.1)
    ∙ ap (λ rest. b ∷ rest) (filter-append (others b) (first_arrivals h) (a ∷ [])
    ∙ ap (λ same. filter (others b) (first_arrivals h) ++ cond (not same) (a ∷ []) []) parts.0)

-- one of the first's pair is not among the others
dropped : (b a : Answered) (rest : List Answered) → same_pair b a ≡ true
    → filter (others b) (rest ++ a ∷ []) ≡ filter (others b) rest
dropped b a rest hit =
    filter-append (others b) rest (a ∷ []) ∙ ap (λ same. filter (others b) rest ++ cond (not same) (a ∷ []) []) hit
    ∙ append-nil (filter (others b) rest)

dropped_by : (h : List Answered) (b a : Answered) (found : Option Answered) → first_of h a ≡ found
    → same_pair b a ≡ true
    → ((f : Answered) → first_of h a ≡ Some f → first_arrivals (h ++ a ∷ []) ≡ first_arrivals h)
    → filter (others b) (first_arrivals (h ++ a ∷ [])) ≡ filter (others b) (first_arrivals h)
dropped_by h b a None is hit below = ap (filter (others b)) (first_new h a is) ∙ dropped b a (first_arrivals h) hit
dropped_by h b a (Some f) is hit below = ap (filter (others b)) (below f is)

-- one of a pair that came before isn't a first one
pub first_again : (h : List Answered) (a f : Answered) → first_of h a ≡ Some f
    → first_arrivals (h ++ a ∷ []) ≡ first_arrivals h
first_again [] a f found = absurd (some_none f (sym found))
first_again (b ∷ h) a f found = elim (cases_Bool (same_pair b a)) [
  | inl hit ↦ ap (λ rest. b ∷ rest) (dropped_by h b a (first_of h a) refl hit (λ g is. first_again h a g is))
  | inr miss ↦ ap (λ rest. b ∷ filter (others b) rest)
      (first_again h a f (sym (ap (λ same. cond same (Some b) (first_of h a)) miss) ∙ found))
]

-- ---- the answers

kept_by : (found last : Option Answered) (b : Answered) → (found ≡ None → ⊥) → IfSome found (IsAnsweredAs b)
    → IfSome (option_or found last) (IsAnsweredAs b)
kept_by None last b there h = absurd (there refl)
kept_by (Some f) last b there h = h

-- the answers of a history stay right when it goes on
kept_answers : (h : List Answered) (a : Answered) → All (λ b. IfSome (first_of h b) (IsAnsweredAs b)) h
    → All (λ b. IfSome (first_of (h ++ a ∷ []) b) (IsAnsweredAs b)) h
kept_answers h a again k d lt =
    let b = get_or h k d in
    subst (λ o. IfSome o (IsAnsweredAs b)) (sym (find-append (λ c. same_pair c b) h (a ∷ [])))
    (kept_by (first_of h b) (first_of (a ∷ []) b) b (found_there (λ c. same_pair c b) h k d lt (same_itself b))
    (again k d lt))

more_answers : (h : List Answered) (a : Answered) → All (λ b. IfSome (first_of h b) (IsAnsweredAs b)) h
    → IfSome (first_of (h ++ a ∷ []) a) (IsAnsweredAs a)
    → All (λ b. IfSome (first_of (h ++ a ∷ []) b) (IsAnsweredAs b)) (h ++ a ∷ [])
more_answers h a again own =
    All-push (λ b. IfSome (first_of (h ++ a ∷ []) b) (IsAnsweredAs b)) h a (kept_answers h a again) own

-- the first of its pair is itself, and has its own answer
own_first : (h : List Answered) (a : Answered) → first_of h a ≡ None
    → IfSome (first_of (h ++ a ∷ []) a) (IsAnsweredAs a)
own_first h a none =
    let found : first_of (h ++ a ∷ []) a ≡ Some a =
    find-append (λ c. same_pair c a) h (a ∷ []) ∙ ap (λ o. option_or o (first_of (a ∷ []) a)) none
    ∙ ap (λ same. cond same (Some a) None) (same_itself a) in
    subst (λ o. IfSome o (IsAnsweredAs a)) (sym found)
    (sym (ap (λ same. cond same a.answer KeyReused) (same_bytes a.content)))

own_again : (h : List Answered) (a f : Answered) → first_of h a ≡ Some f → IsAnsweredAs a f
    → IfSome (first_of (h ++ a ∷ []) a) (IsAnsweredAs a)
own_again h a f is answered =
    let found : first_of (h ++ a ∷ []) a ≡ Some f = find-append (λ c. same_pair c a) h (a ∷ [])
    ∙ ap (λ o. option_or o (first_of (a ∷ []) a)) is in
    subst (λ o. IfSome o (IsAnsweredAs a)) (sym found) answered

-- ---- legal histories

legal_first : (h : List Answered) (before after : Office) (a : Answered) (reply : Reply) → IsLegal h before
    → first_of h a ≡ None
    → a.answer ≡ answer.Reply reply → Step a.profile before a.team a.command reply after → IsLegal (h ++ a ∷ []) after
legal_first h before after a reply legal none reported step =
    let firsts = first_new h a none in
    record {
      replies = legal.replies ++ reply ∷ [];
      replied = ap (map answer_of) firsts ∙ map-append answer_of (first_arrivals h) (a ∷ [])
          ∙ ap (λ answers. answers ++ a.answer ∷ []) legal.replied
          ∙ ap (λ last. map answer.Reply legal.replies ++ last ∷ []) reported
          ∙ sym (map-append answer.Reply legal.replies (reply ∷ []));
      run = subst (λ requests. Run opening requests (legal.replies ++ reply ∷ []) after)
          (sym (ap (map request_of) firsts ∙ map-append request_of (first_arrivals h) (a ∷ [])))
          (run_more opening before after (map request_of (first_arrivals h)) legal.replies (request_of a) reply
          legal.run step);
      again = more_answers h a legal.again (own_first h a none);
    }

legal_again : (h : List Answered) (office : Office) (a first : Answered) → IsLegal h office → first_of h a ≡ Some first
    → IsAnsweredAs a first → IsLegal (h ++ a ∷ []) office
legal_again h office a first legal is answered =
    let firsts = first_again h a first is in
    record {
      replies = legal.replies;
      replied = ap (map answer_of) firsts ∙ legal.replied;
      run = subst (λ requests. Run opening requests legal.replies office) (sym (ap (map request_of) firsts)) legal.run;
      again = more_answers h a legal.again (own_again h a first is answered);
    }

pub histories_grow : HistoriesGrow
histories_grow = record {
  begins = record {
    replies = [];
    replied = refl;
    run = refl;
    again =
        All-nil (λ a. IfSome (first_of [] a) (IsAnsweredAs a));
  };
  first = legal_first;
  again = legal_again;
}
