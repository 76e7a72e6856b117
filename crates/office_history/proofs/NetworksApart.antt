-- What an arrival is answered depends on the arrivals on its network alone.
use Rattle.office_history.proofs.Common.{◌≡◌, ◌∙◌, ℕ, zero, suc, Bool, true, false, cond, not, List, [], ◌∷◌, ◌++◌, map}
use Rattle.office_history.proofs.Common.{filter, find, All, Option, Some, None, IfSome, refl, sym, ap, subst, arith}
use Rattle.office_history.proofs.Common.{inl, inr, AllPairs, if◌then◌else◌, option_or, bytes_eq, cases_Bool, false≢true}
use Rattle.office_history.proofs.Common.{All-cons, All-filter, All-head, All-nil, All-tail, All-weaker, find-append}
use Rattle.office_history.proofs.Common.{AllPairs-cons, bytes_eq-Decides, Command, Reply, Done, Office, outcome}
use Rattle.office_history.proofs.Common.{reply_of, Profile, IsRead, Run, Step, file_wanted, net_named, office_after}
use Rattle.office_history.proofs.Common.{opening, step_outcome, needs_book, offices_are_kept}
use Rattle.dbc_grammar.specs.Reads.{ReadsAsOneAtMost}
use Rattle.office_law.specs.Histories.{history}
use Rattle.office_law.proofs.ApartBook.{task_alike}
use Rattle.office_law.proofs.HistoriesApart.{one_history_one_network}
use Rattle.office_history.specs.declared.arrival.Answer.{Answer}
use Rattle.office_history.specs.declared.arrival.Answer.TheVariants as answer
use Rattle.office_history.specs.declared.arrival.Answer.TheVariants.{KeyReused}
use Rattle.office_history.specs.History.{Answered, IsAnsweredAs, IsLegal, IsLegalHistory, answer_of, first_arrivals}
use Rattle.office_history.specs.History.{first_of, request_of, same_pair}
use Rattle.office_history.specs.Laws.{AnswersAreApart, HaveOneNetwork, NamesOneNetwork, is_on}
use Rattle.office_history.proofs.Histories.{first_new, histories_grow, others}

-- ---- pairs of a list that ends with one more

module _ {X : Type 0} (P : X → Type 0) where
  all_last : (xs : List X) (y : X) → All P (xs ++ y ∷ []) → P y
  all_last [] y h = All-head P y [] h
  all_last (x ∷ xs) y h = all_last xs y (All-tail P x (xs ++ y ∷ []) h)

  all_before : (xs : List X) (y : X) → All P (xs ++ y ∷ []) → All P xs
  all_before [] y h = All-nil P
  all_before (x ∷ xs) y h =
      All-cons P x xs (All-head P x (xs ++ y ∷ []) h) (all_before xs y (All-tail P x (xs ++ y ∷ []) h))

module _ {X : Type 0} (R : X → X → Type 0) where
  pairs_head : (x : X) (xs : List X) → AllPairs R (x ∷ xs) → All (R x) xs
  pairs_head x xs h = λ k d lt. h zero (suc k) d (omega arith) (omega arith)

  pairs_tail : (x : X) (xs : List X) → AllPairs R (x ∷ xs) → AllPairs R xs
  pairs_tail x xs h = λ i j d lt within. h (suc i) (suc j) d (omega arith) (omega arith)

  pairs_before : (xs : List X) (y : X) → AllPairs R (xs ++ y ∷ []) → AllPairs R xs
  pairs_before [] y h = λ i j d lt within. absurd (omega (arith, within))
  pairs_before (x ∷ xs) y h =
      AllPairs-cons R x xs (all_before (R x) xs y (pairs_head x (xs ++ y ∷ []) h))
      (pairs_before xs y (pairs_tail x (xs ++ y ∷ []) h))

  pairs_last : (xs : List X) (y : X) → AllPairs R (xs ++ y ∷ []) → All (λ x. R x y) xs
  pairs_last [] y h = All-nil (λ x. R x y)
  pairs_last (x ∷ xs) y h =
      All-cons (λ z. R z y) x xs (all_last (R x) xs y (pairs_head x (xs ++ y ∷ []) h))
      (pairs_last xs y (pairs_tail x (xs ++ y ∷ []) h))

-- ---- two tests of a list

filter_by : {X : Type 0} (p : X → Bool) (x : X) (xs : List X) (t : Bool) → p x ≡ t
    → filter p (x ∷ xs) ≡ cond t (x ∷ filter p xs) (filter p xs)
filter_by p x xs t is = ap (λ b. cond b (x ∷ filter p xs) (filter p xs)) is

module _ {X : Type 0} (p q : X → Bool) where
  -- they may be made in either order
  filters_swap : (xs : List X) → filter p (filter q xs) ≡ filter q (filter p xs)
  filters_swap [] = refl
  filters_swap (x ∷ xs) = elim (cases_Bool (p x)) [
    | inl hit ↦ elim (cases_Bool (q x)) [
      | inl too ↦
          ap (filter p) (filter_by q x xs true too) ∙ filter_by p x (filter q xs) true hit
          ∙ ap (λ l. x ∷ l) (filters_swap xs)
          ∙ sym (filter_by q x (filter p xs) true too) ∙ sym (ap (filter q) (filter_by p x xs true hit))
      | inr miss ↦
          ap (filter p) (filter_by q x xs false miss) ∙ filters_swap xs
          ∙ sym (filter_by q x (filter p xs) false miss) ∙ sym (ap (filter q) (filter_by p x xs true hit))
    ]
    | inr miss ↦ elim (cases_Bool (q x)) [
      | inl hit ↦
          ap (filter p) (filter_by q x xs true hit) ∙ filter_by p x (filter q xs) false miss ∙ filters_swap xs
          ∙ sym (ap (filter q) (filter_by p x xs false miss))
      | inr too ↦ ap (filter p) (filter_by q x xs false too) ∙ filters_swap xs
          ∙ sym (ap (filter q) (filter_by p x xs false miss))
    ]
  ]

  -- what passes the first passes the second
  abbrev Implies : X → Type 0
  Implies x = p x ≡ true → q x ≡ true

  misses : (x : X) → Implies x → q x ≡ false → p x ≡ false
  misses x implied miss = elim (cases_Bool (p x))
      [ inl hit ↦ absurd (false≢true (sym miss ∙ implied hit)) | inr not_so ↦ not_so ]

  filter_kept : (xs : List X) → All Implies xs → filter p (filter q xs) ≡ filter p xs
  filter_kept [] all = refl
  filter_kept (x ∷ xs) all = elim (cases_Bool (q x)) [
    | inl hit ↦ ap (filter p) (filter_by q x xs true hit)
        ∙ ap (λ l. cond (p x) (x ∷ l) l) (filter_kept xs (All-tail Implies x xs all))
    | inr miss ↦
        ap (filter p) (filter_by q x xs false miss) ∙ filter_kept xs (All-tail Implies x xs all)
        ∙ sym (filter_by p x xs false (misses x (All-head Implies x xs all) miss))
  ]

  find_kept : (xs : List X) → All Implies xs → find p (filter q xs) ≡ find p xs
  find_kept [] all = refl
  find_kept (x ∷ xs) all = elim (cases_Bool (q x)) [
    | inl hit ↦ ap (find p) (filter_by q x xs true hit)
        ∙ ap (λ found. cond (p x) (Some x) found) (find_kept xs (All-tail Implies x xs all))
    | inr miss ↦
        ap (find p) (filter_by q x xs false miss) ∙ find_kept xs (All-tail Implies x xs all)
        ∙ sym (ap (λ t. cond t (Some x) (find p xs)) (misses x (All-head Implies x xs all) miss))
  ]

-- ---- the first arrivals on a network

firsts_all : (P : Answered → Type 0) (h : List Answered) → All P h → All P (first_arrivals h)
firsts_all P [] all = All-nil P
firsts_all P (a ∷ h) all =
    All-cons P a (filter (others a) (first_arrivals h)) (All-head P a h all)
    (All-filter (others a) P (first_arrivals h) (firsts_all P h (All-tail P a h all)))

module _ (name : List ℕ) where
  -- one of a pair that names another network isn't on this one
  is_other : (b c : Answered) → is_on name b ≡ false → NamesOneNetwork b c → is_on name c ≡ true → others b c ≡ true
  is_other b c off one on = elim (cases_Bool (same_pair b c)) [
    | inl same ↦ absurd (false≢true (sym off ∙ ap (λ net. bytes_eq net name) (one same) ∙ on))
    | inr apart ↦ ap not apart
  ]

  firsts_on : (h : List Answered) → HaveOneNetwork h
      → filter (is_on name) (first_arrivals h) ≡ first_arrivals (filter (is_on name) h)
  firsts_on [] one = refl
  firsts_on (b ∷ h) one =
      let below = firsts_on h (pairs_tail NamesOneNetwork b h one) in
      elim (cases_Bool (is_on name b)) [
        | inl on ↦
            filter_by (is_on name) b (filter (others b) (first_arrivals h)) true on
            ∙ ap (λ l. b ∷ l) (filters_swap (is_on name) (others b) (first_arrivals h) ∙ ap (filter (others b)) below)
            ∙ sym (ap first_arrivals (filter_by (is_on name) b h true on))
        | inr off ↦
            filter_by (is_on name) b (filter (others b) (first_arrivals h)) false off
            ∙ filter_kept (is_on name) (others b) (first_arrivals h)
            (All-weaker (NamesOneNetwork b) (Implies (is_on name) (others b)) (λ c one_net. is_other b c off one_net)
            (first_arrivals h)
            (firsts_all (NamesOneNetwork b) h (pairs_head NamesOneNetwork b h one)))
            ∙ below
            ∙ sym (ap first_arrivals (filter_by (is_on name) b h false off))
      ]

  -- ---- and what they were answered

  abbrev reply_in : Answer → Reply
  reply_in (answer.Reply r) = r
  reply_in KeyReused = Done

  abbrev entry : Answered → Profile × List ℕ × Command × Reply
  entry a = (a.profile, a.team, a.command, reply_in a.answer)

  first_answer : (a : Answered) (list : List Answered) (r : Reply) (rs : List Reply)
      → map answer_of (a ∷ list) ≡ map answer.Reply (r ∷ rs) → a.answer ≡ answer.Reply r
  first_answer a list r rs e = cc

  later_answers : (a : Answered) (list : List Answered) (r : Reply) (rs : List Reply)
      → map answer_of (a ∷ list) ≡ map answer.Reply (r ∷ rs)
      → map answer_of list ≡ map answer.Reply rs
  later_answers a list r rs e = cc

  history_is : (list : List Answered) (rs : List Reply) → map answer_of list ≡ map answer.Reply rs
      → history name (map request_of list) rs ≡ map entry (filter (is_on name) list)
  history_is [] rs reported = refl
  history_is (a ∷ list) [] reported = absurd cc
  history_is (a ∷ list) (r ∷ rs) reported =
      let rest = history name (map request_of list) rs in
      let below : rest ≡ map entry (filter (is_on name) list) =
      history_is list rs (later_answers a list r rs reported) in
      elim (cases_Bool (is_on name a)) [
        | inl on ↦
            ap (λ t. if t then (a.profile, a.team, a.command, r) ∷ rest else rest) on
            ∙ ap (λ s. (a.profile, a.team, a.command, reply_in s) ∷ rest) (sym (first_answer a list r rs reported))
            ∙ ap (λ l. entry a ∷ l) below
            ∙ sym (ap (map entry) (filter_by (is_on name) a list true on))
        | inr off ↦
            ap (λ t. if t then (a.profile, a.team, a.command, r) ∷ rest else rest) off
            ∙ below
            ∙ sym (ap (map entry) (filter_by (is_on name) a list false off))
      ]

-- what was answered in order, and a run that answers so
record AreAnswered (list : List Answered) (office : Office) : Type 0 where
  replies : List Reply
  replied : map answer_of list ≡ map answer.Reply replies
  run : Run opening (map request_of list) replies office

one_network : ReadsAsOneAtMost → (name : List ℕ) (h g : List Answered) (o p : Office) → HaveOneNetwork h
    → HaveOneNetwork g
    → filter (is_on name) h ≡ filter (is_on name) g → AreAnswered (first_arrivals h) o
    → AreAnswered (first_arrivals g) p → net_named o name ≡ net_named p name
one_network once name h g o p one_h one_g same answered_h answered_g =
    one_history_one_network once name opening opening o p (map request_of (first_arrivals h))
    (map request_of (first_arrivals g)) answered_h.replies answered_g.replies
    offices_are_kept.opening_is.rising offices_are_kept.opening_is.rising answered_h.run answered_g.run refl
    (history_is name (first_arrivals h) answered_h.replies answered_h.replied
    ∙ ap (map (entry name)) (firsts_on name h one_h ∙ ap first_arrivals same ∙ sym (firsts_on name g one_g))
    ∙ sym (history_is name (first_arrivals g) answered_g.replies answered_g.replied))

-- ---- the last arrival

-- the last one is answered by a step, after a run that answers the others
record Ends (o : Office) (list : List Answered) (a : Answered) (after : Office) : Type 0 where
  mid : Office
  reported : List Reply
  reply : Reply
  replied : map answer_of list ≡ map answer.Reply reported
  run : Run o (map request_of list) reported mid
  answered : a.answer ≡ answer.Reply reply
  step : Step a.profile mid a.team a.command reply after

only_answer : (a : Answered) (r : Reply) → map answer_of (a ∷ []) ≡ map answer.Reply (r ∷ [])
    → a.answer ≡ answer.Reply r
only_answer a r e = cc

ends : (list : List Answered) (a : Answered) (rs : List Reply) (o after : Office)
    → map answer_of (list ++ a ∷ []) ≡ map answer.Reply rs
    → Run o (map request_of (list ++ a ∷ [])) rs after → Ends o list a after
ends [] a [] o after reported run = absurd run
ends [] a (r ∷ []) o after reported run = record {
  mid = o;
  reported = [];
  reply = r;
  replied = refl;
  run = refl;
  answered = only_answer a r reported;
  step = subst (Step a.profile o a.team a.command r) (sym run.2) run.1;
}
ends [] a (r ∷ s ∷ rs) o after reported run = absurd run.2
ends (b ∷ list) a [] o after reported run = absurd run
ends (b ∷ list) a (r ∷ rs) o after reported run =
    let below = ends list a rs run.0 after (later_answers [] b (list ++ a ∷ []) r rs reported) run.2 in
    record {
      mid = below.mid;
      reported = r ∷ below.reported;
      reply = below.reply;
      replied = ap (λ x. x ∷ map answer_of list) (first_answer [] b (list ++ a ∷ []) r rs reported)
          ∙ ap (λ l. answer.Reply r ∷ l) below.replied;
      run = (run.0, run.1, below.run);
      answered = below.answered;
      step = below.step;
    }

-- a step in an office with the same network, where the book isn't read
module _ (profile : Profile) (o p after : Office) (team : List ℕ) (c : Command) (r : Reply)
    (unrequested : needs_book c.task ≡ false) (same : net_named o c.net ≡ net_named p c.net)
    (step : Step profile o team c r after) where
  abbrev left_there : Office
  left_there = office_after p (step_outcome p team step.reading c)

  step_there : Step profile p team c r left_there
  step_there = record {
    reading = step.reading;
    read = subst (λ n. IsRead profile (file_wanted n c.task) step.reading) same step.read;
    answered = step.answered
        ∙ ap reply_of (task_alike team c.net step.reading (net_named o c.net) o.book p.book c.task unrequested
        ∙ ap (λ n. outcome team step.reading n p.book c) same);
    left = refl;
  }

-- ---- the law

module _ (once : ReadsAsOneAtMost) (h g : List Answered) (a : Answered)
    (unrequested : needs_book a.command.task ≡ false) (one_h : HaveOneNetwork (h ++ a ∷ []))
    (one_g : HaveOneNetwork (g ++ a ∷ [])) (same : filter (is_on a.command.net) h ≡ filter (is_on a.command.net) g)
    (office p : Office) (legal : IsLegal (h ++ a ∷ []) office) (other : IsLegal g p) where
  abbrev name : List ℕ
  name = a.command.net

  abbrev of_pair : Answered → Bool
  of_pair b = same_pair b a

  -- all of its pair are on its network
  pair_on : (list : List Answered) → HaveOneNetwork (list ++ a ∷ []) → All (Implies of_pair (is_on name)) list
  pair_on list one =
      All-weaker (λ b. NamesOneNetwork b a) (Implies of_pair (is_on name))
      (λ b net_is pair. (bytes_eq-Decides b.command.net name).1 (net_is pair)) list
      (pairs_last NamesOneNetwork list a one)

  one_first : first_of g a ≡ first_of h a
  one_first =
      sym (find_kept of_pair (is_on name) g (pair_on g one_g)) ∙ ap (find of_pair) (sym same)
      ∙ find_kept of_pair (is_on name) h (pair_on h one_h)

  first_one : first_of h a ≡ None → IsLegalHistory (g ++ a ∷ [])
  first_one new =
      let firsts = first_new h a new in
      let way = ends (first_arrivals h) a legal.replies opening office (sym (ap (map answer_of) firsts) ∙ legal.replied)
      (subst (λ list. Run opening (map request_of list) legal.replies office) firsts legal.run) in
      let net_is = one_network once name h g way.mid p (pairs_before NamesOneNetwork h a one_h)
      (pairs_before NamesOneNetwork g a one_g) same
      (record { replies = way.reported; replied = way.replied; run = way.run })
      (record { replies = other.replies; replied = other.replied; run = other.run }) in (
        left_there a.profile way.mid p office a.team a.command way.reply unrequested net_is way.step,
        histories_grow.first g p
            (left_there a.profile way.mid p office a.team a.command way.reply unrequested net_is way.step) a way.reply
            other (one_first ∙ new) way.answered
            (step_there a.profile way.mid p office a.team a.command way.reply unrequested net_is way.step),
      )

  repeated : (first : Answered) → first_of h a ≡ Some first → IsLegalHistory (g ++ a ∷ [])
  repeated first is =
      let found : first_of (h ++ a ∷ []) a ≡ Some first = find-append of_pair h (a ∷ [])
      ∙ ap (λ o. option_or o (first_of (a ∷ []) a)) is in
      let answered : IsAnsweredAs a first = subst (λ o. IfSome o (IsAnsweredAs a)) found
      (all_last (λ b. IfSome (first_of (h ++ a ∷ []) b) (IsAnsweredAs b)) h a legal.again) in
      (p, histories_grow.again g p a first other (one_first ∙ is) answered)

  by_first : (found : Option Answered) → first_of h a ≡ found → IsLegalHistory (g ++ a ∷ [])
  by_first None is = first_one is
  by_first (Some first) is = repeated first is

pub answers_are_apart : ReadsAsOneAtMost → AnswersAreApart
answers_are_apart once h g a unrequested one_h one_g same legal other =
    by_first once h g a unrequested one_h one_g same legal.0 other.0 legal.1 other.1 (first_of h a) refl
