-- Suspect parameter numbers that first arrivals are given.
use Rattle.office_history.proofs.Common.{◌≡◌, ◌∙◌, ℕ, zero, suc, Bool, true, false, List, ◌++◌, [], ◌∷◌, map, All}
use Rattle.office_history.proofs.Common.{Contains, Option, Some, None, refl, sym, subst, arith, AllPairs, if◌then◌else◌}
use Rattle.office_history.proofs.Common.{false≢true, All-cons, All-head, All-nil, All-tail, All-weaker, AllPairs-cons}
use Rattle.office_history.proofs.Common.{SpnBook, Command, Task, Act, Import, Bundle, Reply, Number, Refused, Net}
use Rattle.office_history.proofs.Common.{Office, Outcome, Refusing, Changing, reply_of, Profile, TeamCommand, Run, Step}
use Rattle.office_history.proofs.Common.{net_named, office_after, opening, step_outcome, AreInOrder, offices_are_kept}
use Rattle.std.proofs.Common.{◌≢◌}
use Rattle.std.specs.Prelude.{is_none}
use Rattle.std.specs.List.{flat_map}
use Rattle.std.proofs.lemmas.List.Elements.{All-append}
use Rattle.office_types.specs.Reply.{whole_reply}
use Rattle.office_types.specs.declared.command.Action.{Action}
use Rattle.office_types.specs.declared.command.Action.TheVariants as act
use Rattle.office_types.specs.declared.command.TakeSpn.{TakeSpn}
use Rattle.office_types.specs.declared.reply.PartReply.{PartReply}
use Rattle.office_types.specs.declared.reply.Reply.TheVariants.{Bundle as Bundled}
use Rattle.office_rules.specs.Commands.{acted}
use Rattle.office_rules.specs.Outcome.{entered}
use Rattle.office_rules.specs.Signals.{take_spn}
use Rattle.office_law.specs.Bundles.{bundle_of, command_of, requests_of}
use Rattle.office_law.proofs.BundleRuns.{bundles_run_their_parts}
use Rattle.office_law.proofs.FreshNumbers.{numbers_are_fresh}
use Rattle.office_history.specs.declared.arrival.Answer.TheVariants as answer
use Rattle.office_history.specs.History.{Answered, answer_of, first_arrivals, request_of}
use Rattle.office_history.specs.Laws.{SpnsAreGivenOnce, action_spns, answer_spns, wants_new_spn, part_spns, spns_given}
use Rattle.office_history.specs.Laws.{task_spns}
use Rattle.office_history.proofs.Releases.{step_in_order}

-- ---- one outcome

-- the number was never used, and is used from then on
abbrev IsNewIn : SpnBook → SpnBook → ℕ → Type 0
IsNewIn before after n = (Contains before.used n → ⊥) × Contains after.used n

abbrev GivesNew : SpnBook → Outcome → ℕ → Type 0
GivesNew book (Refusing r) n = ⊥
GivesNew book (Changing r net e) n = IsNewIn book (entered book e) n

same_number : (m n : ℕ) → Number m ≡ Number n → m ≡ n
same_number m n e = cc

no_number : (Q : Type 0) (r : _) (n : ℕ) → Refused r ≡ Number n → Q
no_number Q r n e = absurd cc

none_is : {X : Type 0} (o : Option X) → is_none o ≡ true → o ≡ None
none_is None e = refl
none_is (Some x) e = absurd (false≢true e)

module _ (team name : List ℕ) (book : SpnBook) (c : TakeSpn) (n : ℕ) where
  spn_outcome : (net : Net) (out : Outcome) → c.same ≡ None → take_spn team name (Some net) book c ≡ out
      → reply_of out ≡ Number n → GivesNew book out n
  spn_outcome net (Refusing r) none is reported = no_number ⊥ r n reported
  spn_outcome net (Changing r after e) none is reported =
      let new = numbers_are_fresh.spns team name net after book c r e none is in
      let same : new.number ≡ n = same_number new.number n (sym new.reported ∙ reported) in
      (subst (λ k. Contains book.used k → ⊥) same new.unused, subst (Contains (entered book e).used) same new.used)

  on_network : (net : Option Net) → c.same ≡ None → reply_of (take_spn team name net book c) ≡ Number n
      → GivesNew book (take_spn team name net book c) n
  on_network None none reported = no_number ⊥ _ n reported
  on_network (Some net) none reported = spn_outcome net (take_spn team name (Some net) book c) none refl reported

act_outcome : (team name : List ℕ) (net : Option Net) (book : SpnBook) (a : Action) (n : ℕ) → wants_new_spn a ≡ true
    → reply_of (acted team name net book a) ≡ Number n → GivesNew book (acted team name net book a) n
act_outcome team name net book (act.TakeSpn c) n requests reported =
    on_network team name book c n net (none_is c.same requests) reported
act_outcome team name net book a n requests reported = absurd (false≢true requests)

-- ---- one step

left_new : (o : Office) (out : Outcome) (n : ℕ) → GivesNew o.book out n → IsNewIn o.book (office_after o out).book n
left_new o (Refusing r) n new = absurd new
left_new o (Changing r net e) n new = new

left_used : (o : Office) (out : Outcome) (n : ℕ) → Contains o.book.used n → Contains (office_after o out).book.used n
left_used o (Refusing r) n there = there
left_used o (Changing r net e) n there = numbers_are_fresh.stay_used o.book e n there

act_new : (profile : Profile) (o after : Office) (team name : List ℕ) (a : Action) (r : Reply) (n : ℕ)
    → Step profile o team (command_of name a) r after → wants_new_spn a ≡ true → r ≡ Number n
    → IsNewIn o.book after.book n
act_new profile o after team name a r n step requests reported =
    subst (λ (x : Office). IsNewIn o.book x.book n) (sym step.left)
    (left_new o (acted team name (net_named o name) o.book a) n
    (act_outcome team name (net_named o name) o.book a n requests (sym step.answered ∙ reported)))

step_used : (profile : Profile) (o after : Office) (team : List ℕ) (c : Command) (r : Reply) (n : ℕ)
    → Step profile o team c r after → Contains o.book.used n → Contains after.book.used n
step_used profile o after team c r n step there =
    subst (λ (x : Office). Contains x.book.used n) (sym step.left)
    (left_used o (step_outcome o team step.reading c) n there)

-- ---- several numbers

-- none of the numbers was used before, all are used after, and no two are the same
record AreNew (before after given : List ℕ) : Type 0 where
  unused : All (λ n. Contains before n → ⊥) given
  entered : All (Contains after) given
  apart : AllPairs (λ m n. m ≢ n) given

abbrev Stays : List ℕ → List ℕ → Type 0
Stays before after = (n : ℕ) → Contains before n → Contains after n

none_new : (before after : List ℕ) → AreNew before after []
none_new before after = record {
  unused = All-nil (λ n. Contains before n → ⊥);
  entered = All-nil (Contains after);
  apart = λ i j d lt within. absurd (omega (arith, within));
}

one_new : (before after : List ℕ) (n : ℕ) → (Contains before n → ⊥) → Contains after n → AreNew before after (n ∷ [])
one_new before after n new used = record {
  unused = All-cons (λ m. Contains before m → ⊥) n [] new (All-nil (λ m. Contains before m → ⊥));
  entered = All-cons (Contains after) n [] used (All-nil (Contains after));
  apart = λ i j d lt within. absurd (omega (arith, lt, within));
}

pairs_head : (x : ℕ) (xs : List ℕ) → AllPairs (λ m n. m ≢ n) (x ∷ xs) → All (λ n. x ≢ n) xs
pairs_head x xs h = λ k d w. h zero (suc k) d (omega arith) (omega arith)

pairs_tail : (x : ℕ) (xs : List ℕ) → AllPairs (λ m n. m ≢ n) (x ∷ xs) → AllPairs (λ m n. m ≢ n) xs
pairs_tail x xs h = λ i j d l w. h (suc i) (suc j) d (omega arith) (omega arith)

-- the numbers of an earlier list are used, those of a later one weren't
apart_both : (mid : List ℕ) (xs ys : List ℕ) → All (Contains mid) xs → AllPairs (λ m n. m ≢ n) xs
    → All (λ n. Contains mid n → ⊥) ys → AllPairs (λ m n. m ≢ n) ys
    → AllPairs (λ m n. m ≢ n) (xs ++ ys)
apart_both mid [] ys used apart unused later = later
apart_both mid (x ∷ xs) ys used apart unused later =
    AllPairs-cons (λ m n. m ≢ n) x (xs ++ ys)
    (All-append (λ n. x ≢ n) xs ys (pairs_head x xs apart)
    (All-weaker (λ n. Contains mid n → ⊥) (λ n. x ≢ n)
    (λ n absent same. absent (subst (Contains mid) same (All-head (Contains mid) x xs used))) ys unused))
    (apart_both mid xs ys (All-tail (Contains mid) x xs used) (pairs_tail x xs apart) unused later)

both_new : (before mid after xs ys : List ℕ) → Stays before mid → Stays mid after → AreNew before mid xs
    → AreNew mid after ys → AreNew before after (xs ++ ys)
both_new before mid after xs ys first second a b = record {
  unused = All-append (λ n. Contains before n → ⊥) xs ys a.unused
      (All-weaker (λ n. Contains mid n → ⊥) (λ n. Contains before n → ⊥) (λ n absent there. absent (first n there)) ys
      b.unused);
  entered = All-append (Contains after) xs ys (All-weaker (Contains mid) (Contains after) second xs a.entered)
      b.entered;
  apart = apart_both mid xs ys a.entered a.apart b.unused b.apart;
}

-- ---- a step

by_command : (profile : Profile) (o after : Office) (team name : List ℕ) (a : Action) (n : ℕ) (b : Bool)
    → wants_new_spn a ≡ b → Step profile o team (command_of name a) (Number n) after
    → AreNew o.book.used after.book.used (if b then n ∷ [] else [])
by_command profile o after team name a n false requests step = none_new o.book.used after.book.used
by_command profile o after team name a n true requests step =
    let new = act_new profile o after team name a (Number n) n step requests refl in
    one_new o.book.used after.book.used n new.0 new.1

by_action : (profile : Profile) (o after : Office) (team name : List ℕ) (a : Action) (r : Reply)
    → Step profile o team (command_of name a) r after → AreNew o.book.used after.book.used (action_spns a r)
by_action profile o after team name a (Number n) step =
    by_command profile o after team name a n (wants_new_spn a) refl step
by_action profile o after team name a it step = none_new o.book.used after.book.used

run_used : (qs : List TeamCommand) (rs : List Reply) (o after : Office) → Run o qs rs after
    → Stays o.book.used after.book.used
run_used [] [] o after run = λ n there. subst (λ (x : Office). Contains x.book.used n) (sym run) there
run_used [] (r ∷ rs) o after run = absurd run
run_used (q ∷ qs) [] o after run = absurd run
run_used (q ∷ qs) (r ∷ rs) o after run =
    λ n there. run_used qs rs run.0 after run.2 n (step_used q.0 o run.0 q.1 q.2 r n run.1 there)

by_parts : (profile : Profile) (team name : List ℕ) (parts : List Action) (reported : List PartReply) (o after : Office)
    → Run o (requests_of profile team name parts) (map whole_reply reported) after
    → AreNew o.book.used after.book.used (part_spns parts reported)
by_parts profile team name [] reported o after run = none_new o.book.used after.book.used
by_parts profile team name (a ∷ parts) [] o after run = absurd run
by_parts profile team name (a ∷ parts) (p ∷ reported) o after run =
    both_new o.book.used run.0.book.used after.book.used (action_spns a (whole_reply p)) (part_spns parts reported)
    (λ n there. step_used profile o run.0 team (command_of name a) (whole_reply p) n run.1 there)
    (run_used (requests_of profile team name parts) (map whole_reply reported) run.0 after run.2)
    (by_action profile o run.0 team name a (whole_reply p) run.1)
    (by_parts profile team name parts reported run.0 after run.2)

by_bundle : (profile : Profile) (o after : Office) (team name : List ℕ) (parts : List Action) (r : Reply) → AreInOrder o
    → Step profile o team (bundle_of name parts) r after
    → AreNew o.book.used after.book.used (task_spns (Bundle parts) r)
by_bundle profile o after team name parts (Bundled reported) sorted step =
    by_parts profile team name parts reported o after
    (bundles_run_their_parts.done profile o after team name parts reported sorted step)
by_bundle profile o after team name parts it sorted step = none_new o.book.used after.book.used

by_task : (profile : Profile) (o after : Office) (team name : List ℕ) (t : Task) (r : Reply) → AreInOrder o
    → Step profile o team (record { net = name; task = t }) r after → AreNew o.book.used after.book.used (task_spns t r)
by_task profile o after team name (Act a) r sorted step = by_action profile o after team name a r step
by_task profile o after team name (Bundle parts) r sorted step = by_bundle profile o after team name parts r sorted step
by_task profile o after team name (Import file) r sorted step = none_new o.book.used after.book.used

-- ---- a run

first_answer : (a : Answered) (list : List Answered) (r : Reply) (rs : List Reply)
    → map answer_of (a ∷ list) ≡ map answer.Reply (r ∷ rs) → a.answer ≡ answer.Reply r
first_answer a list r rs e = cc

later_answers : (a : Answered) (list : List Answered) (r : Reply) (rs : List Reply)
    → map answer_of (a ∷ list) ≡ map answer.Reply (r ∷ rs)
    → map answer_of list ≡ map answer.Reply rs
later_answers a list r rs e = cc

given_by_run : (list : List Answered) (rs : List Reply) (o after : Office) → AreInOrder o
    → map answer_of list ≡ map answer.Reply rs → Run o (map request_of list) rs after
    → AreNew o.book.used after.book.used (flat_map spns_given list)
given_by_run [] rs o after sorted reported run = none_new o.book.used after.book.used
given_by_run (a ∷ list) [] o after sorted reported run = absurd run
given_by_run (a ∷ list) (r ∷ rs) o after sorted reported run =
    both_new o.book.used run.0.book.used after.book.used (spns_given a) (flat_map spns_given list)
    (λ n there. step_used a.profile o run.0 a.team a.command r n run.1 there)
    (run_used (map request_of list) rs run.0 after run.2)
    (subst (λ given. AreNew o.book.used run.0.book.used (answer_spns a.command.task given))
    (sym (first_answer a list r rs reported))
    (by_task a.profile o run.0 a.team a.command.net a.command.task r sorted run.1))
    (given_by_run list rs run.0 after (step_in_order a.profile o run.0 a.team a.command r sorted run.1)
    (later_answers a list r rs reported) run.2)

pub spns_are_given_once : SpnsAreGivenOnce
spns_are_given_once h office legal =
    (given_by_run (first_arrivals h) legal.replies opening office offices_are_kept.opening_is.rising legal.replied
    legal.run).apart
