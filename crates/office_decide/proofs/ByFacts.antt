-- What is decided by the facts of an action's scope is decided by every network that has them.
use Rattle.office_decide.proofs.Common.{◌≡◌, ℕ, true, false, List, Option, Some, sym, subst, AreFacts, facts_of}
use Rattle.office_decide.proofs.Common.{reads_book, scope_of, Facts, SpnBook, Decision, Action, Command, Act, Net}
use Rattle.office_decide.proofs.Common.{Decides, IsDecision, acted, Outcome}
use Rattle.std.proofs.Common.{Result, Ok, Err}
use Rattle.std.specs.Prelude.{IfOk}
use Rattle.office_types.specs.declared.state.GrantedBlock.{GrantedBlock}
use Rattle.office_types.specs.declared.state.Head.{Head}
use Rattle.office_rules.specs.Facts.{MessageFacts, message_facts}
use Rattle.office_net.specs.FactsOf.{with_head, with_parts}
use Rattle.office_decide.proofs.Decisions.{action_decided, decision_if_read}

-- decided on the action, it is on the command
pub by_action : (team : List ℕ) (c : Command) (a : Action) (net : Net) (book : SpnBook) (d : Decision) → c.task ≡ Act a
    → Decides c.net (record { net = Some net; book = book }) (acted team c.net (Some net) book a) d
    → IsDecision team (record { net = Some net; book = book }) c d
by_action team c a net book d is h =
    decision_if_read team (record { net = Some net; book = book }) c d
    (action_decided team (record { net = Some net; book = book }) c a d is h)

-- decided for each network and book that the action allows
abbrev pub DecidesAll : List ℕ → List ℕ → SpnBook → Action → Facts → Decision → Type 0
DecidesAll team name book a facts d =
    (net : Net) (other : SpnBook) → AreFacts team net (scope_of a) (facts_of facts)
    → (reads_book (Act a) ≡ true → other ≡ book)
    → Decides name (record { net = Some net; book = other }) (acted team name (Some net) other a) d

-- decided for the action and the facts that were matched
pub matched : {E : Type 0} (r : Result Decision E) (team name : List ℕ) (book : SpnBook) (a b : Action) (x y : Facts)
    → a ≡ b → x ≡ y
    → IfOk r (DecidesAll team name book b y) → IfOk r (DecidesAll team name book a x)
matched r team name book a b x y is are h = subst (λ (p : Action × Facts). IfOk r (DecidesAll team name book p.0 p.1))
    (λ i. (sym is i, sym are i)) h

-- by a head it is decided on every network that has it
pub by_head : {E : Type 0} (r : Result Decision E) (name : List ℕ) (book : SpnBook) (h : Head)
    (out : Option Net → Outcome)
    → IfOk r (λ d. (at : List ℕ) (net : Net) (other : SpnBook)
    → Decides at (record { net = Some (with_head h net); book = other }) (out (Some (with_head h net))) d)
    → IfOk r (λ d. (net : Net) (other : SpnBook) → h ≡ net.head → (false ≡ true → other ≡ book)
    → Decides name (record { net = Some net; book = other }) (out (Some net)) d)
by_head (Err e) name book h out decided = tt
by_head (Ok d) name book h out decided =
    λ net other is good. subst (λ (n : Net). Decides name (record { net = Some n; book = other }) (out (Some n)) d)
    (its_own net is) (decided name net other)
  where
    its_own : (net : Net) → h ≡ net.head → with_head h net ≡ net
    its_own net is = λ i. record {
      name = net.name;
      head = is i;
      live = net.live;
      blocks = net.blocks;
      held = net.held;
      approvals = net.approvals;
      releases = net.releases;
    }

-- a network with its own head and its own blocks
pub with_its_parts : (net : Net) (h : Head) (blocks : List GrantedBlock) → h ≡ net.head → blocks ≡ net.blocks
    → with_parts h blocks net ≡ net
with_its_parts net h blocks is are =
    λ i. record {
      name = net.name;
      head = is i;
      live = net.live;
      blocks = are i;
      held = net.held;
      approvals =
          net.approvals;
      releases = net.releases;
    }

-- by the facts of a message it is decided on every network that has them
pub by_message : {E : Type 0} (r : Result Decision E) (name message : List ℕ) (book : SpnBook) (f : MessageFacts)
    (out : Net → Outcome)
    → IfOk r (λ d. (at : List ℕ) (net : Net) (other : SpnBook) → f ≡ message_facts net message
    → Decides at (record { net = Some net; book = other }) (out net) d)
    → IfOk r (λ d. (net : Net) (other : SpnBook) → f ≡ message_facts net message → (false ≡ true → other ≡ book)
    → Decides name (record { net = Some net; book = other }) (out net) d)
by_message (Err e) name message book f out decided = tt
by_message (Ok d) name message book f out decided = λ net other are good. decided name net other are
