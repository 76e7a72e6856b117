-- What happens to a network depends on its own history alone: on the commands on it, and on what they are answered.
use Rattle.office_law.proofs.Common.{◌≡◌, ◌⊎◌, ◌∙◌, ℕ, Bool, true, false, List, [], ◌∷◌, Option, Some, inl, inr, refl}
use Rattle.office_law.proofs.Common.{sym, ap, subst, if◌then◌else◌, bytes_eq, ReadsAsOneAtMost, Command, Task, Refusal}
use Rattle.office_law.proofs.Common.{Reply, Refused, Net, Office, outcome, Outcome, Refusing, Changing, reply_of}
use Rattle.office_law.proofs.Common.{Profile, TeamCommand, IsRead, Run, Step, file_wanted, net_named, office_after}
use Rattle.office_law.proofs.Common.{step_outcome}
use Rattle.office_types.specs.declared.refusal.Refusal.TheVariants as no
use Rattle.office_law.specs.Agree.{IsFileRefused}
use Rattle.office_law.specs.Apart.{needs_book}
use Rattle.office_law.specs.Histories.{AreInOrder, OneHistoryOneNetwork, RepliesApart, history, net_after}
use Rattle.office_law.proofs.ApartBook.{task_alike}
use Rattle.office_law.proofs.ApartReplies.{one_reply_one_network}
use Rattle.office_law.proofs.EachLeavesNameAndReleases.{left_task}
use Rattle.office_law.proofs.NameAndReleasesStay.{IsAnswer, IsLeft}
use Rattle.office_law.proofs.OneStep.{steps_agree}
use Rattle.office_law.proofs.NoTestHolds.{Leaves}
use Rattle.office_law.proofs.NetsApart.{nets_apart}
use Rattle.office_law.proofs.OrderedNets.{equal_texts, sorted_after}

-- what a refused command leaves
module _ (name : List ℕ) (t : Task) (net : Option Net) (r : Refusal) where
  refused_net : (out : Outcome) → Leaves (λ s n e. IsLeft name t net s n) out → reply_of out ≡ Refused r
      → net_after net out ≡ net
  refused_net (Refusing q) left e = refl
  refused_net (Changing s n entries) left e = absurd (subst IsAnswer e left.answer)

  refused_office : (o : Office) (out : Outcome) → Leaves (λ s n e. IsLeft name t net s n) out → reply_of out ≡ Refused r
      → office_after o out ≡ o
  refused_office o (Refusing q) left e = refl
  refused_office o (Changing s n entries) left e = absurd (subst IsAnswer e left.answer)

-- Two offices with one network of the command's name.
module _ (once : ReadsAsOneAtMost) (profile : Profile) (o p a b : Office) (team : List ℕ) (c : Command) (r s : Reply)
    (first : Step profile o team c r a) (second : Step profile p team c s b)
    (same : net_named o c.net ≡ net_named p c.net) where
  -- what the command results in, in each of them by the second's reading
  abbrev here : Outcome
  here = outcome team second.reading (net_named o c.net) o.book c

  abbrev there : Outcome
  there = outcome team second.reading (net_named o c.net) p.book c

  answered_there : s ≡ reply_of there
  answered_there = subst (λ n. s ≡ reply_of (outcome team second.reading n p.book c)) (sym same) second.answered

  left_there : b ≡ office_after p there
  left_there = subst (λ n. b ≡ office_after p (outcome team second.reading n p.book c)) (sym same) second.left

  is_left : Leaves (λ q n e. IsLeft c.net c.task (net_named o c.net) q n) there
  is_left = left_task team c.net p.book second.reading (net_named o c.net) c.task

  net_there : AreInOrder p → net_named b c.net ≡ net_after (net_named o c.net) there
  net_there sorted =
      ap (λ x. net_named x c.net) second.left
      ∙ (nets_apart p team second.reading c).own sorted
      ∙ sym (ap (λ n. net_after n (outcome team second.reading n p.book c)) same)

  -- the first office, by the second's reading
  middle : Step profile o team c (reply_of here) (office_after o here)
  middle = record {
    reading = second.reading;
    read =
        subst (λ n. IsRead profile (file_wanted n c.task) second.reading) (sym same) second.read;
    answered = refl;
    left =
        refl;
  }

  agreed : ((r ≡ reply_of here) × (a ≡ office_after o here))
      ⊎ (IsFileRefused profile o c r a × IsFileRefused profile o c (reply_of here) (office_after o here))
  agreed = steps_agree once profile o a (office_after o here) team c r (reply_of here) first middle

  one_reply : AreInOrder o → AreInOrder p → r ≡ s → net_named a c.net ≡ net_named b c.net
  one_reply sorted sorted_too e = elim agreed [
    | inl both ↦
        ap (λ x. net_named x c.net) both.1
        ∙ (nets_apart o team second.reading c).own sorted
        ∙ one_reply_one_network team c.net second.reading (net_named o c.net) o.book p.book c.task
        (sym both.0 ∙ e ∙ answered_there)
        ∙ sym (net_there sorted_too)
    | inr both ↦
        ap (λ x. net_named x c.net) both.0.left
        ∙ sym (refused_net c.net c.task (net_named o c.net) (no.FileFault both.0.fault) there is_left
        (sym answered_there ∙ sym e ∙ both.0.reported))
        ∙ sym (net_there sorted_too)
  ]

  one_answer : needs_book c.task ≡ false → (r ≡ s) ⊎ (IsFileRefused profile o c r a × IsFileRefused profile p c s b)
  one_answer unrequested =
      let alike : here ≡ there = task_alike team c.net second.reading (net_named o c.net) o.book p.book c.task
      unrequested in
      elim agreed [
        | inl both ↦ inl (both.0 ∙ ap reply_of alike ∙ sym answered_there)
        | inr both ↦
            let reported : s ≡ Refused (no.FileFault both.1.fault) = answered_there ∙ sym (ap reply_of alike)
            ∙ both.1.reported in
            inr (
              both.0,
              record {
                file = both.1.file;
                wanted = subst (λ n. file_wanted n c.task ≡ Some both.1.file) same both.1.wanted;
                fault = both.1.fault;
                unreadable = both.1.unreadable;
                reported = reported;
                left = left_there ∙ refused_office c.net c.task (net_named o c.net) (no.FileFault both.1.fault) p there
                    is_left (sym answered_there ∙ reported);
              },
            )
      ]

pub replies_apart : ReadsAsOneAtMost → RepliesApart
replies_apart once profile o p a b team c r s first second same unrequested =
    one_answer once profile o p a b team c r s first second same unrequested

in_order_after : (profile : Profile) (o a : Office) (team : List ℕ) (c : Command) (r : Reply) → AreInOrder o
    → Step profile o team c r a → AreInOrder a
in_order_after profile o a team c r sorted step =
    subst AreInOrder (sym step.left) (sorted_after o (step_outcome o team step.reading c) sorted)

module _ (name : List ℕ) where
  -- in some office the command led from one network to the other
  record StepsTo (before : Option Net) (e : Profile × List ℕ × Command × Reply) (after : Option Net) : Type 0 where
    pub office : Office
    pub later : Office
    pub step : Step e.0 office e.1 e.2 e.3 later
    pub sorted : AreInOrder office
    pub was : net_named office name ≡ before
    pub is : net_named later name ≡ after
    pub on : bytes_eq e.2.net name ≡ true

  abbrev Leads : Option Net → List (Profile × List ℕ × Command × Reply) → Option Net → Type 0
  Leads net [] last = net ≡ last
  Leads net (e ∷ es) last = (mid : Option Net) × StepsTo net e mid × Leads mid es last

  leads_more : (o mid : Office) (q : TeamCommand) (r : Reply) (es : List (Profile × List ℕ × Command × Reply))
      (last : Option Net) (b : Bool) → bytes_eq q.2.net name ≡ b
      → AreInOrder o → Step q.0 o q.1 q.2 r mid → Leads (net_named mid name) es last
      → Leads (net_named o name) (if b then (q.0, q.1, q.2, r) ∷ es else es) last
  leads_more o mid q r es last true on sorted step rest = (
    net_named mid name,
    record {
      office = o;
      later = mid;
      step = step;
      sorted = sorted;
      was = refl;
      is = refl;
      on =
          on;
    },
    rest,
  )
  leads_more o mid q r es last false on sorted step rest =
      subst (λ n. Leads n es last)
      (ap (λ x. net_named x name) step.left ∙ (nets_apart o q.1 step.reading q.2).others name on) rest

  -- a run's commands on the network lead from what it was to what it is
  leads : (qs : List TeamCommand) (rs : List Reply) (o a : Office) → AreInOrder o → Run o qs rs a
      → Leads (net_named o name) (history name qs rs) (net_named a name)
  leads [] [] o a sorted h = sym (ap (λ x. net_named x name) h)
  leads [] (r ∷ rs) o a sorted h = absurd h
  leads (q ∷ qs) [] o a sorted h = absurd h
  leads (q ∷ qs) (r ∷ rs) o a sorted h =
      let later : AreInOrder h.0 = in_order_after q.0 o h.0 q.1 q.2 r sorted h.1 in
      leads_more o h.0 q r (history name qs rs) (net_named a name) (bytes_eq q.2.net name) refl sorted h.1
      (leads qs rs h.0 a later h.2)

  module _ (once : ReadsAsOneAtMost) where
    one_step : (e : Profile × List ℕ × Command × Reply) (x y l m : Option Net) → x ≡ y → StepsTo x e l → StepsTo y e m
        → l ≡ m
    one_step e x y l m same s t =
        let named : e.2.net ≡ name = equal_texts e.2.net name s.on in
        let before : net_named s.office e.2.net ≡ net_named t.office e.2.net =
        subst (λ n. net_named s.office n ≡ net_named t.office n) (sym named) (s.was ∙ same ∙ sym t.was) in
        sym s.is
        ∙ subst (λ n. net_named s.later n ≡ net_named t.later n) named
        (one_reply once e.0 s.office t.office s.later t.later e.1 e.2 e.3 e.3 s.step t.step before s.sorted t.sorted
        refl)
        ∙ t.is

    leads_once : (es : List (Profile × List ℕ × Command × Reply)) (x y l m : Option Net) → x ≡ y → Leads x es l
        → Leads y es m → l ≡ m
    leads_once [] x y l m same s t = sym s ∙ same ∙ t
    leads_once (e ∷ es) x y l m same s t = leads_once es s.0 t.0 l m (one_step e x y s.0 t.0 same s.1 t.1) s.2 t.2

pub one_history_one_network : ReadsAsOneAtMost → OneHistoryOneNetwork
one_history_one_network once name o p a b qs ps rs ss sorted sorted_too run other same alike =
    leads_once name once (history name ps ss) (net_named o name) (net_named p name) (net_named a name)
    (net_named b name) same
    (subst (λ es. Leads name (net_named o name) es (net_named a name)) alike (leads name qs rs o a sorted run))
    (leads name ps ss p b sorted_too other)
