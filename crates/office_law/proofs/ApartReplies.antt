-- What a command takes from the book and writes into its network is in its reply.
use Rattle.office_law.proofs.Common.{◌≡◌, ◌∙◌, ◌+◌, ℕ, List, [], ◌∷◌, Option, Some, None, refl, sym, ap, subst, Test}
use Rattle.office_law.proofs.Common.{first_refusal, SpnBook, Action, Grant, TakeSpn, Task, Act, Import, Bundle, Refusal}
use Rattle.office_law.proofs.Common.{Reply, Number, PartReply, Net, part_reply, whole_reply, PartsOutcome, RefusedAt}
use Rattle.office_law.proofs.Common.{AllDone, bundle_outcome, part_then, with_part, acted, done_task, parts_done}
use Rattle.office_law.proofs.Common.{live_named, message_facts, FileReading, with_message, grant, grant_tests, granted}
use Rattle.office_law.proofs.Common.{Entries, Outcome, Refusing, Changing, entered, given_or, on_net, refused_or}
use Rattle.office_law.proofs.Common.{reply_of, unless, spn_given, take_spn, take_spn_tests, with_spn}
use Rattle.office_types.specs.declared.command.Action.TheVariants as act
use Rattle.office_types.specs.declared.refusal.Refusal.TheVariants as no
use Rattle.office_law.specs.Histories.{net_after}
use Rattle.office_law.proofs.EachLeavesNameAndReleases.{left_act, left_task}
use Rattle.office_law.proofs.NameAndReleasesStay.{IsAnswer, IsLeft}
use Rattle.office_law.proofs.NoTestHolds.{Leaves}

-- where both are answered, and alike, they leave one network
abbrev pub Agree : Outcome → Outcome → Type 0
Agree (Refusing r) b = Unit {0}
Agree (Changing r n d) (Refusing s) = Unit {0}
Agree (Changing r n d) (Changing s m e) = r ≡ s → n ≡ m

agree_same : (a : Outcome) → Agree a a
agree_same (Refusing r) = tt
agree_same (Changing r n e) = λ _. refl

agree_refused : (a : Outcome) (s : Refusal) → Agree a (Refusing s)
agree_refused (Refusing r) s = tt
agree_refused (Changing r n e) s = tt

agree_or : (o p : Option Refusal) (a b : Outcome) → Agree a b → Agree (refused_or o a) (refused_or p b)
agree_or None None a b h = h
agree_or None (Some s) a b h = agree_refused a s
agree_or (Some r) p a b h = tt

agree_unless : (ts us : List (Test Refusal)) (a b : Outcome) → Agree a b → Agree (unless ts a) (unless us b)
agree_unless ts us a b h = agree_or (first_refusal ts) (first_refusal us) a b h

agree_with : {A : Type 0} (r : Refusal) (o : Option A) (f g : A → Outcome) → ((x : A) → Agree (f x) (g x))
    → Agree (given_or r o f) (given_or r o g)
agree_with r None f g h = tt
agree_with r (Some x) f g h = h x

agree_given : {A : Type 0} (r : Refusal) (o p : Option A) (f g : A → Outcome) → ((x y : A) → Agree (f x) (g y))
    → Agree (given_or r o f) (given_or r p g)
agree_given r None p f g h = tt
agree_given r (Some x) None f g h = agree_refused (f x) r
agree_given r (Some x) (Some y) f g h = h x y

same_number : (a b : ℕ) → ◌≡◌ {A = Reply} (Number a) (Number b) → a ≡ b
same_number a b e = cc

module _ (team name : List ℕ) (book other : SpnBook) where
  agree_grant : (net : Option Net) (c : Grant) → Agree (grant team name net book c) (grant team name net other c)
  agree_grant None c = agree_unless (grant_tests team None book c) (grant_tests team None other c) (Refusing no.NoNet)
      (Refusing no.NoNet) tt
  agree_grant (Some n) c = agree_unless (grant_tests team (Some n) book c) (grant_tests team (Some n) other c)
      (granted name n c) (granted name n c) (agree_same (granted name n c))

  agree_spn : (net : Option Net) (c : TakeSpn) → Agree (take_spn team name net book c) (take_spn team name net other c)
  agree_spn None c = tt
  agree_spn (Some n) c =
      agree_unless (on_net (Some n) (λ n. take_spn_tests team name (message_facts n c.path.message) book c))
      (on_net (Some n) (λ n. take_spn_tests team name (message_facts n c.path.message) other c)) _ _
      (agree_with no.NoMessage (live_named n.live c.path.message) _ _ (λ m.
      agree_given no.BlockFull (spn_given team name book c) (spn_given team name other c) _ _
      (λ x y e. ap (λ k. with_message n (with_spn m c.path.signal k)) (same_number x y e))))

  agree_act : (net : Option Net) (a : Action) → Agree (acted team name net book a) (acted team name net other a)
  agree_act net (act.Grant c) = agree_grant net c
  agree_act net (act.TakeSpn c) = agree_spn net c
  agree_act net a = agree_same (acted team name net book a)

-- the same of the parts of a bundle
abbrev AgreeAll : PartsOutcome → PartsOutcome → Type 0
AgreeAll (AllDone rs n d) (AllDone ss m e) = rs ≡ ss → n ≡ m
AgreeAll a b = Unit {0}

same_first : (r s : Reply) (rs ss : List PartReply) → whole_reply (part_reply r) ≡ r → whole_reply (part_reply s) ≡ s
    → part_reply r ∷ rs ≡ part_reply s ∷ ss → (r ≡ s) × (rs ≡ ss)
same_first r s rs ss pr ps e = (sym pr ∙ ap whole_reply (let same : part_reply r ≡ part_reply s = cc in same) ∙ ps, cc)

agree_with_part : (r s : Reply) (n m : Net) (d e : Entries) (a b : PartsOutcome) → whole_reply (part_reply r) ≡ r
    → whole_reply (part_reply s) ≡ s → (r ≡ s → n ≡ m)
    → (n ≡ m → AgreeAll a b) → AgreeAll (with_part r d a) (with_part s e b)
agree_with_part r s n m d e (RefusedAt i q) b pr ps one later = tt
agree_with_part r s n m d e (AllDone rs k x) (RefusedAt i q) pr ps one later = tt
agree_with_part r s n m d e (AllDone rs k x) (AllDone ss l y) pr ps one later =
    λ same. let both = same_first r s rs ss pr ps same in later (one both.0) both.1

agree_then : (name : List ℕ) (t : Action) (net : Option Net) (number : ℕ) (a b : Outcome)
    (f g : Net → Entries → PartsOutcome) → Agree a b
    → Leaves (λ r n e. IsLeft name (Act t) net r n) a → Leaves (λ r n e. IsLeft name (Act t) net r n) b
    → ((n : Net) (d e : Entries) → AgreeAll (f n d) (g n e)) → AgreeAll (part_then number a f) (part_then number b g)
agree_then name t net number (Refusing q) b f g h ha hb later = tt
agree_then name t net number (Changing r n d) (Refusing q) f g h ha hb later =
    agree_refused_all (with_part r d (f n d)) number q
  where
    agree_refused_all : (a : PartsOutcome) (number : ℕ) (q : Refusal) → AgreeAll a (RefusedAt number q)
    agree_refused_all (RefusedAt i r) number q = tt
    agree_refused_all (AllDone rs k x) number q = tt
agree_then name t net number (Changing r n d) (Changing s m e) f g h ha hb later =
    agree_with_part r s n m d e (f n d) (g m e) ha.part hb.part h
    (λ same. subst (λ v. AgreeAll (f n d) (g v e)) same (later n d e))

agree_parts : (team name : List ℕ) (number : ℕ) (net : Option Net) (book other : SpnBook) (parts : List Action)
    → AgreeAll (parts_done team name number net book parts) (parts_done team name number net other parts)
agree_parts team name number net book other [] = λ same. refl
agree_parts team name number net book other (a ∷ parts) =
    agree_then name a net number (acted team name net book a) (acted team name net other a) _ _
    (agree_act team name book other net a) (left_act team name book net a) (left_act team name other net a)
    (λ n d e. agree_parts team name (number + 1) (Some n) (entered book d) (entered other e) parts)

agree_bundle : (a b : PartsOutcome) → AgreeAll a b → Agree (bundle_outcome a) (bundle_outcome b)
agree_bundle (RefusedAt i r) b h = tt
agree_bundle (AllDone rs None d) b h = tt
agree_bundle (AllDone rs (Some n) d) (RefusedAt i r) h = tt
agree_bundle (AllDone rs (Some n) d) (AllDone ss None e) h = tt
agree_bundle (AllDone rs (Some n) d) (AllDone ss (Some m) e) h =
    λ same. same_net n m (h (let parts : rs ≡ ss = cc in parts))
  where
    same_net : (n m : Net) → ◌≡◌ {A = Option Net} (Some n) (Some m) → n ≡ m
    same_net n m e = cc

module _ (team name : List ℕ) (book other : SpnBook) where
  pub agree_task : (reading : FileReading) (net : Option Net) (t : Task)
      → Agree (done_task team name reading net book t) (done_task team name reading net other t)
  agree_task reading net (Act a) = agree_act team name book other net a
  agree_task reading net (Bundle parts) =
      agree_bundle (parts_done team name 1 net book parts) (parts_done team name 1 net other parts)
      (agree_parts team name 1 net book other parts)
  agree_task reading net (Import file) = agree_same (done_task team name reading net book (Import file))

module _ (name : List ℕ) (t : Task) (net : Option Net) where
  one_network : (a b : Outcome) → Agree a b → Leaves (λ r n e. IsLeft name t net r n) a
      → Leaves (λ r n e. IsLeft name t net r n) b
      → reply_of a ≡ reply_of b → net_after net a ≡ net_after net b
  one_network (Refusing r) (Refusing s) h ha hb same = refl
  one_network (Refusing r) (Changing s m e) h ha hb same = absurd (subst IsAnswer (sym same) hb.answer)
  one_network (Changing r n d) (Refusing s) h ha hb same = absurd (subst IsAnswer same ha.answer)
  one_network (Changing r n d) (Changing s m e) h ha hb same = ap Some (h same)

-- a command that is answered alike with two books leaves one network
pub one_reply_one_network : (team name : List ℕ) (reading : FileReading) (net : Option Net) (book other : SpnBook)
    (t : Task)
    → reply_of (done_task team name reading net book t) ≡ reply_of (done_task team name reading net other t)
    → net_after net (done_task team name reading net book t) ≡ net_after net (done_task team name reading net other t)
one_reply_one_network team name reading net book other t same =
    one_network name t net (done_task team name reading net book t) (done_task team name reading net other t)
    (agree_task team name book other reading net t) (left_task team name book reading net t)
    (left_task team name other reading net t) same
