-- A bundle is the run of its parts.
use Rattle.office_law.proofs.Common.{◌≡◌, ◌∙◌, ◌⊎◌, ◌+◌, ℕ, Bool, true, false, List, [], ◌∷◌, ◌++◌, map, length, Option}
use Rattle.office_law.proofs.Common.{Some, None, inl, inr, refl, sym, ap, subst, arith, bytes_eq-Decides, put}
use Rattle.office_law.proofs.Common.{part_reply, whole_reply, by_name, Action, Refusal, PartReply, Reply, Refused, Net}
use Rattle.office_law.proofs.Common.{Office, PartsOutcome, RefusedAt, AllDone, both_entries, bundle_outcome, part_then}
use Rattle.office_law.proofs.Common.{with_part, acted, parts_done, in_review, FileReading, Unreadable, Entries, Outcome}
use Rattle.office_law.proofs.Common.{Refusing, Changing, entered, reply_of, Profile, IsRead, Run, Step, file_wanted}
use Rattle.office_law.proofs.Common.{net_named, office_after}
use Rattle.office_types.specs.Parts.{AreParts}
use Rattle.office_types.specs.declared.command.Task.TheVariants as task
use Rattle.office_types.specs.declared.refusal.Refusal.TheVariants as no
use Rattle.office_types.specs.declared.reply.Reply.TheVariants.{Bundle}
use Rattle.office_rules.specs.Bundling.{refused_part}
use Rattle.office_law.specs.Bundles.{BundlesRunTheirParts, IsPartRefused, command_of, requests_of}
use Rattle.office_law.specs.Histories.{AreInOrder}
use Rattle.office_law.proofs.EachLeavesNameAndReleases.{left_act}
use Rattle.office_law.proofs.NameAndReleasesStay.{IsLeft, name_of}
use Rattle.office_law.proofs.NetsApart.{name_of_found}
use Rattle.office_law.proofs.OrderedNets.{equal_order, own_put, put_found, sorted_after}
use Rattle.office_law.proofs.Parts.{entered_both}
use Rattle.office_law.proofs.NoTestHolds.{Leaves}
use Rattle.office_law.proofs.PutAgain.{put_again}

no_reading : FileReading
no_reading = Unreadable (record { fault = 0; at = 0 })

-- an action wants no file
not_wanted : (profile : Profile) (net : Option Net) (a : Action)
    → IsRead profile (file_wanted net (task.Act a)) no_reading
not_wanted profile None a = tt
not_wanted profile (Some net) a = by_phase (in_review net.head.phase)
  where
    by_phase : (b : Bool) → IsRead profile (elim b [ true ↦ None | false ↦ None ]) no_reading
    by_phase true = tt
    by_phase false = tt

module _ (profile : Profile) (team name : List ℕ) where
  abbrev part_outcome : Office → Action → Outcome
  part_outcome o a = acted team name (net_named o name) o.book a

  step_of : (o : Office) (a : Action) (out : Outcome) → part_outcome o a ≡ out
      → Step profile o team (command_of name a) (reply_of out) (office_after o out)
  step_of o a out is = record {
    reading = no_reading;
    read = not_wanted profile (net_named o name) a;
    answered =
        ap reply_of (sym is);
    left = ap (office_after o) (sym is);
  }

  abbrev after_all : Office → Net → Entries → Office
  after_all o n e = record { nets = put by_name n o.nets; book = entered o.book e }

  -- The parts, numbered from a number on, run, or one of them is refused.
  pub record IsRefusedAt (o : Office) (number : ℕ) (parts : List Action) (at : ℕ) (why : Refusal) : Type 0 where
    pub earlier : List Action
    pub part : Action
    pub later : List Action
    pub split : parts ≡ earlier ++ part ∷ later
    pub reported : List PartReply
    pub mid : Office
    pub run : Run o (requests_of profile team name earlier) (map whole_reply reported) mid
    pub refused : Step profile mid team (command_of name part) (Refused why) mid
    pub there : at ≡ number + length earlier

  pub record HaveRun (o : Office) (parts : List Action) (reported : List PartReply) (n : Net) (e : Entries) : Type 0
    where
      pub named : n.name ≡ name
      pub run : Run o (requests_of profile team name parts) (map whole_reply reported) (after_all o n e)

  abbrev RunsTo : Office → ℕ → List Action → PartsOutcome → Type 0
  RunsTo o number parts (RefusedAt at r) = IsRefusedAt o number parts at r
  RunsTo o number parts (AllDone reported None e) = (net_named o name ≡ None) × (parts ≡ [])
  RunsTo o number parts (AllDone reported (Some n) e) = HaveRun o parts reported n e

  none_some : (Q : Type 0) (n : Net) → ◌≡◌ {A = Option Net} (Some n) None → Q
  none_some Q n e = absurd cc

  -- after the first part, the outcome of the others
  module _ (o : Office) (number : ℕ) (a : Action) (parts : List Action) (r : Reply) (n : Net) (e : Entries)
      (is : part_outcome o a ≡ Changing r n e)
      (part : whole_reply (part_reply r) ≡ r) (named : n.name ≡ name)
      (found : net_named (after_all o n e) name ≡ Some n) where
    first_step : Step profile o team (command_of name a) (whole_reply (part_reply r)) (after_all o n e)
    first_step = subst (λ s. Step profile o team (command_of name a) s (after_all o n e)) (sym part)
        (step_of o a (Changing r n e) is)

    joined : (out : PartsOutcome) → RunsTo (after_all o n e) (number + 1) parts out
        → RunsTo o number (a ∷ parts) (with_part r e out)
    joined (RefusedAt at why) h = record {
      earlier = a ∷ h.earlier;
      part = h.part;
      later = h.later;
      split = ap (λ rest. a ∷ rest) h.split;
      reported = part_reply r ∷ h.reported;
      mid = h.mid;
      run = (after_all o n e, first_step, h.run);
      refused = h.refused;
      there = (let w : at ≡ (number + 1) + length h.earlier = h.there in omega (arith, w));
    }
    joined (AllDone reported None f) h = none_some _ n (sym found ∙ h.0)
    joined (AllDone reported (Some m) f) h =
        let same : after_all (after_all o n e) m f ≡ after_all o m (both_entries e f) =
        ap (λ nets. record { nets = nets; book = entered (entered o.book e) f })
        (put_again by_name m n (λ z. ap (λ k. by_name (record m { name = k }) z) (h.named ∙ sym named))
        (equal_order m n (h.named ∙ sym named)) o.nets)
        ∙ ap (λ b. record { nets = put by_name m o.nets; book = b }) (sym (entered_both o.book e f)) in
        record {
          named = h.named;
          run = (
            after_all o n e,
            first_step,
            subst (Run (after_all o n e) (requests_of profile team name parts) (map whole_reply reported)) same h.run,
          );
        }

  joined_so : (o : Office) (number : ℕ) (a : Action) (parts : List Action) (out : Outcome) → AreInOrder o
      → part_outcome o a ≡ out → Leaves (λ r n e. IsLeft name (task.Act a) (net_named o name) r n) out
      → ((n : Net) (e : Entries) → AreInOrder (after_all o n e)
      → RunsTo (after_all o n e) (number + 1) parts
      (parts_done team name (number + 1) (net_named (after_all o n e) name) (entered o.book e) parts))
      → RunsTo o number (a ∷ parts)
      (part_then number out (λ n e. parts_done team name (number + 1) (Some n) (entered o.book e) parts))
  joined_so o number a parts (Refusing why) sorted is left later = record {
    earlier = [];
    part = a;
    later = parts;
    split = refl;
    reported = [];
    mid = o;
    run = refl;
    refused = step_of o a (Refusing why) is;
    there = omega arith;
  }
  joined_so o number a parts (Changing r n e) sorted is left later =
      let named : n.name ≡ name = left.named ∙ name_of_found name o.nets in
      let found : net_named (after_all o n e) name ≡ Some n =
      own_put name n o.nets sorted ((bytes_eq-Decides n.name name).1 named) in
      joined o number a parts r n e is left.part named found
      (parts_done team name (number + 1) (Some n) (entered o.book e) parts)
      (subst (λ net. RunsTo (after_all o n e) (number + 1) parts
      (parts_done team name (number + 1) net (entered o.book e) parts)) found
      (later n e (sorted_after o (Changing r n e) sorted)))

  runs_to : (parts : List Action) (o : Office) (number : ℕ) → AreInOrder o
      → RunsTo o number parts (parts_done team name number (net_named o name) o.book parts)
  runs_to [] o number sorted = nothing_run (net_named o name) refl
    where
      nothing_run : (net : Option Net) → net_named o name ≡ net
          → RunsTo o number [] (parts_done team name number net o.book [])
      nothing_run None is = (is, refl)
      nothing_run (Some n) is = record {
        named = sym (ap (λ net. name_of name net) is) ∙ name_of_found name o.nets;
        run = ap (λ nets. record { nets = nets; book = o.book }) (put_found name o.nets n sorted is);
      }
  runs_to (a ∷ parts) o number sorted =
      joined_so o number a parts (part_outcome o a) sorted refl (left_act team name o.book (net_named o name) a)
      (λ n e sorted_too. runs_to parts (after_all o n e) (number + 1) sorted_too)

-- The law.

refused_bundle : (r s : Refusal) → Refused r ≡ Refused s → r ≡ s
refused_bundle r s e = cc

module _ (profile : Profile) (team name : List ℕ) (parts : List Action) where
  answers_of : (out : PartsOutcome) (reply : Reply) → reply ≡ reply_of (bundle_outcome out)
      → ((reported : List PartReply) × (reply ≡ Bundle reported)) ⊎ ((refusal : Refusal) × (reply ≡ Refused refusal))
  answers_of (RefusedAt at why) reply is = inr (no.BundleRefused (refused_part at why), is)
  answers_of (AllDone reported None e) reply is = inr (no.NoNet, is)
  answers_of (AllDone reported (Some n) e) reply is = inl (reported, is)

  done_of : (o after : Office) (reported : List PartReply) (out : PartsOutcome) → RunsTo profile team name o 1 parts out
      → Bundle reported ≡ reply_of (bundle_outcome out)
      → after ≡ office_after o (bundle_outcome out)
      → Run o (requests_of profile team name parts) (map whole_reply reported) after
  done_of o after reported (RefusedAt at why) run is left = absurd cc
  done_of o after reported (AllDone given None e) run is left = absurd cc
  done_of o after reported (AllDone given (Some n) e) run is left =
      let same : given ≡ reported = cc in
      subst (λ rs. Run o (requests_of profile team name parts) (map whole_reply rs) after) same
      (subst (Run o (requests_of profile team name parts) (map whole_reply given)) (sym left) run.run)

  no_parts : (Q : Type 0) → AreParts parts → parts ≡ [] → Q
  no_parts Q some none = absurd (let h = some.some in let e : length parts ≡ 0 = ap length none in omega (arith, h, e))

  refused_of : (o after : Office) (r : Refusal) (out : PartsOutcome) → AreParts parts
      → RunsTo profile team name o 1 parts out → Refused r ≡ reply_of (bundle_outcome out)
      → after ≡ office_after o (bundle_outcome out) → (after ≡ o) × IsPartRefused profile o team name parts r
  refused_of o after r (RefusedAt at why) some run is left = (
    left,
    record {
      earlier = run.earlier;
      part = run.part;
      later = run.later;
      split = run.split;
      reported = run.reported;
      mid = run.mid;
      run = run.run;
      why = why;
      refused = run.refused;
      reports = refused_bundle r (no.BundleRefused (refused_part at why)) is
          ∙ ap (λ number. no.BundleRefused (refused_part number why))
          (let w = run.there in let e : at ≡ length run.earlier + 1 = omega (arith, w) in e);
    },
  )
  refused_of o after r (AllDone given None e) some run is left = no_parts _ some run.1
  refused_of o after r (AllDone given (Some n) e) some run is left = absurd cc

pub bundles_run_their_parts : BundlesRunTheirParts
bundles_run_their_parts = record {
  answers = λ profile before after team name parts reply step. answers_of profile team name parts
      (parts_done team name 1 (net_named before name) before.book parts) reply step.answered;
  done = λ profile before after team name parts reported sorted step.
      done_of profile team name parts before after reported
      (parts_done team name 1 (net_named before name) before.book parts)
      (runs_to profile team name parts before 1 sorted) step.answered step.left;
  refused = λ profile before after team name parts refusal sorted some step.
      refused_of profile team name parts before after refusal
      (parts_done team name 1 (net_named before name) before.book parts) some
      (runs_to profile team name parts before 1 sorted) step.answered step.left;
}
