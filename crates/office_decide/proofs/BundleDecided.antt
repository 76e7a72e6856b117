-- A bundle is decided part by part.
use Rattle.office_decide.proofs.Common.{◌≡◌, ◌∙◌, ◌+◌, ℕ, List, [], ◌∷◌, ◌++◌, length, drop, Option, Some, None, refl}
use Rattle.office_decide.proofs.Common.{sym, ap, subst, arith, SpnBook, Decision, Action, Refusal, Bundle, Refused, Net}
use Rattle.office_decide.proofs.Common.{bundle_outcome, AllFit, Decides, NetAndBook, all_applied, acted, parts_done}
use Rattle.office_decide.proofs.Common.{Outcome}
use Rattle.std.proofs.Common.{◌⊎◌, append-nil, inl, inr}
use Rattle.std.proofs.lemmas.List.{append_assoc, length-append}
use Rattle.office_types.specs.Parts.{AreParts}
use Rattle.office_types.specs.Reply.{part_reply}
use Rattle.office_types.specs.declared.change.Change.{Change}
use Rattle.office_types.specs.declared.change.Change.TheVariants.{SetHead, SetBlock}
use Rattle.office_types.specs.declared.command.Task.TheVariants as task
use Rattle.office_types.specs.declared.refusal.Refusal.TheVariants as no
use Rattle.office_types.specs.declared.reply.PartReply.{PartReply}
use Rattle.office_types.specs.declared.reply.Reply.{Reply}
use Rattle.office_rules.specs.Bundling.{PartsOutcome, RefusedAt, AllDone, both_entries, part_then, refused_part}
use Rattle.office_rules.specs.Bundling.{with_part}
use Rattle.office_rules.specs.Change.{HaveOwnBlocks, IsHeadFirst, applied}
use Rattle.office_rules.specs.Outcome.{Entries, Refusing, Changing, entered, no_entries}
use Rattle.office_law.proofs.EachLeavesNameAndReleases.{left_act}
use Rattle.office_law.proofs.NameAndReleasesStay.{IsAnswer, IsLeft}
use Rattle.office_law.proofs.Parts.{entered_both}
use Rattle.office_law.proofs.NoTestHolds.{Leaves}
use Rattle.office_decide.specs.Bundled.{IsPartAdded, IsPartDecided, refusal_in}
use Rattle.office_decide.specs.declared.bundling.Progress.{Progress}

-- ---- changes, and then further ones

applied_more : (name : List ℕ) (cs ds : List Change) (e : NetAndBook)
    → all_applied name (cs ++ ds) e ≡ all_applied name ds (all_applied name cs e)
applied_more name [] ds e = refl
applied_more name (c ∷ cs) ds e = applied_more name cs ds (applied name c e)

head_first_more : (name : List ℕ) (net : Option Net) (book : SpnBook) (cs ds : List Change) → IsHeadFirst net cs
    → IsHeadFirst (all_applied name cs (record { net = net; book = book })).net ds → IsHeadFirst net (cs ++ ds)
head_first_more name (Some n) book cs ds h k = tt
head_first_more name None book [] ds h k = k
head_first_more name None book (SetHead h ∷ cs) ds first k = tt
head_first_more name None book (c ∷ cs) ds h k = absurd h

own_more : (cs ds : List Change) → HaveOwnBlocks cs → HaveOwnBlocks ds → HaveOwnBlocks (cs ++ ds)
own_more [] ds h k = k
own_more (SetBlock g ∷ cs) ds h k = (h.0, own_more cs ds h.1 k)
own_more (c ∷ cs) ds h k = own_more cs ds h k

fit_more : (name : List ℕ) (cs ds : List Change) (e : NetAndBook) → AllFit name cs e
    → AllFit name ds (all_applied name cs e) → AllFit name (cs ++ ds) e
fit_more name [] ds e h k = k
fit_more name (c ∷ cs) ds e h k = (h.0, fit_more name cs ds (applied name c e) h.1 k)

no_head : (net : Option Net) → IsHeadFirst net []
no_head None = tt
no_head (Some n) = tt

-- a refusal changes nothing
pub refused_decides : (name : List ℕ) (before : NetAndBook) (r : Refusal) (d : Decision) → d.changes ≡ []
    → d.reply ≡ Refused r → Decides name before (Refusing r) d
refused_decides name before r d none is = record {
  reply = is;
  changes = ap (λ cs. all_applied name cs before) none;
  quiet = none;
  head_first = subst (IsHeadFirst before.net) (sym none) (no_head before.net);
  own_blocks = subst HaveOwnBlocks (sym none) tt;
  fit = subst (λ cs. AllFit name cs before) (sym none) tt;
}

-- ---- the parts so far

-- these replies and entries come before those of the others
abbrev pub after_parts : List PartReply → Entries → PartsOutcome → PartsOutcome
after_parts replies e (RefusedAt at r) = RefusedAt at r
after_parts replies e (AllDone others net f) = AllDone (replies ++ others) net (both_entries e f)

after_none : (out : PartsOutcome) → out ≡ after_parts [] no_entries out
after_none (RefusedAt at r) = refl
after_none (AllDone others net f) = refl

both_assoc : (d e f : Entries) → both_entries d (both_entries e f) ≡ both_entries (both_entries d e) f
both_assoc d e f =
    ap (λ blocks. record { blocks = blocks; numbers = d.numbers ++ (e.numbers ++ f.numbers) })
    (sym (append_assoc d.blocks e.blocks f.blocks))
    ∙ ap (λ numbers. record { blocks = (d.blocks ++ e.blocks) ++ f.blocks; numbers = numbers })
    (sym (append_assoc d.numbers e.numbers f.numbers))

both_none : (e : Entries) → both_entries e no_entries ≡ e
both_none e =
    ap (λ blocks. record { blocks = blocks; numbers = e.numbers ++ [] }) (append-nil e.blocks)
    ∙ ap (λ numbers. record { blocks = e.blocks; numbers = numbers }) (append-nil e.numbers)

after_more : (replies : List PartReply) (d : Entries) (r : Reply) (e : Entries) (out : PartsOutcome)
    → after_parts replies d (with_part r e out) ≡ after_parts (replies ++ part_reply r ∷ []) (both_entries d e) out
after_more replies d r e (RefusedAt at q) = refl
after_more replies d r e (AllDone others net f) =
    ap (λ rs. AllDone rs net (both_entries d (both_entries e f)))
    (sym (append_assoc replies (part_reply r ∷ []) others))
    ∙ ap (λ b. AllDone ((replies ++ part_reply r ∷ []) ++ others) net b) (both_assoc d e f)

module _ (team name : List ℕ) (before : NetAndBook) (parts : List Action) where
  abbrev whole : PartsOutcome
  whole = parts_done team name 1 before.net before.book parts

  abbrev rest_of : ℕ → Progress → PartsOutcome
  rest_of i p = parts_done team name (i + 1) p.draft.net p.draft.book (drop i parts)

  -- This many of the parts were carried out, and none was refused.
  pub record IsProgress (i : ℕ) (p : Progress) : Type 0 where
    pub left : p.draft ≡ all_applied name p.changes before
    pub head_first : IsHeadFirst before.net p.changes
    pub own_blocks : HaveOwnBlocks p.changes
    pub fit : AllFit name p.changes before
    pub count : length p.replies ≡ i
    pub there : (i ≡ 0) ⊎ ((n : Net) × (p.draft.net ≡ Some n))
    pub entries : Entries
    pub book : p.draft.book ≡ entered before.book entries
    pub goes_on : whole ≡ after_parts p.replies entries (rest_of i p)

  pub begins : (p : Progress) → p.draft ≡ before → p.changes ≡ [] → p.replies ≡ [] → IsProgress 0 p
  begins p draft changes replies = record {
    left = draft ∙ ap (λ cs. all_applied name cs before) (sym changes);
    head_first = subst (IsHeadFirst before.net) (sym changes) (no_head before.net);
    own_blocks = subst HaveOwnBlocks (sym changes) tt;
    fit = subst (λ cs. AllFit name cs before) (sym changes) tt;
    count = ap length replies;
    there = inl refl;
    entries = no_entries;
    book = ap (λ (d : NetAndBook). d.book) draft;
    goes_on = after_none whole
        ∙ ap (λ (d : NetAndBook). after_parts [] no_entries (parts_done team name 1 d.net d.book parts)) (sym draft)
        ∙ ap (λ rs. after_parts rs no_entries (rest_of 0 p)) (sym replies);
  }

  -- The next part.
  module _ (i : ℕ) (a : Action) (p q : Progress) (is : drop i parts ≡ a ∷ drop (i + 1) parts) (h : IsProgress i p) where
    abbrev next : Outcome
    next = acted team name p.draft.net p.draft.book a

    abbrev others : Net → Entries → PartsOutcome
    others n e = parts_done team name (i + 1 + 1) (Some n) (entered p.draft.book e) (drop (i + 1) parts)

    goes_by : whole ≡ after_parts p.replies h.entries (part_then (i + 1) next others)
    goes_by = h.goes_on ∙ ap
        (λ later. after_parts p.replies h.entries (parts_done team name (i + 1) p.draft.net p.draft.book later)) is

    refused_none : (Q : Type 0) (r : Refusal) → ◌≡◌ {A = Option Refusal} None (Some r) → Q
    refused_none Q r e = absurd cc

    added : (d : Decision) (out : Outcome) → next ≡ out → Decides name p.draft out d → None ≡ refusal_in d.reply
        → IsPartAdded name d p q → IsProgress (i + 1) q
    added d (Refusing r) out decides none add = refused_none _ r (none ∙ ap refusal_in decides.reply)
    added d (Changing r n e) out decides none add =
        let left : q.draft ≡ record { net = Some n; book = entered p.draft.book e } = add.draft ∙ decides.changes in
        record {
          left = add.draft ∙ ap (all_applied name d.changes) h.left ∙ sym (applied_more name p.changes d.changes before)
              ∙ ap (λ cs. all_applied name cs before) (sym add.changes);
          head_first = subst (IsHeadFirst before.net) (sym add.changes)
              (head_first_more name before.net before.book p.changes d.changes h.head_first
              (subst (λ (v : NetAndBook). IsHeadFirst v.net d.changes) h.left decides.head_first));
          own_blocks = subst HaveOwnBlocks (sym add.changes)
              (own_more p.changes d.changes h.own_blocks decides.own_blocks);
          fit = subst (λ cs. AllFit name cs before) (sym add.changes)
              (fit_more name p.changes d.changes before h.fit (subst (AllFit name d.changes) h.left decides.fit));
          count = ap length add.replies ∙ length-append p.replies (part_reply d.reply ∷ []) ∙ ap (λ k. k + 1) h.count;
          there = inr (n, ap (λ (v : NetAndBook). v.net) left);
          entries = both_entries h.entries e;
          book = ap (λ (v : NetAndBook). v.book) left ∙ ap (λ b. entered b e) h.book
              ∙ sym (entered_both before.book h.entries e);
          goes_on = goes_by
              ∙ ap (λ o. after_parts p.replies h.entries (part_then (i + 1) o others)) out
              ∙ after_more p.replies h.entries r e (others n e)
              ∙ ap (λ s. after_parts (p.replies ++ part_reply s ∷ []) (both_entries h.entries e) (others n e))
              (sym decides.reply)
              ∙ ap (λ rs. after_parts rs (both_entries h.entries e) (others n e)) (sym add.replies)
              ∙ ap (λ (v : NetAndBook). after_parts q.replies (both_entries h.entries e)
              (parts_done team name (i + 1 + 1) v.net v.book (drop (i + 1) parts))) (sym left);
        }

    pub next_added : IsPartDecided team name a p q None → IsProgress (i + 1) q
    next_added k = added k.decision next refl k.decides k.refusal (k.added refl)

    is_refused : (r : Refusal) (s : Reply) → Some r ≡ refusal_in s → s ≡ Refused r
    is_refused r (Refused q) e = ap Refused (let same : q ≡ r = cc in same)
    is_refused r s e = absurd cc

    refused_by : (d : Decision) (r : Refusal) (out : Outcome) → next ≡ out
        → Leaves (λ s n e. IsLeft name (task.Act a) p.draft.net s n) out → Decides name p.draft out d
        → Some r ≡ refusal_in d.reply → whole ≡ RefusedAt (i + 1) r
    refused_by d r (Refusing q) out left decides reported =
        goes_by ∙ ap (λ o. after_parts p.replies h.entries (part_then (i + 1) o others)) out
        ∙ ap (RefusedAt (i + 1)) (let same : Some q ≡ Some r = sym (reported ∙ ap refusal_in decides.reply) in
        let one : q ≡ r = cc in one)
    refused_by d r (Changing s n e) out left decides reported =
        absurd (subst IsAnswer (sym decides.reply ∙ is_refused r d.reply reported) left.answer)

    -- the bundle is refused where the part is
    pub next_refused : (r : Refusal) → IsPartDecided team name a p q (Some r) → (d : Decision) → d.changes ≡ []
        → d.reply ≡ Refused (no.BundleRefused (refused_part (i + 1) r))
        → Decides name before (bundle_outcome whole) d
    next_refused r k d none is =
        subst (λ out. Decides name before (bundle_outcome out) d)
        (sym (refused_by k.decision r next refl (left_act team name p.draft.book p.draft.net a) k.decides k.refusal))
        (refused_decides name before (no.BundleRefused (refused_part (i + 1) r)) d none is)

  -- After all of them.

  all_done : (p : Progress) (n : Net) (e : Entries) (d : Decision) → whole ≡ AllDone p.replies (Some n) e
      → p.draft.net ≡ Some n → p.draft.book ≡ entered before.book e
      → p.draft ≡ all_applied name p.changes before → IsHeadFirst before.net p.changes → HaveOwnBlocks p.changes
      → AllFit name p.changes before
      → d.changes ≡ p.changes → d.reply ≡ Bundle p.replies → Decides name before (bundle_outcome whole) d
  all_done p n e d out net book left head own fit changes reply =
      subst (λ out. Decides name before (bundle_outcome out) d) (sym out) (record {
        reply = reply;
        changes = ap (λ cs. all_applied name cs before) changes ∙ sym left
            ∙ ap (λ m. record { net = m; book = p.draft.book }) net ∙ ap (λ b. record { net = Some n; book = b }) book;
        quiet = tt;
        head_first = subst (IsHeadFirst before.net) (sym changes) head;
        own_blocks = subst HaveOwnBlocks (sym changes) own;
        fit = subst (λ cs. AllFit name cs before) (sym changes) fit;
      })

  pub ends : (p : Progress) (d : Decision) → AreParts parts → IsProgress (length parts) p
      → drop (length parts) parts ≡ [] → d.changes ≡ p.changes → d.reply ≡ Bundle p.replies
      → Decides name before (bundle_outcome whole) d
  ends p d some h none changes reply = by_there h.there
    where
      out : whole ≡ AllDone p.replies p.draft.net h.entries
      out = h.goes_on ∙ ap (λ later. after_parts p.replies h.entries
          (parts_done team name (length parts + 1) p.draft.net p.draft.book later)) none
          ∙ ap (λ rs. AllDone rs p.draft.net (both_entries h.entries no_entries)) (append-nil p.replies)
          ∙ ap (AllDone p.replies p.draft.net) (both_none h.entries)

      by_there : (length parts ≡ 0) ⊎ ((n : Net) × (p.draft.net ≡ Some n))
          → Decides name before (bundle_outcome whole) d
      by_there (inl zero_parts) = absurd (let least = some.some in omega (arith, least, zero_parts))
      by_there (inr found) = all_done p found.0 h.entries d (out ∙ ap (λ m. AllDone p.replies m h.entries) found.1)
          found.1 h.book h.left h.head_first h.own_blocks h.fit changes reply
