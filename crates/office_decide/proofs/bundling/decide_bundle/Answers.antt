use Rattle.office_decide.proofs.Common.{◌≡◌, ◌∙◌, ◌+◌, ℕ, List, ◌∷◌, length, drop, Option, refl, sym, ap, subst, arith}
use Rattle.office_decide.proofs.Common.{option_copied, Action, Refusal, Bundle, Refused, NetAndBook}
use Rattle.std.proofs.Common.{◌<◌, get_or}
use Rattle.std.proofs.lemmas.List.{drop_all, drop_more}
use Rattle.office_types.specs.Refusal.{refusal_number}
use Rattle.office_types.specs.declared.refusal.Refusal.TheVariants as no
use Rattle.office_decide.specs.Bundled.{IsPartDecided}
use Rattle.office_decide.proofs.BundleDecided.{IsProgress, begins, ends, next_added, next_refused}
use Rattle.office_decide.proofs.bundling.decide_bundle.Goals as goal

pub loop-part-init : goal.loop-part-init
loop-part-init c =
    let before : NetAndBook = record { net = option_copied c.args.net; book = c.args.book.now } in (
      refl,
      begins c.args.team.now c.args.name.now before c.args.parts.now
          (record { draft = c.in_ok-draft_of.field-0; changes = c.new.result; replies = c.new-2.result })
          c.in_ok-draft_of.ensures c.new.ensures c.new-2.ensures,
    )

pub overflow_add-part_number : goal.overflow_add-part_number
overflow_add-part_number c =
    let i = c.loop-part.invariant.0 in
    let lt = c.loop-part-test.true in
    let few = c.as_slice-part-items.ensures.parts.few in
    let same : length c.as_slice-part-items.result.now ≡ length c.args.parts.now =
    ap length c.as_slice-part-items.ensures.things in
    omega (arith, i, lt, few, same)

-- the part is the next one
next_is : (items parts : List Action) (i : ℕ) (a : Action) → items ≡ parts → i < length items → a ≡ get_or items i a
    → drop i parts ≡ a ∷ drop (i + 1) parts
next_is items parts i a same lt is =
    ap (drop i) (sym same) ∙ drop_more items i a lt ∙ ap (λ (b : Action). b ∷ drop (i + 1) items) (sym is)
    ∙ ap (λ (xs : List Action). a ∷ drop (i + 1) xs) same

pub returns-in-Some : goal.returns-in-Some
returns-in-Some c =
    let before : NetAndBook = record { net = option_copied c.args.net; book = c.args.book.now } in
    let i = c.loop-part.part-index in
    let r = c.in-Some.refusal in
    let reported = c.refusal_decision-decision.ensures.reply in
    next_refused c.args.team.now c.args.name.now before c.args.parts.now i c.part-item.result c.loop-part.progress
    c.add_part.new.progress
    (next_is c.as_slice-part-items.result.now c.args.parts.now i c.part-item.result c.as_slice-part-items.ensures.things
    c.loop-part-test.true c.part-item.is)
    c.loop-part.invariant.1 r
    (subst (λ (o : Option Refusal). IsPartDecided c.args.team.now c.args.name.now c.part-item.result
    c.loop-part.progress c.add_part.new.progress o) c.in-Some.is c.in_ok-refusal.ensures)
    c.refusal_decision-decision.result c.refusal_decision-decision.ensures.changes
    (reported
    ∙ ap (λ (n : ℕ). Refused (no.BundleRefused (record { fault = n; at = c.loop-part.part_number + 1 })))
    c.number.ensures
    ∙ ap (λ (k : ℕ). Refused (no.BundleRefused (record { fault = refusal_number r; at = k + 1 })))
    c.loop-part.invariant.0)

pub loop-part-preserved : goal.loop-part-preserved
loop-part-preserved c =
    let before : NetAndBook = record { net = option_copied c.args.net; book = c.args.book.now } in
    let i = c.loop-part.part-index in (
      ap (λ (k : ℕ). k + 1) c.loop-part.invariant.0,
      next_added c.args.team.now c.args.name.now before c.args.parts.now i c.part-item.result c.loop-part.progress
          c.add_part.new.progress
          (next_is c.as_slice-part-items.result.now c.args.parts.now i c.part-item.result
          c.as_slice-part-items.ensures.things c.loop-part-test.true c.part-item.is)
          c.loop-part.invariant.1
          (subst (λ (o : Option Refusal). IsPartDecided c.args.team.now c.args.name.now c.part-item.result
          c.loop-part.progress c.add_part.new.progress o) c.in_default.is c.in_ok-refusal.ensures),
    )

pub from_items-requires : goal.from_items-requires
from_items-requires c =
    let inv = c.loop-part.invariant.1.count in
    let replies : length c.into_parts-changes.result.1 ≡ length c.loop-part.progress.replies =
    ap length c.into_parts-changes.ensures.1 in
    let past = c.loop-part-test.false in
    let end = c.loop-part.auto.part-index-end in
    let some = c.as_slice-part-items.ensures.parts.some in
    let few = c.as_slice-part-items.ensures.parts.few in
    let same : length c.as_slice-part-items.result.now ≡ length c.args.parts.now =
    ap length c.as_slice-part-items.ensures.things in
    record {
      some = omega (arith, inv, replies, past, end, some, same);
      few =
          omega (arith, inv, replies, past, end, few, same);
    }

pub returns : goal.returns
returns c =
    let before : NetAndBook = record { net = option_copied c.args.net; book = c.args.book.now } in
    let parts = c.args.parts.now in
    let past = c.loop-part-test.false in
    let end = c.loop-part.auto.part-index-end in
    let same : length c.as_slice-part-items.result.now ≡ length c.args.parts.now =
    ap length c.as_slice-part-items.ensures.things in
    let all : c.loop-part.part-index ≡ length parts = omega (arith, past, end, same) in
    ends c.args.team.now c.args.name.now before parts c.loop-part.progress
    (record { changes = c.into_parts-changes.result.0; reply = Bundle c.from_items.result })
    c.as_slice-part-items.ensures.parts
    (subst (λ (k : ℕ). IsProgress c.args.team.now c.args.name.now before parts k c.loop-part.progress) all
    c.loop-part.invariant.1)
    (drop_all (length parts) parts (omega arith))
    c.into_parts-changes.ensures.0 (ap Bundle (c.from_items.ensures ∙ c.into_parts-changes.ensures.1))
