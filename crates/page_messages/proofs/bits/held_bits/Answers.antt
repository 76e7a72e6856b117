use Rattle.page_messages.proofs.Common.{◌≡◌, ◌*◌, ◌<◌, ◌∙◌, All, ap, subst, List, ℕ, rules, flat_map, take_all}
use Rattle.std.specs.List.Sorted.{IsPermutation}
use Rattle.std.proofs.lemmas.List.Elements.{All-more}
use Rattle.std.proofs.lemmas.List.Sorted.{All-permutation, IsNonDecreasingBy-from_sort_by_key, answers_always}
use Rattle.std.proofs.lemmas.List.Sorted.{length_permutation}
use Rattle.page_messages.specs.Bits.{held_of}
use Rattle.page_messages.specs.Layouts.{bits_at, place_of}
use Rattle.page_messages.specs.declared.bits.Held.{Held}
use Rattle.page_messages.specs.declared.shown.Shown.{Shown}
use Rattle.page_messages.proofs.Holders.{IsSmall, held_more, kept, of_all, of_signals}
use Rattle.page_messages.proofs.bits.held_bits.Goals as goal

pub returns-clause-each : goal.returns-clause-each
returns-clause-each c =
    let signals = c.args.signals.now in
    let sorted = c.sort_by_key.new.self.items in
    let all = take_all c.loop-by.by-index signals c.loop-by-test.false in
    let full : c.loop-by.held.items ≡ flat_map (held_of (8 * c.from-end.result)) signals =
    c.loop-by.invariant.items ∙ ap (flat_map (held_of (8 * c.from-end.result))) all in
    let P : List Held → Type 0 = λ held. IsPermutation held sorted in
    subst (λ (n : ℕ). P (flat_map (held_of (8 * n)) signals)) c.from-end.ensures
    (subst P full c.in_ok-sort_by_key.ensures.permutation)

pub returns-clause-held : goal.returns-clause-held
returns-clause-held c =
    let signals = c.args.signals.now in
    let n = c.args.length in
    let sorted = c.sort_by_key.new.self.items in
    let all = take_all c.loop-by.by-index signals c.loop-by-test.false in
    let full : c.loop-by.held.items ≡ flat_map (held_of (8 * n)) signals =
    c.loop-by.invariant.items ∙ ap (flat_map (held_of (8 * c.from-end.result))) all
    ∙ ap (λ k. flat_map (held_of (8 * k)) signals) c.from-end.ensures in
    let few : All IsSmall signals = subst (λ (v : List Shown). All IsSmall v) all c.loop-by.invariant.few in
    record {
      order = record {
        rising = IsNonDecreasingBy-from_sort_by_key place_of _ c.in_ok-sort_by_key.ensures.sorted
            (λ a r q k. search rules);
        within = All-permutation (λ (bit : Held). bit.place < 8 * n) _ sorted (returns-clause-each c)
            (of_all (8 * n) signals);
      };
      each = λ place below. kept place c.loop-by.held.items sorted
          (c.sort_by_key.ensures.stable place_of (answers_always _ _ _ (λ f a r q k. search rules)))
          (length_permutation _ _ c.sort_by_key.ensures.permutation)
          ∙ ap (λ v. bits_at v place) full ∙ of_signals (8 * n) place signals below few;
    }

pub loop-by-preserved : goal.loop-by-preserved
loop-by-preserved c =
    let signals = c.args.signals.now in
    let i = c.loop-by.by-index in
    let by = c.by-item.result in
    record {
      items = held_more (held_of (8 * c.from-end.result)) signals i by c.loop-by.held.items _ c.loop-by-test.true c.by-item.is
          c.loop-by.invariant.items c.in_ok-add_held.ensures.held;
      few = All-more IsSmall signals i by c.loop-by-test.true c.loop-by.invariant.few
          (subst IsSmall c.by-item.is c.add_held.ensures.few);
    }
