use Rattle.page_messages.proofs.Common.{◌≡◌, ◌+◌, ◌-◌, ◌++◌, ◌∙◌, Bool, ℕ, [], ◌∷◌, List, cond, filter, map, ap, sym}
use Rattle.page_messages.proofs.Common.{append-nil, append_assoc, arith, range_with_len}
use Rattle.std.proofs.lemmas.List.FromFn.{filter_of_map_range_with_len_more}
use Rattle.page_messages.specs.Bits.{bit_at, is_held}
use Rattle.page_messages.specs.declared.bits.Held.{Held}
use Rattle.page_messages.proofs.bits.add_between.Goals as goal
use Rattle.page_messages.proofs.bits.add_between.Goals.{then-is_held+in_ok-push, else-is_held}

pub loop-place-preserved : goal.loop-place-preserved
loop-place-preserved c =
    let start = c.args.held.now.items in
    let f = bit_at c.args.by in
    let first = c.args.first in
    let place = c.loop-place.place in
    let n : ℕ = place - first in
    let here : first + n ≡ place = omega (arith, c.loop-place.auto.place) in
    let next : place + 1 - first ≡ n + 1 = omega (arith, c.loop-place.auto.place) in
    let before = filter is_held (map f (range_with_len first n)) in
    let after : Bool → List Held = λ b. start ++ (before ++ cond b (f place ∷ []) []) in
    let more : start ++ filter is_held (map f (range_with_len first (place + 1 - first))) ≡ after (is_held (f place)) =
    ap (λ k. start ++ filter is_held (map f (range_with_len first k))) next
    ∙ ap (λ bits. start ++ bits) (filter_of_map_range_with_len_more is_held f first n place here) in
    let is = c.bit_at-bit.ensures in
    let held = sym (ap is_held is) ∙ sym c.is_held.ensures in
    elim c.if-is_held.branch [
      | then-is_held+in_ok-push w ↦ rw w.held-is (w.in_ok-push.ensures.items
          ∙ ap (λ bits. bits ++ c.bit_at-bit.result ∷ []) c.loop-place.invariant
          ∙ append_assoc start before (c.bit_at-bit.result ∷ []) ∙ ap (λ bit. start ++ (before ++ bit ∷ [])) is
          ∙ sym (more ∙ ap after (held ∙ w.if-is_held.true)))
      | else-is_held w ↦ rw w.held-is (c.loop-place.invariant ∙ ap (λ bits. start ++ bits) (sym (append-nil before))
          ∙ sym (more ∙ ap after (held ∙ w.if-is_held.false)))
    ]

pub returns : goal.returns
returns c =
    let first = c.args.first in
    let last : c.loop-place.place - first ≡ c.args.end - first =
    omega (arith, c.loop-place.auto.place, c.loop-place.auto.place-end, c.loop-place-test.false) in
    c.loop-place.invariant
    ∙ ap (λ n. c.args.held.now.items ++ filter is_held (map (bit_at c.args.by) (range_with_len first n))) last
