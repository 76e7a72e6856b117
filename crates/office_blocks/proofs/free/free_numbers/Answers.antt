use Rattle.office_blocks.proofs.Common.{◌∙◌, ◌≤◌, ◌&&◌, ℕ, not, sym, arith, ap, has_form, is_taken}
use Rattle.office_blocks.proofs.Counting.{kept_further, passed_further}
use Rattle.office_blocks.proofs.free.free_numbers.Goals.{then-is_free+in_ok-push, else-is_free}
use Rattle.office_blocks.proofs.free.free_numbers.Goals as goal

pub loop-number-preserved : goal.loop-number-preserved
loop-number-preserved c =
    let taken = c.args.taken.now in
    let form = c.args.form in
    let first = c.args.block.first in
    let n = c.loop-number.number in
    let p = λ (n : ℕ). has_form form n && not (is_taken n taken) in
    let low : first ≤ n = omega (arith, ap (λ b. b.first) c.numbers-range.ensures) in
    elim c.if-is_free.branch [
      | then-is_free+in_ok-push w ↦
          kept_further p first n c.loop-number.numbers.items _ low (sym c.is_free.ensures ∙ w.if-is_free.true)
          c.loop-number.invariant (rw w.numbers-is w.in_ok-push.ensures.items)
      | else-is_free w ↦
          rw w.numbers-is
          (passed_further p first n c.loop-number.numbers.items low (sym c.is_free.ensures ∙ w.if-is_free.false)
          c.loop-number.invariant)
    ]
