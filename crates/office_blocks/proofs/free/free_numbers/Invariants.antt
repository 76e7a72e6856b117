use Rattle.office_blocks.proofs.Common.{◌≡◌, ◌-◌, ◌&&◌, not, filter, range_with_len, has_form, is_taken}
use Rattle.office_blocks.proofs.free.free_numbers.Given as goal

-- those of the numbers so far
abbrev pub invariant-loop-number : goal.invariant-loop-number
invariant-loop-number l = l.numbers.items
    ≡ filter (λ n. has_form l.form n && not (is_taken n l.taken))
    (range_with_len l.fn.block.first (l.number - l.fn.block.first))
