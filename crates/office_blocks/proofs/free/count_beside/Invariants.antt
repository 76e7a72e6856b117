use Rattle.office_blocks.proofs.Common.{◌≡◌, ◌≤◌, not, take, count_by, is_taken}
use Rattle.office_blocks.proofs.free.count_beside.Given as goal

abbrev pub invariant-loop-number : goal.invariant-loop-number
invariant-loop-number l = record {
  counted : l.count ≡ count_by (λ n. not (is_taken n l.others)) (take l.number-index l.numbers);
  few : l.count ≤ l.number-index;
}
