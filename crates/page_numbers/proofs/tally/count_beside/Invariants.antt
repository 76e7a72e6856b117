use Rattle.page_numbers.proofs.Common.{◌≡◌, ◌≤◌, take, count_by}
use Rattle.page_numbers.specs.Tally.{is_beside}
use Rattle.page_numbers.proofs.tally.count_beside.Given as goal

abbrev pub invariant-loop-number : goal.invariant-loop-number
invariant-loop-number l = record {
  counted : l.count ≡ count_by (is_beside l.live l.form) (take l.number-index l.numbers);
  few : l.count ≤ l.number-index;
}
