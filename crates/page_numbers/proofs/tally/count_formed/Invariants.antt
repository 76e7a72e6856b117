use Rattle.page_numbers.proofs.Common.{◌≡◌, ◌≤◌, take, count_by, has_form}
use Rattle.page_numbers.proofs.tally.count_formed.Given as goal

abbrev pub invariant-loop-number : goal.invariant-loop-number
invariant-loop-number l = record {
  counted : l.count ≡ count_by (has_form l.form) (take l.number-index l.numbers);
  few : l.count ≤ l.number-index;
}
