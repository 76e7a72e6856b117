use Rattle.page_numbers.proofs.Common.{◌≡◌, ◌≤◌, ◌*◌, ◌^◌, filter, map, sum, take}
use Rattle.page_numbers.specs.Tally.{is_of, held_at}
use Rattle.page_numbers.proofs.tally.held_total.Given as goal

abbrev pub invariant-loop-granted : goal.invariant-loop-granted
invariant-loop-granted l = record {
  counted : l.count ≡ sum (map (held_at l.numbers.live l.numbers.taken l.form) (filter (is_of l.team l.form)
      (take l.granted-index l.blocks)));
  few : l.count ≤ l.granted-index * 2 ^ 33;
}
