use Rattle.std.proofs.Common.{◌≡◌, ◌≤◌, take}
use Rattle.std.specs.Prelude.{count_by}
use Rattle.office_spns.specs.Spns.{same_use, use_of}
use Rattle.office_spns.proofs.spns.used_so.Given as goal

abbrev pub invariant-loop-number : goal.invariant-loop-number
invariant-loop-number l = record {
  counted : l.count ≡ count_by (λ n. same_use (use_of n l.view) l.wanted) (take l.number-index l.numbers);
  few : l.count ≤ l.number-index;
}
