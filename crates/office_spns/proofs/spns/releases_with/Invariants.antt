use Rattle.std.proofs.Common.{◌≡◌, ◌+◌, ◌++◌, drop}
use Rattle.office_seen.specs.Since.{numbered_where}
use Rattle.office_spns.specs.Spns.{has_spn}
use Rattle.office_spns.proofs.spns.releases_with.Given as goal

-- those so far, and those among the releases that are left
abbrev pub invariant-loop-index : goal.invariant-loop-index
invariant-loop-index l = record {
  next : l.release ≡ l.index-index + 1;
  found : numbered_where (has_spn l.number) 1 l.index-items
      ≡ l.numbers.items ++ numbered_where (has_spn l.number) l.release (drop l.index-index l.index-items);
}
