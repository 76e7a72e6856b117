use Rattle.page_changes.proofs.Common.{flat_map, range_with_len, Becomes, adding}
use Rattle.page_changes.specs.Releases.{row_back}
use Rattle.page_changes.proofs.releases.put_rows.Given as goal

abbrev pub invariant-loop-back : goal.invariant-loop-back
invariant-loop-back l =
    Becomes l.page (adding (flat_map (row_back l.releases) (range_with_len 0 l.back)) l.initial.page)
