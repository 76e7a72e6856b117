use Rattle.dbc_lint.proofs.Common.{◌≡◌, ◌++◌, drop}
use Rattle.dbc_lint.specs.Listing.{remark_rows}
use Rattle.dbc_lint.specs.Reached.{IsReached}
use Rattle.dbc_lint.proofs.listing.remark_rows.Given as goal

abbrev pub invariant-loop-remark : goal.invariant-loop-remark
invariant-loop-remark l = record {
  reached : IsReached l.text l.reached;
  reported : l.rows ++ remark_rows l.text l.names (drop l.remark-index l.remarks) ≡ remark_rows l.text l.names l.remarks;
}
