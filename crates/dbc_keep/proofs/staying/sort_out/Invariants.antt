use Rattle.dbc_keep.proofs.Common.{◌≡◌, take}
use Rattle.dbc_keep.specs.Staying.{left_out, staying}
use Rattle.dbc_keep.proofs.staying.sort_out.Given as goal

abbrev pub invariant-loop-one : goal.invariant-loop-one
invariant-loop-one l = record {
  stay : l.stay.items ≡ staying l.sheet l.source (take l.one-index l.passed);
  others : l.others.items ≡ left_out l.sheet l.source (take l.one-index l.passed);
}
