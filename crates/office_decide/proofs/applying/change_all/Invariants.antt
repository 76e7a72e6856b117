use Rattle.office_decide.proofs.Common.{◌≡◌, AllFit, all_applied}
use Rattle.std.specs.Vec.Iter.{into_iter_items}
use Rattle.office_decide.proofs.applying.change_all.Given as goal

abbrev pub invariant-loop-change : goal.invariant-loop-change
invariant-loop-change l = record {
  goes_on : all_applied l.name (into_iter_items l.change-iterator) l.draft ≡ all_applied l.name l.fn.changes l.fn.draft;
  fit : AllFit l.name (into_iter_items l.change-iterator) l.draft;
}
