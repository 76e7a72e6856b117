use Rattle.dbc_read.proofs.Common.{◌≡◌, ◌≤◌, take, AreNamedApart}
use Rattle.dbc_read.proofs.first_fault.few_names_fault.Given as goal

abbrev pub invariant-loop-item : goal.invariant-loop-item
invariant-loop-item g l =
    record {
      index : l.before ≡ l.item-index;
      few : l.before ≤ l.limit;
      apart : AreNamedApart g.T.NamedItem.name_of (take l.item-index l.items);
    }
