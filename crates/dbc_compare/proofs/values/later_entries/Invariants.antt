use Rattle.dbc_compare.proofs.Common.{◌≡◌, take}
use Rattle.dbc_compare.specs.Value.{later_entries}
use Rattle.dbc_compare.proofs.values.later_entries.Given as goal

abbrev pub invariant-loop-entry : goal.invariant-loop-entry
invariant-loop-entry l = l.text.items ≡ later_entries (take l.entry-index l.entries)
