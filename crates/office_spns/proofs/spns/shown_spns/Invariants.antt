use Rattle.std.proofs.Common.{◌≡◌, take}
use Rattle.std.specs.Prelude.{filter}
use Rattle.office_spns.specs.Spns.{is_shown}
use Rattle.office_spns.proofs.spns.shown_spns.Given as goal

abbrev pub invariant-loop-number : goal.invariant-loop-number
invariant-loop-number l = l.numbers.items ≡ filter (is_shown l.view) (take l.number-index l.number-items)
