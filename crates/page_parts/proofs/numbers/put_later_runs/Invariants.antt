use Rattle.std.proofs.Common.{take}
use Rattle.markup.specs.Writing.{Becomes, adding}
use Rattle.page_parts.specs.Numbers.{later_runs}
use Rattle.page_parts.proofs.numbers.put_later_runs.Given as goal

abbrev pub invariant-loop-run : goal.invariant-loop-run
invariant-loop-run l = Becomes l.page (adding (later_runs (take l.run-index l.later)) l.initial.page)
