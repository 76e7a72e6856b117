use Rattle.page_numbers.proofs.Common.{take, Becomes, adding}
use Rattle.page_numbers.specs.Left.{later_html}
use Rattle.page_numbers.proofs.left.put_later_runs.Given as goal

abbrev pub invariant-loop-run : goal.invariant-loop-run
invariant-loop-run l = Becomes l.page (adding (later_html l.width (take l.run-index l.later)) l.initial.page)
