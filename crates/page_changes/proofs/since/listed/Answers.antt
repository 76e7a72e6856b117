use Rattle.page_changes.proofs.Common.{arith, sym}
use Rattle.std.proofs.lemmas.List.{length-take-le, take_all}
use Rattle.page_changes.specs.declared.since.TheConstants.{LISTED}
use Rattle.page_changes.proofs.since.listed.Goals as goal

pub slice_bounds-result-end : goal.slice_bounds-result-end
slice_bounds-result-end c = sym (length-take-le 200 c.args.messages.now (omega (arith, c.if-messages-le-LISTED.false)))

pub returns-then-messages-le-LISTED : goal.returns-then-messages-le-LISTED
returns-then-messages-le-LISTED c = sym (take_all LISTED c.args.messages.now c.if-messages-le-LISTED.true)
