use Rattle.dbc_read.proofs.Common.{IfOk-weaker}
use Rattle.dbc_read.proofs.Apart.{all_apart}
use Rattle.dbc_read.proofs.Building.{have_nothing}
use Rattle.dbc_read.proofs.late.gather_again.Goals as goal

pub returns-in_ok-attach_nothing-in-Some-clause-ok : goal.returns-in_ok-attach_nothing-in-Some-clause-ok
returns-in_ok-attach_nothing-in-Some-clause-ok c =
    IfOk-weaker c.settle_others.result _ _ (λ all done yes.
    all_apart c.in-Some.finders c.args.nodes.now c.args.lines.now c.settle_others.new.lines c.args.statements.now.tokens
    c.args.gathered.now c.attach_nothing.new.gathered c.settle_others.new.gathered
    (rw c.in-Some.is at c.in_ok-finders.ensures.all) (have_nothing c.args.lines.now c.requires.bare) c.requires.empty
    c.in_ok-attach_nothing-in-Some.ensures
    c.settle_others.ensures.messages (done yes)) c.settle_others.ensures.ok
