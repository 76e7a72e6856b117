use Rattle.dbc_read.proofs.Common.{IfSome_then, IfOk-weaker}
use Rattle.dbc_read.proofs.Building.{have_nothing}
use Rattle.dbc_read.proofs.Settled.{all_follow, finds_signals_same}
use Rattle.dbc_read.proofs.one_by_one.gather_found.Goals as goal

pub settle_all-requires : goal.settle_all-requires
settle_all-requires c = finds_signals_same c.args.finders.now c.args.lines.now c.settle_first.new.lines
    c.settle_first.ensures.messages c.requires.signals

pub returns-clause-ok : goal.returns-clause-ok
returns-clause-ok c =
    IfOk-weaker c.settle_all.result _ _ (λ found settles.
    IfSome_then found settles (λ settled to.
    all_follow c.args.finders.now c.args.nodes.now c.args.lines.now c.settle_first.new.lines c.settle_all.new.lines
    c.args.first settled c.args.statements.now.tokens c.settle_all.new.statements.tokens
    c.args.gathered.now c.attach_nothing.new.gathered c.settle_first.new.gathered c.settle_all.new.gathered
    c.requires.cites c.requires.finds (have_nothing c.args.lines.now c.requires.bare) c.in_ok-attach_nothing.ensures
    c.settle_first.ensures.messages c.settle_all.ensures.messages
    (c.in_ok-settle_first.ensures.settles c.if-not-branch.false) to)) c.settle_all.ensures.ok
