use Rattle.store_changes.proofs.Common.{on_ok_weaker, state, tables_of}
use Rattle.office_types.specs.declared.change.Change.TheVariants.{SetHead, RemoveMessage, SetSpnBlock, Hold, EnterSpn}
use Rattle.office_types.specs.declared.change.Change.TheVariants.{SetApproval, ClearApprovals}
use Rattle.store_changes.proofs.OneByOne.{added_release, added_signal, any_change, described_signal, numbered_signal}
use Rattle.store_changes.proofs.OneByOne.{own_block, removed_signal, whole_message}
use Rattle.store_changes.proofs.writing.write_change.Goals as goal

pub returns-in-SetHead-clause-written : goal.returns-in-SetHead-clause-written
returns-in-SetHead-clause-written g c clean office =
    any_change c.write_head.result c.args.name.now c.args.change.now (SetHead c.in-SetHead.head) c.args.number
    (tables_of (state g.S.Store c.args.tx.now.conn.now).now.trees)
    (tables_of (state g.S.Store c.write_head.new.tx.conn.now).now.trees)
    c.in-SetHead.is (c.write_head.ensures.written clean office)

pub returns-in-SetMessage-clause-written : goal.returns-in-SetMessage-clause-written
returns-in-SetMessage-clause-written g c clean office =
    whole_message c.write_message.result c.args.name.now c.args.change.now c.in-SetMessage.live c.args.number
    (tables_of (state g.S.Store c.args.tx.now.conn.now).now.trees)
    (tables_of (state g.S.Store c.write_message.new.tx.conn.now).now.trees)
    c.in-SetMessage.is c.write_message.ensures.live (c.write_message.ensures.written clean office)

pub returns-in-RemoveMessage-clause-written : goal.returns-in-RemoveMessage-clause-written
returns-in-RemoveMessage-clause-written g c clean office =
    any_change c.remove_message.result c.args.name.now c.args.change.now (RemoveMessage c.in-RemoveMessage.ident)
    c.args.number (tables_of (state g.S.Store c.args.tx.now.conn.now).now.trees)
    (tables_of (state g.S.Store c.remove_message.new.tx.conn.now).now.trees)
    c.in-RemoveMessage.is (on_ok_weaker c.remove_message.result
    (λ made net. (c.remove_message.ensures.identifier, made.tables_are))
    (c.remove_message.ensures.removed clean office))

pub returns-in-AddSignal-clause-written : goal.returns-in-AddSignal-clause-written
returns-in-AddSignal-clause-written g c clean office =
    added_signal c.add_signal.result c.args.name.now c.args.change.now c.in-AddSignal.message c.in-AddSignal.signal
    c.args.number (tables_of (state g.S.Store c.args.tx.now.conn.now).now.trees)
    (tables_of (state g.S.Store c.add_signal.new.tx.conn.now).now.trees)
    c.in-AddSignal.is (c.add_signal.ensures.written clean office)

pub returns-in-RemoveSignal-clause-written : goal.returns-in-RemoveSignal-clause-written
returns-in-RemoveSignal-clause-written g c clean office =
    removed_signal c.take_signal_out.result c.args.name.now c.args.change.now c.in-RemoveSignal.path c.args.number
    (tables_of (state g.S.Store c.args.tx.now.conn.now).now.trees)
    (tables_of (state g.S.Store c.take_signal_out.new.tx.conn.now).now.trees)
    c.in-RemoveSignal.is (c.take_signal_out.ensures.written clean office)

pub returns-in-SetSpn-clause-written : goal.returns-in-SetSpn-clause-written
returns-in-SetSpn-clause-written g c clean office =
    numbered_signal c.set_signal_spn.result c.args.name.now c.args.change.now c.in-SetSpn.path c.in-SetSpn.spn
    c.args.number (tables_of (state g.S.Store c.args.tx.now.conn.now).now.trees)
    (tables_of (state g.S.Store c.set_signal_spn.new.tx.conn.now).now.trees)
    c.in-SetSpn.is (c.set_signal_spn.ensures.written clean office)

pub returns-in-SetValues-clause-written : goal.returns-in-SetValues-clause-written
returns-in-SetValues-clause-written g c clean office =
    described_signal c.set_signal_values.result c.args.name.now c.args.change.now c.in-SetValues.path
    c.in-SetValues.values c.args.number (tables_of (state g.S.Store c.args.tx.now.conn.now).now.trees)
    (tables_of (state g.S.Store c.set_signal_values.new.tx.conn.now).now.trees)
    c.in-SetValues.is (c.set_signal_values.ensures.written clean office)

pub returns-in-Some-clause-written : goal.returns-in-Some-clause-written
returns-in-Some-clause-written g c clean office =
    added_release c.write_release.result c.args.name.now c.args.change.now c.in-AddRelease.release c.args.number
    c.in-Some.number (tables_of (state g.S.Store c.args.tx.now.conn.now).now.trees)
    (tables_of (state g.S.Store c.write_release.new.tx.conn.now).now.trees)
    c.in-AddRelease.is c.in-Some.is (c.write_release.ensures.written clean office)

pub returns-in-SetSpnBlock-clause-written : goal.returns-in-SetSpnBlock-clause-written
returns-in-SetSpnBlock-clause-written g c clean office =
    any_change c.write_spn_block.result c.args.name.now c.args.change.now (SetSpnBlock c.in-SetSpnBlock.block)
    c.args.number (tables_of (state g.S.Store c.args.tx.now.conn.now).now.trees)
    (tables_of (state g.S.Store c.write_spn_block.new.tx.conn.now).now.trees)
    c.in-SetSpnBlock.is (c.write_spn_block.ensures.written clean office)

pub returns-in-Hold-clause-written : goal.returns-in-Hold-clause-written
returns-in-Hold-clause-written g c clean office =
    any_change c.write_held.result c.args.name.now c.args.change.now (Hold c.in-Hold.ident) c.args.number
    (tables_of (state g.S.Store c.args.tx.now.conn.now).now.trees)
    (tables_of (state g.S.Store c.write_held.new.tx.conn.now).now.trees)
    c.in-Hold.is (c.write_held.ensures.written clean office)

pub returns-in-EnterSpn-clause-written : goal.returns-in-EnterSpn-clause-written
returns-in-EnterSpn-clause-written g c clean office =
    any_change c.write_spn.result c.args.name.now c.args.change.now (EnterSpn c.in-EnterSpn.spn) c.args.number
    (tables_of (state g.S.Store c.args.tx.now.conn.now).now.trees)
    (tables_of (state g.S.Store c.write_spn.new.tx.conn.now).now.trees)
    c.in-EnterSpn.is (c.write_spn.ensures.written clean office)

pub returns-in-SetApproval-clause-written : goal.returns-in-SetApproval-clause-written
returns-in-SetApproval-clause-written g c clean office =
    any_change c.write_approval.result c.args.name.now c.args.change.now (SetApproval c.in-SetApproval.team)
    c.args.number (tables_of (state g.S.Store c.args.tx.now.conn.now).now.trees)
    (tables_of (state g.S.Store c.write_approval.new.tx.conn.now).now.trees)
    c.in-SetApproval.is (c.write_approval.ensures.written clean office)

pub returns-in-ClearApprovals-clause-written : goal.returns-in-ClearApprovals-clause-written
returns-in-ClearApprovals-clause-written g c clean office =
    any_change c.clear_approvals.result c.args.name.now c.args.change.now ClearApprovals c.args.number
    (tables_of (state g.S.Store c.args.tx.now.conn.now).now.trees)
    (tables_of (state g.S.Store c.clear_approvals.new.tx.conn.now).now.trees)
    c.in-ClearApprovals.is (c.clear_approvals.ensures.written clean office)

pub returns-in-SetBlock-clause-written : goal.returns-in-SetBlock-clause-written
returns-in-SetBlock-clause-written g c clean office =
    own_block c.write_block.result c.args.name.now c.args.change.now c.in-SetBlock.granted c.args.number
    (tables_of (state g.S.Store c.args.tx.now.conn.now).now.trees)
    (tables_of (state g.S.Store c.write_block.new.tx.conn.now).now.trees)
    c.in-SetBlock.is (c.write_block.ensures.written clean office)
